-- The number of a list of rules is 0 exactly where all hold, and is another number exactly where the first rule that fails has it.
use Prim.Native.Nat.{ℕ, zero, suc, ◌≤◌, ◌<◌}
use mathlib.Core.Path.{◌≡◌, refl, sym, ap, ◌∙◌}
use mathlib.Core.Logic.{◌↔◌}
use mathlib.Core.Bool.{Bool, true, false, cond}
use mathlib.Core.List.{List, [], ◌∷◌, ◌++◌, append-nil}
use native.Mathlib.Omega.{arith}
use Rattle.rules.specs.Rules.{Rule, first_failing, or_else, Every, AllHold, FirstFails}

-- no rule has the number 0, which says that all hold
abbrev pub Numbered : List Rule → Type 0
Numbered rs = Every (λ (r : Rule). 0 < r.number) rs

-- rules that hold are passed over
pub passed : (rs later : List Rule) → AllHold rs → first_failing (rs ++ later) ≡ first_failing later
passed [] later h = refl
passed (r ∷ rs) later h = rw h.0 (passed rs later h.1)

-- and rules after one that fails are not tried
pub stopped : (rs later : List Rule) (n : ℕ) → 0 < n → first_failing rs ≡ n → first_failing (rs ++ later) ≡ n
stopped [] later n z e = absurd (omega arith)
stopped (r ∷ rs) later n z e = by r.holds (stopped rs later n z) e
  where
    by : (b : Bool) → (first_failing rs ≡ n → first_failing (rs ++ later) ≡ n) → cond b (first_failing rs) r.number ≡ n
        → cond b (first_failing (rs ++ later)) r.number ≡ n
    by true rest h = rest h
    by false rest h = h

holds_first : (b : Bool) (m n : ℕ) → 0 < n → cond b m n ≡ 0 → (b ≡ true) × (m ≡ 0)
holds_first true m n z e = (refl, e)
holds_first false m n z e = absurd (omega arith)

all_hold : (rs : List Rule) → Numbered rs → first_failing rs ≡ 0 → AllHold rs
all_hold [] z e = tt
all_hold (r ∷ rs) z e =
    let h = holds_first r.holds (first_failing rs) r.number z.0 e in
    (h.0, all_hold rs z.1 h.1)

pub all_exactly : (rs : List Rule) → Numbered rs → (first_failing rs ≡ 0) ↔ AllHold rs
all_exactly rs z = (all_hold rs z, λ h. rw append-nil at (passed rs [] h))

-- one more rule in front
fails_next : (r : Rule) (rs : List Rule) (n : ℕ) (t : Bool) → r.holds ≡ t → cond t (first_failing rs) r.number ≡ n
    → (first_failing rs ≡ n → FirstFails rs n) → FirstFails (r ∷ rs) n
fails_next r rs n true t e rest =
    let f = rest e in
    record {
      before = r ∷ f.before;
      failing = f.failing;
      after = f.after;
      split = ap (r ∷◌) f.split;
      earlier = (t, f.earlier);
      fails = f.fails;
      numbered = f.numbered;
    }
fails_next r rs n false t e rest =
    record { before = []; failing = r; after = rs; split = refl; earlier = tt; fails = t; numbered = e }

fails_first : (rs : List Rule) (n : ℕ) → 0 < n → first_failing rs ≡ n → FirstFails rs n
fails_first [] n z e = absurd (omega arith)
fails_first (r ∷ rs) n z e = fails_next r rs n r.holds refl e (fails_first rs n z)

pub first_exactly : (rs : List Rule) (n : ℕ) → 0 < n → (first_failing rs ≡ n) ↔ FirstFails rs n
first_exactly rs n z = (
  fails_first rs n z,
  λ f. ap first_failing f.split ∙ passed f.before (f.failing ∷ f.after) f.earlier ∙ rw f.fails f.numbered,
)

-- RULES JOINED

pub every_append : (P : Rule → Type 0) (rs later : List Rule) → Every P rs → Every P later → Every P (rs ++ later)
every_append P [] later y z = z
every_append P (r ∷ rs) later y z = (y.0, every_append P rs later y.1 z)

pub every_map : (P Q : Rule → Type 0) → ((r : Rule) → P r → Q r) → (rs : List Rule) → Every P rs → Every Q rs
every_map P Q f [] h = tt
every_map P Q f (r ∷ rs) h = (f r h.0, every_map P Q f rs h.1)

pub every_split : (P : Rule → Type 0) (rs later : List Rule) → Every P (rs ++ later) → Every P rs × Every P later
every_split P [] later h = (tt, h)
every_split P (r ∷ rs) later h = let s = every_split P rs later h.1 in ((h.0, s.0), s.1)

pub all_append : (rs later : List Rule) → AllHold (rs ++ later) ↔ (AllHold rs × AllHold later)
all_append rs later = (every_split _ rs later, λ h. every_append _ rs later h.0 h.1)

-- the number of two lists in turn
pub or_else_number : (n later : ℕ) → 0 < n → or_else n later ≡ n
or_else_number zero later z = absurd (omega arith)
or_else_number (suc n) later z = refl

pub or_else_none : (n : ℕ) → n ≡ or_else n 0
or_else_none zero = refl
or_else_none (suc n) = refl

pub or_else_order : (n a b : ℕ) → or_else (or_else n a) b ≡ or_else n (or_else a b)
or_else_order zero a b = refl
or_else_order (suc n) a b = refl

pub or_else_zero : (n later : ℕ) → (or_else n later ≡ 0) ↔ ((n ≡ 0) × (later ≡ 0))
or_else_zero zero later = (λ e. (refl, e), λ h. h.1)
or_else_zero (suc n) later = (λ e. absurd (omega arith), λ h. absurd (omega (arith, h.0)))

pub first_append : (rs later : List Rule) → Numbered rs → first_failing (rs ++ later) ≡ or_else (first_failing rs) (first_failing later)
first_append [] later z = refl
first_append (r ∷ rs) later z = by r.holds (first_append rs later z.1)
  where
    by : (b : Bool) → first_failing (rs ++ later) ≡ or_else (first_failing rs) (first_failing later)
        → cond b (first_failing (rs ++ later)) r.number ≡ or_else (cond b (first_failing rs) r.number) (first_failing later)
    by true e = e
    by false e = sym (or_else_number r.number (first_failing later) z.0)

-- one rule in front: the number is 0 exactly where it holds and the number of the later ones is 0
pub rule_exactly : (n : ℕ) (b : Bool) (later : ℕ) → 0 < n → (cond b later n ≡ 0) ↔ ((b ≡ true) × (later ≡ 0))
rule_exactly n b later z = (holds_first b later n z, λ h. rw h.0 h.1)

-- NUMBERS WITHIN BOUNDS

abbrev pub NumbersIn : ℕ → ℕ → List Rule → Type 0
NumbersIn least most rs = Every (λ (r : Rule). (least ≤ r.number) × (r.number ≤ most)) rs

pub numbers_not_0 : (least most : ℕ) (rs : List Rule) → 0 < least → NumbersIn least most rs → Numbered rs
numbers_not_0 least most rs z h = every_map _ _ (λ r b. omega (arith, b.0)) rs h

-- no number is over the highest
pub number_most : (least most : ℕ) (rs : List Rule) → NumbersIn least most rs → first_failing rs ≤ most
number_most least most [] h = omega arith
number_most least most (r ∷ rs) h = by r.holds (number_most least most rs h.1)
  where
    by : (b : Bool) → first_failing rs ≤ most → cond b (first_failing rs) r.number ≤ most
    by true rest = rest
    by false rest = h.0.1

-- where no number of the first list is over a bound, a number over the bound comes from the second
pub from_later : (least most n : ℕ) (rs later : List Rule) → NumbersIn least most rs → most < n → first_failing (rs ++ later) ≡ n → first_failing later ≡ n
from_later least most n [] later y l e = e
from_later least most n (r ∷ rs) later y l e = by r.holds (from_later least most n rs later y.1 l) e
  where
    by : (b : Bool) → (first_failing (rs ++ later) ≡ n → first_failing later ≡ n) → cond b (first_failing (rs ++ later)) r.number ≡ n → first_failing later ≡ n
    by true rest h = rest h
    by false rest h = absurd (omega (arith, y.0.1))
