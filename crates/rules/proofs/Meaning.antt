-- Rules and their meanings: where each rule holds exactly where what it says is so, all hold exactly where all say what is so, and the number
-- of the first that fails is that of the first that is broken. It is enough that a rule and its meaning agree where the rules before it hold.
use Prim.Native.Nat.{ℕ, ◌<◌}
use mathlib.Core.Path.{◌≡◌, refl, sym}
use mathlib.Core.Logic.{◌↔◌, ◌⊎◌, inl, inr, ⊎_elim}
use mathlib.Core.Bool.{Bool, true, false, cond, true≢false}
use mathlib.Core.List.{List, [], ◌∷◌, ◌++◌}
use native.Mathlib.Omega.{arith}
use Rattle.rules.specs.Rules.{Rule, rule, first_failing, AllHold}
use Rattle.rules.specs.Meaning.{Meaning, meaning, AllSay, FirstBroken}
use Rattle.rules.proofs.Rules.{Numbered, all_exactly, rule_exactly}

-- a rule and a meaning with the same number, not 0, of which the one holds exactly where the other does
pub record Agrees (r : Rule) (p : Meaning) : Type 0 where
  pub positive : 0 < r.number
  pub same : r.number ≡ p.number
  pub exactly : (r.holds ≡ true) ↔ p.says

pub agrees : {n : ℕ} {t : Bool} {P : Type 0} → 0 < n → (t ≡ true) ↔ P → Agrees (rule n t) (meaning n P)
agrees z e = record { positive = z; same = refl; exactly = e }

abbrev pub Agree : List Rule → List Meaning → Type 0
Agree [] [] = Unit
Agree [] (p ∷ ps) = ⊥
Agree (r ∷ rs) [] = ⊥
Agree (r ∷ rs) (p ∷ ps) = Agrees r p × Agree rs ps

-- the later ones need agree only where the first says what is so
abbrev pub InTurn : List Rule → List Meaning → Type 0
InTurn [] [] = Unit
InTurn [] (p ∷ ps) = ⊥
InTurn (r ∷ rs) [] = ⊥
InTurn (r ∷ rs) (p ∷ ps) = Agrees r p × (p.says → InTurn rs ps)

pub in_turn : (rs : List Rule) (ps : List Meaning) → Agree rs ps → InTurn rs ps
in_turn [] [] a = tt
in_turn [] (p ∷ ps) a = absurd a
in_turn (r ∷ rs) [] a = absurd a
in_turn (r ∷ rs) (p ∷ ps) a = (a.0, λ s. in_turn rs ps a.1)

-- JOINED

pub say_append : (ps os : List Meaning) → AllSay (ps ++ os) ↔ (AllSay ps × AllSay os)
say_append [] os = (λ h. (tt, h), λ h. h.1)
say_append (p ∷ ps) os =
    let rest = say_append ps os in
    (λ h. ((h.0, (rest.0 h.1).0), (rest.0 h.1).1), λ h. (h.0.0, rest.1 (h.0.1, h.1)))

pub agree_append : (rs qs : List Rule) (ps os : List Meaning) → Agree rs ps → Agree qs os → Agree (rs ++ qs) (ps ++ os)
agree_append [] qs [] os a b = b
agree_append [] qs (p ∷ ps) os a b = absurd a
agree_append (r ∷ rs) qs [] os a b = absurd a
agree_append (r ∷ rs) qs (p ∷ ps) os a b = (a.0, agree_append rs qs ps os a.1 b)

pub turn_append : (rs qs : List Rule) (ps os : List Meaning) → InTurn rs ps → (AllSay ps → InTurn qs os) → InTurn (rs ++ qs) (ps ++ os)
turn_append [] qs [] os a b = b tt
turn_append [] qs (p ∷ ps) os a b = absurd a
turn_append (r ∷ rs) qs [] os a b = absurd a
turn_append (r ∷ rs) qs (p ∷ ps) os a b = (a.0, λ s. turn_append rs qs ps os (a.1 s) (λ h. b (s, h)))

-- ALL HOLD

pub all_in_turn : (rs : List Rule) (ps : List Meaning) → InTurn rs ps → (first_failing rs ≡ 0) ↔ AllSay ps
all_in_turn [] [] a = (λ e. tt, λ h. refl)
all_in_turn [] (p ∷ ps) a = absurd a
all_in_turn (r ∷ rs) [] a = absurd a
all_in_turn (r ∷ rs) (p ∷ ps) a =
    let first = rule_exactly r.number r.holds (first_failing rs) a.0.positive in
    let one = a.0.exactly in (
      λ e. let h = first.0 e in let s = one.0 h.0 in (s, (all_in_turn rs ps (a.1 s)).0 h.1),
      λ h. first.1 (one.1 h.0, (all_in_turn rs ps (a.1 h.0)).1 h.1),
    )

pub all_mean : (rs : List Rule) (ps : List Meaning) → Agree rs ps → (first_failing rs ≡ 0) ↔ AllSay ps
all_mean rs ps a = all_in_turn rs ps (in_turn rs ps a)

pub numbered : (rs : List Rule) (ps : List Meaning) → Agree rs ps → Numbered rs
numbered [] ps a = tt
numbered (r ∷ rs) [] a = absurd a
numbered (r ∷ rs) (p ∷ ps) a = (a.0.positive, numbered rs ps a.1)

pub all_say : (rs : List Rule) (ps : List Meaning) → Agree rs ps → AllHold rs ↔ AllSay ps
all_say rs ps a =
    let hold = all_exactly rs (numbered rs ps a) in
    let mean = all_mean rs ps a in
    (λ h. mean.0 (hold.1 h), λ h. hold.0 (mean.1 h))

-- THE FIRST THAT IS BROKEN

pub broken_number : (rs : List Rule) (ps : List Meaning) → InTurn rs ps → (n : ℕ) → FirstBroken ps n → 0 < n
broken_number [] [] a n b = absurd b
broken_number [] (p ∷ ps) a n b = absurd a
broken_number (r ∷ rs) [] a n b = absurd a
broken_number (r ∷ rs) (p ∷ ps) a n b =
    ⊎_elim (λ h. omega (arith, a.0, h.1)) (λ h. broken_number rs ps (a.1 h.0) n h.1) b

-- one rule in front of the later ones
in_front : (t : Bool) (later k n : ℕ) {P L : Type 0} → (t ≡ true) ↔ P → (P → (later ≡ n) ↔ L)
    → (cond t later k ≡ n) ↔ (((P → ⊥) × (k ≡ n)) ⊎ (P × L))
in_front true later k n e l =
    let p = e.0 refl in
    (λ h. inr (p, (l p).0 h), ⊎_elim (λ h. absurd (h.0 p)) (λ h. (l p).1 h.1))
in_front false later k n e l = (
  λ h. inl (λ p. true≢false (sym (e.1 p)), h),
  ⊎_elim (λ h. h.1) (λ h. absurd (true≢false (sym (e.1 h.0)))),
)

pub broken_exactly : (rs : List Rule) (ps : List Meaning) → InTurn rs ps → (n : ℕ) → 0 < n → (first_failing rs ≡ n) ↔ FirstBroken ps n
broken_exactly [] [] a n z = (λ e. absurd (omega arith), λ b. absurd b)
broken_exactly [] (p ∷ ps) a n z = absurd a
broken_exactly (r ∷ rs) [] a n z = absurd a
broken_exactly (r ∷ rs) (p ∷ ps) a n z =
    rw a.0.same (in_front r.holds (first_failing rs) p.number n a.0.exactly (λ s. broken_exactly rs ps (a.1 s) n z))
