-- The head of a format: a run of fixed fields, each with its width and its rule. Where the fields up to an offset hold, what follows is read there.
-- The field at the offset holds too, and what follows is read after it; or it is short or wrong, and the fault is at the offset.
use Prim.Native.Nat.{ℕ, zero, suc, ◌+◌, ◌-◌, ◌≤◌, ◌<◌}
use native.Mathlib.Omega.{arith}
use mathlib.Core.Path.{◌≡◌, refl, ap, sym, ◌∙◌}
use mathlib.Core.Bool.{Bool, true, false, cond, and-false}
use mathlib.Core.List.{List, [], ◌∷◌}
use lib.ListN.{length, take, drop, length-drop}
use lib.Seq.{drop-drop}
use lib.Dec.{T, leb, eqb, lit≤}
use borrow.Author.Tests.{le-leb, lt-leb, eq-eqb, ne_eqb, eqb-true, eqb-false}
use Rattle.field.specs.Number as Number
use Rattle.field.specs.Field.{number_at}
use Rattle.field.proofs.Laws.{number_at_fits}
use Rattle.policy_grammar.specs.Format.{Format, done, field, ◌>>=◌, number, string, inside}
use Rattle.policy_grammar.specs.Parser.{Read, value, fault, after, continue, exactly, read, filling}
use Rattle.policy_grammar.proofs.Formats.{after_zero, after_after, read_then}

-- the fields of F up to an offset hold, and G is read there
abbrev pub Upto : {A : Type 0} → Format A → List ℕ → ℕ → Format A → Type 0
Upto F s at G = read F s ≡ after at (read G (drop at s))

pub upto_start : {A : Type 0} (F : Format A) (s : List ℕ) → Upto F s 0 F
upto_start F s = sym (after_zero (read F s))

after_fault : {A : Type 0} (n : ℕ) → after {A = A} n (fault 0) ≡ fault n
unfolding after
after_fault n = ap fault (omega arith)

module _ {A : Type 0} (F : Format A) (s : List ℕ) (at k : ℕ) (rule : ℕ → List ℕ → Bool) (next : List ℕ → Format A) (h : Upto F s at (field k rule next)) where
  left_is : length (drop at s) - k ≡ length s - (at + k)
  left_is = rw length-drop (omega arith)

  field_holds : at + k ≤ length s → rule (length s - (at + k)) (take k (drop at s)) ≡ true → Upto F s (at + k) (next (take k (drop at s)))
  unfolding read
  field_holds l o =
      h
      ∙ rw (le-leb k (length (drop at s)) (rw length-drop (omega arith)), left_is, o, drop-drop k at s) (after_after at k (read (next (take k (drop at s))) (drop (at + k) s)))

  field_wrong : rule (length s - (at + k)) (take k (drop at s)) ≡ false → read F s ≡ fault at
  unfolding read
  field_wrong o = h ∙ rw (left_is, o, and-false (leb k (length (drop at s)))) (after_fault at)

  field_short : at ≤ length s → length s < at + k → read F s ≡ fault at
  unfolding read
  field_short u l = h ∙ rw (lt-leb k (length (drop at s)) (rw length-drop (omega arith))) (after_fault at)

-- a field that is a number
number_take : (k : ℕ) (s : List ℕ) → Number.number k (take k s) ≡ Number.number k s
unfolding Number.number
number_take zero s = refl
number_take (suc k) [] = refl
number_take (suc k) (a ∷ s) = rw (number_take k s)

pub at_offset : (s : List ℕ) (at k : ℕ) → T (leb 1 k) → T (leb k 8) → {x : ℕ} → x ≡ number_at s at k → at + k ≤ length s → Number.number k (drop at s) ≡ x
at_offset s at k t u e h = sym (e ∙ number_at_fits s at k (lit≤ t) (lit≤ u) h)

module _ {A : Type 0} (F : Format A) (s : List ℕ) (at k : ℕ) (rule : ℕ → ℕ → Bool) (f : ℕ → Format A) (h : Upto F s at (number k rule >>= f)) where
  pub number_short : at ≤ length s → length s < at + k → read F s ≡ fault at
  unfolding number ◌>>=◌
  number_short u l = field_short F s at k _ _ h u l

  module _ (t : T (leb 1 k)) (u : T (leb k 8)) {x : ℕ} (e : x ≡ number_at s at k) (l : at + k ≤ length s) where
    x_is : Number.number k (take k (drop at s)) ≡ x
    x_is = number_take k (drop at s) ∙ at_offset s at k t u e l

    pub number_holds : rule (length s - (at + k)) x ≡ true → Upto F s (at + k) (f x)
    unfolding number ◌>>=◌
    number_holds o = rw x_is at (field_holds F s at k _ _ h l (rw x_is o))

    pub number_wrong : rule (length s - (at + k)) x ≡ false → read F s ≡ fault at
    unfolding number ◌>>=◌
    number_wrong o = field_wrong F s at k _ _ h (rw x_is o)

-- a field of bytes
module _ {A : Type 0} (F : Format A) (s : List ℕ) (at k : ℕ) (rule : List ℕ → Bool) (f : List ℕ → Format A) (h : Upto F s at (string k rule >>= f)) where
  pub string_holds : at + k ≤ length s → rule (take k (drop at s)) ≡ true → Upto F s (at + k) (f (take k (drop at s)))
  unfolding string ◌>>=◌
  string_holds l o = field_holds F s at k _ _ h l o

  pub string_wrong : rule (take k (drop at s)) ≡ false → read F s ≡ fault at
  unfolding string ◌>>=◌
  string_wrong o = field_wrong F s at k _ _ h o

-- what follows a head: a part, which holds, or whose fault is one of the whole; and the last of a format
module _ {A B : Type 0} (F : Format A) (s : List ℕ) (at n : ℕ) (m : Format B) (f : B → Format A) (h : Upto F s at (inside n m >>= f)) where
  pub part_holds : (b : B) → exactly n (read m (take n (drop at s))) ≡ value b n → Upto F s (at + n) (f b)
  unfolding inside ◌>>=◌ read continue
  part_holds b e = h ∙ rw (e, drop-drop n at s) (after_after at n (read (f b) (drop (at + n) s)))

  pub part_wrong : (p : ℕ) → exactly n (read m (take n (drop at s))) ≡ fault p → read F s ≡ fault (at + p)
  unfolding inside ◌>>=◌ read continue after
  part_wrong p e = h ∙ rw e

-- what is read, with its value taken further
abbrev pub over : {A B : Type 0} → (B → A) → Read B → Read A
over f (value b n) = value (f b) n
over f (fault p) = fault p

module _ {A B : Type 0} (f : B → A) (X : List ℕ) where
  ended : (g : Read B) → continue (λ b. read (done (f b))) X g ≡ over f g
  unfolding continue read after
  ended (value b n) = ap (value (f b)) (omega arith)
  ended (fault p) = refl

  filled : (k L l : ℕ) → L ≡ k + l → (g : Read B) → exactly L (after k (over f g)) ≡ after k (over f (exactly l g))
  unfolding exactly after
  filled k L l e (fault p) = refl
  filled k L l e (value b n) = go (eqb n l) refl
    where
      go : (x : Bool) → eqb n l ≡ x → cond (eqb (k + n) L) (value (f b) (k + n)) (fault (k + n)) ≡ after k (over f (cond x (value b n) (fault n)))
      go true q = rw (eq-eqb (k + n) L (omega (arith, eqb-true n l q)))
      go false q = rw (ne_eqb (k + n) L (λ z. eqb-false n l q (omega arith)))

module _ {A B : Type 0} (F : Format A) (s : List ℕ) (at : ℕ) (m : Format B) (f : B → A) (h : Upto F s at (m >>= λ b. done (f b))) where
  pub last_read : read F s ≡ after at (over f (read m (drop at s)))
  last_read = h ∙ ap (after at) (read_then (λ b. done (f b)) m (drop at s) ∙ ended f (drop at s) (read m (drop at s)))

  pub last_filling : at ≤ length s → filling F s ≡ after at (over f (filling m (drop at s)))
  last_filling l = ap (exactly (length s)) last_read ∙ filled f (drop at s) at (length s) (length (drop at s)) (omega (arith, length-drop at s)) (read m (drop at s))

over_none : {A : Type 0} (g : Read A) → over (λ (a : A). a) g ≡ g
over_none (value a n) = refl
over_none (fault p) = refl

pub inside_read : {A : Type 0} (n : ℕ) (m : Format A) (s : List ℕ) → length (take n s) ≡ n → read (inside n m) s ≡ filling m (take n s)
unfolding inside read
inside_read {A = A} n m s h = ended (λ (a : A). a) s (exactly n (read m (take n s))) ∙ over_none (exactly n (read m (take n s))) ∙ ap (λ (k : ℕ). exactly k (read m (take n s))) (sym h)
