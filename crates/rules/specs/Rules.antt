-- Rules in the order they are tried: the first that fails gives the number.
use Rattle.std.specs.Prelude.{ℕ, zero, suc, ◌≡◌, ◌⊎◌, Bool, true, false, cond, ◌&&◌, List, [], ◌∷◌, ◌++◌}

-- a rule: the number that is given when it fails, and whether it holds
pub record Rule : Type 0 where
  pub number : ℕ
  pub holds : Bool

abbrev pub rule : ℕ → Bool → Rule
rule n b = record { number = n; holds = b }

-- a rule of several conditions: every one of them holds
unfoldable pub all : List Bool → Bool
all [] = true
all (b ∷ bs) = b && all bs

-- the number of the first rule that fails, 0 where all hold
abbrev pub first_failing : List Rule → ℕ
first_failing [] = 0
first_failing (r ∷ rs) = cond r.holds (first_failing rs) r.number

-- the number of some rules, or where it is 0 that of later ones
abbrev pub or_else : ℕ → ℕ → ℕ
or_else zero later = later
or_else (suc n) later = suc n

-- something is so of every value of a list, of some value
abbrev pub Every : {A : Type 0} → (A → Type 0) → List A → Type 0
Every P [] = Unit
Every P (x ∷ xs) = P x × Every P xs

abbrev pub Some : {A : Type 0} → (A → Type 0) → List A → Type 0
Some P [] = ⊥
Some P (x ∷ xs) = P x ⊎ Some P xs

abbrev pub AllHold : List Rule → Type 0
AllHold rs = Every (λ (r : Rule). r.holds ≡ true) rs

-- a rule with the number n fails, and all rules before it hold
pub record FirstFails (rs : List Rule) (n : ℕ) : Type 0 where
  pub before : List Rule
  pub failing : Rule
  pub after : List Rule
  pub split : rs ≡ before ++ (failing ∷ after)
  pub earlier : AllHold before
  pub fails : failing.holds ≡ false
  pub numbered : failing.number ≡ n

-- the answer for a number: 0 gives a value, every other number is a refusal with it
unfoldable pub answer_for : {A : Type 0} → (ℕ → A) → A → ℕ → A
answer_for refused a zero = a
answer_for refused a (suc n) = refused (suc n)

-- the answer by rules: the value where all hold, else a refusal with the number of the first that fails
abbrev pub answer_by : {A : Type 0} → (ℕ → A) → A → List Rule → A
answer_by refused a rs = answer_for refused a (first_failing rs)
