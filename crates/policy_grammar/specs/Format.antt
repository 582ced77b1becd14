-- The format of a string: its fields in file order, each with its width and its rule. What follows a field may depend on its value, and on the number
-- of bytes that are left of the part that holds it.
use Rattle.std.specs.Prelude.{ℕ, zero, suc, Bool, true, cond, List, [], ◌∷◌, eqb}
use Rattle.field.specs.Number as Number

pub data Format : Type 0 → Type 1 where
  -- no further field
  done : {A : Type 0} → A → Format A
  -- a field of so many bytes, with a rule on the number of bytes left after it and on its bytes
  field : {A : Type 0} → ℕ → (ℕ → List ℕ → Bool) → (List ℕ → Format A) → Format A
  -- a part of so many bytes, which its fields fill
  part : {A B : Type 0} → ℕ → Format B → (B → Format A) → Format A
  -- what depends on the number of bytes left
  bytes_left : {A : Type 0} → (ℕ → Format A) → Format A

-- one format and then the next, which may depend on the value of the first
infixl 20 ◌>>=◌
unfoldable pub ◌>>=◌ : {A B : Type 0} → Format A → (A → Format B) → Format B
◌>>=◌ (done a) f = f a
◌>>=◌ (field k rule next) f = field k rule (λ b. next b >>= f)
◌>>=◌ (part n inner next) f = part n inner (λ b. next b >>= f)
◌>>=◌ (bytes_left next) f = bytes_left (λ n. next n >>= f)

-- a number of k bytes, with a rule on the number of bytes left after it and on its value
unfoldable pub number : ℕ → (ℕ → ℕ → Bool) → Format ℕ
number k rule = field k (λ left b. rule left (Number.number k b)) (λ b. done (Number.number k b))

-- a field of k bytes, with a rule on them
unfoldable pub string : ℕ → (List ℕ → Bool) → Format (List ℕ)
string k rule = field k (λ left b. rule b) (λ b. done b)

-- the rules of a field that may hold anything
abbrev pub any : ℕ → ℕ → Bool
any left x = true

abbrev pub any_bytes : List ℕ → Bool
any_bytes b = true

-- all that is left
unfoldable pub rest : Format (List ℕ)
rest = bytes_left (λ n. string n any_bytes)

-- what fills n bytes
unfoldable pub inside : {A : Type 0} → ℕ → Format A → Format A
inside n m = part n m (λ a. done a)

-- n values in a row
unfoldable pub times : {A : Type 0} → ℕ → Format A → Format (List A)
times zero m = done []
times (suc n) m = do
  a ← m
  l ← times n m
  done (a ∷ l)

-- values in a row as long as bytes are left, but at most n
unfoldable pub many : {A : Type 0} → ℕ → Format A → Format (List A)
many zero m = done []
many (suc n) m =
    let more = do
      a ← m
      l ← many n m
      done (a ∷ l)
    in bytes_left (λ left. cond (eqb left 0) (done []) more)
