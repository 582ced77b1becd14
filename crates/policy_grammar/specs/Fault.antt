-- What a first fault is, said of the fields and not of how they are read: `FirstFault`, and of a whole file `FirstFaultIn`. A string that no reading makes has
-- one, and one only. That the fault which is read is the first is `fault_exactly` of proofs/Faults.antt, where `one_place` is too; that the fields of a
-- whole file are those of the grammar is `made_exactly` of proofs/Decoding.antt, where `some_place` is.
use Rattle.std.specs.Prelude.{ℕ, ◌+◌, ◌≤◌, ◌≡◌, ◌↔◌, ◌⊎◌, true, List, [], ◌++◌, length, take}
use Rattle.field.specs.Number.{Bytes}
use Rattle.policy_grammar.specs.Format.{Format, done, field, part, bytes_left}
use Rattle.policy_grammar.specs.Parser.{fault}
use Rattle.policy_grammar.specs.Grammar.{Reading, Makes}
use Rattle.policy_grammar.specs.Layout.{whole}
use Rattle.policy_grammar.specs.Decode.{reading}

-- all the fields stand at the front of s and obey their rules; a is their value, and t is left
unfoldable pub Stands : {A : Type 0} → Format A → A → List ℕ → List ℕ → Type 0
Stands (done b) a s t = (b ≡ a) × (s ≡ t)
Stands (field k rule next) a s t =
    (b : List ℕ) × (u : List ℕ) × (b ++ u ≡ s) × (length b ≡ k) × (rule (length u) b ≡ true) × Stands (next b) a u t
Stands (part {B = B} n inner next) a s t =
    (b : B) × (w : List ℕ) × (u : List ℕ) × (w ++ u ≡ s) × (length w ≡ n) × Stands inner b w [] × Stands (next b) a u t
Stands (bytes_left next) a s t = Stands (next (length s)) a s t

-- the fields before the offset p stand at the front of s and obey their rules; the fields of a part have no bytes but its own
unfoldable pub Reaches : {A : Type 0} → Format A → List ℕ → ℕ → Type 0
Reaches (done b) s p = p ≡ 0
Reaches (field k rule next) s p =
    (p ≡ 0)
    ⊎ ((b : List ℕ) × (u : List ℕ) × (q : ℕ) × (b ++ u ≡ s) × (length b ≡ k) × (rule (length u) b ≡ true) × Reaches (next b) u q × (p ≡ k + q))
Reaches (part {B = B} n inner next) s p =
    Reaches inner (take n s) p
    ⊎ ((b : B) × (w : List ℕ) × (u : List ℕ) × (q : ℕ) × (w ++ u ≡ s) × (length w ≡ n) × Stands inner b w [] × Reaches (next b) u q × (p ≡ n + q))
Reaches (bytes_left next) s p = Reaches (next (length s)) s p

-- the first field that does not fit or breaks its rule, or the first byte after the last field of a part that is longer, is at p: not all the fields
-- stand, those before p do, and no further offset is reached
pub record FirstFault {A : Type 0} (fields : Format A) (s : List ℕ) (p : ℕ) : Type 0 where
  pub refused : (a : A) (t : List ℕ) → Stands fields a s t → ⊥
  pub reached : Reaches fields s p
  pub furthest : (q : ℕ) → Reaches fields s q → q ≤ p

-- "the offset of the first field, in file order, whose rule fails or that does not fit", of a string as a whole file
abbrev pub FirstFaultIn : List ℕ → ℕ → Type 0
FirstFaultIn s p = FirstFault (whole (length s)) s p

-- it is the fault with which the string is read
abbrev pub FaultExactly : Type 0
FaultExactly = (s : List ℕ) (p : ℕ) → (reading s ≡ fault p) ↔ FirstFaultIn s p

-- no string has two first faults
abbrev pub OnePlace : Type 0
OnePlace = (s : List ℕ) (p q : ℕ) → FirstFaultIn s p → FirstFaultIn s q → p ≡ q

-- a string has a first fault exactly where no reading makes it
abbrev pub SomePlace : Type 0
SomePlace = (s : List ℕ) → Bytes s → ((p : ℕ) × FirstFaultIn s p) ↔ ((r : Reading) → Makes r s → ⊥)

-- the fields of a whole file stand in a string with the reading that makes it, and with no other
abbrev pub MadeExactly : Type 0
MadeExactly = (s : List ℕ) (r : Reading) → Bytes s → Stands (whole (length s)) r s [] ↔ Makes r s
