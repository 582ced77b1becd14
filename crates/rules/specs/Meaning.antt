-- What rules say, as propositions, in the order they are tried.
use Rattle.std.specs.Prelude.{ℕ, ◌≡◌, ◌⊎◌, List, [], ◌∷◌}

-- a rule's number and what it says
pub record Meaning : Type 1 where
  pub number : ℕ
  pub says : Type 0

abbrev pub meaning : ℕ → Type 0 → Meaning
meaning n p = record { number = n; says = p }

-- every rule says something that is so
abbrev pub AllSay : List Meaning → Type 0
AllSay [] = Unit
AllSay (p ∷ ps) = p.says × AllSay ps

-- the first rule that is broken has the number n: the first of the list, or the first of the rest where that one holds
abbrev pub FirstBroken : List Meaning → ℕ → Type 0
FirstBroken [] n = ⊥
FirstBroken (r ∷ rs) n = ((r.says → ⊥) × (r.number ≡ n)) ⊎ (r.says × FirstBroken rs n)
