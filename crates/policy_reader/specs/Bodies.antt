-- The body of an element of a type, by the grammar.
use Rattle.std.specs.Prelude.{ℕ, ◌≡◌, ◌↔◌, Bool, true, List}
use Rattle.policy_grammar.specs.Grammar.{Body, body_bytes, ValidBody}

-- the answer is whether the grammar makes the string from a body of the type
abbrev pub BodyExactly : ℕ → List ℕ → Bool → Type 0
BodyExactly kind s answer = (answer ≡ true) ↔ ((b : Body) × ValidBody kind b × (body_bytes b ≡ s))
