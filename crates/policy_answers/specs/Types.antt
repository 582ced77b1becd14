-- What the reader answers, as types: of a string its list count or why it is refused; a list, a part, an element, or that there is none.
use Rattle.std.specs.Prelude.{ℕ, Option, Result}
use Rattle.policy_answers.specs.declared.FileFault.{FileFault}
use Rattle.policy_answers.specs.declared.ListAt.{ListAt}
use Rattle.policy_answers.specs.declared.SigningAt.{SigningAt}
use Rattle.policy_answers.specs.declared.Part.{Part}
use Rattle.policy_answers.specs.declared.ElementAt.{ElementAt}

abbrev pub FileAnswer : Type 0
FileAnswer = Result ℕ FileFault

abbrev pub ListAnswer : Type 0
ListAnswer = Option ListAt

-- what signs a list, if it is signed
abbrev pub Signed : Type 0
Signed = Option SigningAt

abbrev pub PartAnswer : Type 0
PartAnswer = Option Part

abbrev pub ElementAnswer : Type 0
ElementAnswer = Option ElementAt
