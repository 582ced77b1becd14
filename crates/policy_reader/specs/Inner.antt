-- What the contracts of functions cite that are not public.
use Rattle.std.specs.Prelude.{ℕ, ◌+◌, cond, List, eqb, Result, Ok, Err}
use Rattle.field.specs.declared.Fault.{Fault}
use Rattle.field.specs.Field.{number_at}
use Rattle.policy_grammar.specs.Grammar.{launch_type, stm_type, custom_type, Reading}
use Rattle.policy_grammar.specs.Parser.{Read, value, fault}
use Rattle.policy_answers.specs.declared.ElementBody.{ElementBody}
use Rattle.policy_answers.specs.declared.ElementBody.TheVariants.{Launch, Stm, Custom, Unjudged}

abbrev pub Extent : Type 0
Extent = Result ℕ Fault

abbrev pub fault_at : ℕ → Fault
fault_at p = record { at = p }

-- how many bytes were read, or the offset of the fault
abbrev pub extent_of : {A : Type 0} → Read A → Extent
extent_of (value a n) = Ok n
extent_of (fault p) = Err (fault_at p)

-- what is read n bytes on
abbrev pub further : ℕ → Extent → Extent
further n (Ok k) = Ok (n + k)
further n (Err f) = Err (fault_at (n + f.at))

-- how far was read
abbrev pub end : Extent → ℕ
end (Ok n) = n
end (Err f) = f.at

-- the list count of a file, or the offset of the fault
abbrev pub counted_of : Read Reading → Extent
counted_of (value r n) = Ok r.list_count
counted_of (fault p) = Err (fault_at p)

-- the numbers of the body of an element of a type that stands at the front of a string
abbrev pub body_numbers : List ℕ → ℕ → ElementBody
body_numbers t type =
    cond (eqb type launch_type) (Launch (number_at t 12 1) (number_at t 13 1) (number_at t 14 2) (number_at t 16 2))
    (cond (eqb type stm_type) (Stm (number_at t 12 2) (number_at t 14 2)) (cond (eqb type custom_type) Custom (Unjudged type)))
