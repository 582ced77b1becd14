-- The number of each rule, and the place that goes with it: an answer with a refusal and the same with its number.
use Rattle.std.specs.Prelude.{ℕ, ⊤, Result, Ok, Err}
use Rattle.rules.specs.declared.refusal.Refusal.{Refusal}
use Rattle.rules.specs.declared.refusal.Refusal.TheVariants as refusals

abbrev pub number : Refusal → ℕ
number refusals.Limits = 1
number refusals.HeapParts = 2
number refusals.OsSinitData = 3
number refusals.HeapElements = 4
number refusals.Pmr = 5
number refusals.ModulePlace = 6
number refusals.ModuleHeader = 7
number refusals.ModuleEntry = 8
number refusals.ModuleTable = 9
number refusals.Chipset = 10
number refusals.OsSinitDataVersion = 11
number refusals.MleSize = 12
number refusals.PageList = 13
number refusals.EntryBits = 14
number refusals.OutsideWindow = 15
number refusals.NotAscending = 16
number refusals.ForbiddenRange = 17
number refusals.TablePages = 18
number refusals.LinearGap = 19
number refusals.NotProtected = 20
number refusals.PageCount = 21
number refusals.MleHeader = 22
number refusals.PolicyRecord = 23
number refusals.NotProduction = 24
number refusals.ModuleVersion = 25
number refusals.PolicyPlace = 26
number (refusals.PolicyGrammar p) = 27
number refusals.PolicyHash = 28
number refusals.NoList = 29
number refusals.Capture = 30
number refusals.PolicyDescription = 31
number refusals.PolicySize = 32
number refusals.PolicyRoom = 33

-- "the place, 0 for all other numbers" than 27
abbrev pub place : Refusal → ℕ
place (refusals.PolicyGrammar p) = p
place r = 0

-- what is answered, with the number of a refusal
abbrev pub numbered : {A : Type 0} → Result A Refusal → Result A ℕ
numbered (Ok a) = Ok a
numbered (Err r) = Err (number r)

-- the number of the first rule that fails, 0 where all hold
abbrev pub failing : Result ⊤ Refusal → ℕ
failing (Ok a) = 0
failing (Err r) = number r

-- the number of an answer, 0 where nothing is refused
abbrev pub number_of : {A : Type 0} → Result A ℕ → ℕ
number_of (Ok a) = 0
number_of (Err n) = n
