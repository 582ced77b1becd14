-- Bytes of the heap that never change the answer or the page list.
use Rattle.std.specs.Prelude.{ℕ, ◌≡◌, List}
use Rattle.heap.specs.Bodies.{SameElsewhere}
use Rattle.launch.specs.Rules.{Input}
use Rattle.launch.specs.Answer.{answer_of, places_of}

-- two inputs that differ in nothing but the bodies of BiosData, OsMleData and skipped elements of the heap, and in what no rule reads
pub record SameButBodies (i j : Input) : Type 0 where
  pub window : i.window ≡ j.window
  pub heap : SameElsewhere i.heap j.heap
  pub sinit : i.sinit ≡ j.sinit
  pub policy_record : i.policy_record ≡ j.policy_record
  pub stm : i.stm ≡ j.stm
  pub platform : i.platform ≡ j.platform
  pub places : i.places ≡ j.places

-- "The bodies of BiosData, OsMleData and of skipped elements never change an answer when all else, sizes and window included, is the same."
abbrev pub BodiesNeverMatter : Type 0
BodiesNeverMatter = (i j : Input) (places : List ℕ) → SameButBodies i j → (answer_of i ≡ answer_of j) × (places_of i places ≡ places_of j places)
