-- Which ranges of the platform never change the answer, the page list or the measurement: those past the count.
use Rattle.std.specs.Prelude.{◌≡◌, List, ℕ}
use Rattle.launch.specs.declared.Platform.{Platform}
use Rattle.launch.specs.declared.ReservedRanges.{ReservedRanges}
use Rattle.launch.specs.Rules.{Input, input_of, reserved_numbers}
use Rattle.launch.specs.Answer.{answer_of, places_of, measurement_of}

-- the same platform with other reserved ranges
abbrev pub reserving : Platform → ReservedRanges → Platform
reserving p r =
    record {
      window_base = p.window_base;
      heap_base = p.heap_base;
      sinit_base = p.sinit_base;
      dpr_base = p.dpr_base;
      dpr_size = p.dpr_size;
      acram_capacity = p.acram_capacity;
      vendor = p.vendor;
      device = p.device;
      revision = p.revision;
      reserved = r;
    }

abbrev pub with_reserved : Input → ReservedRanges → Input
with_reserved i r = input_of i.window i.heap i.sinit i.policy_record i.stm (reserving i.platform r) i.places

-- as many ranges, and the same within the count
pub record SameWithin (r s : ReservedRanges) : Type 0 where
  pub count : r.count ≡ s.count
  pub numbers : reserved_numbers r ≡ reserved_numbers s

-- "ranges past the count are ignored"
abbrev pub PastCountIgnored : Type 0
PastCountIgnored = (i : Input) (r s : ReservedRanges) (places : List ℕ) → SameWithin r s
    → (answer_of (with_reserved i r) ≡ answer_of (with_reserved i s))
    × (places_of (with_reserved i r) places ≡ places_of (with_reserved i s) places)
    × (measurement_of (with_reserved i r) ≡ measurement_of (with_reserved i s))
