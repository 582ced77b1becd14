-- The capture file: what the check is handed over, in one string, and the answer for it. Version 2 has the ranges that the platform reserves.
use Rattle.std.specs.Prelude.{ℕ, zero, suc, ◌+◌, ◌-◌, ◌*◌, ◌≤◌, ◌≡◌, ◌↔◌, ◌⊎◌, Bool, true, cond, ◌||◌, List, [], ◌∷◌, ◌++◌, leb, eqb, length, take, drop, replicate}
use Rattle.field.specs.Field.{number_at, marked_at}
use Rattle.rules.specs.Rules.{all}
use Rattle.launch.specs.declared.ReservedRanges.{ReservedRanges}
use Rattle.launch.specs.declared.Platform.{Platform}
use Rattle.answer.specs.declared.Answer.{Answer}
use Rattle.answer.specs.Answer.{refused}
use Rattle.launch.specs.Rules.{Input, most_reserved}
use Rattle.launch.specs.Answer.{answer_of, places_of}
use Rattle.capture.specs.declared.Offsets.{Offsets}

-- "mark `LPC`, 16-bit version"
abbrev pub mark : List ℕ
mark = 0x4C ∷ 0x50 ∷ 0x43 ∷ []

abbrev pub version : List ℕ → ℕ
version s = number_at s 3 2

abbrev pub known_version : ℕ → Bool
known_version v = eqb v 1 || eqb v 2

-- THE PLATFORM

-- where the chipset revision ends
abbrev pub revision_end : ℕ
revision_end = 59

-- "a 16-bit count" "after the chipset revision", in version 2
unfoldable pub range_count : List ℕ → ℕ
range_count s = cond (eqb (version s) 2) (number_at s revision_end 2) 0

-- "and that many pairs of 64-bit base and size": n numbers of 64 bits from an offset on
unfoldable pub numbers_at : List ℕ → ℕ → ℕ → List ℕ
numbers_at s at zero = []
numbers_at s at (suc n) = numbers_at s at n ++ number_at s (at + 8 * n) 8 ∷ []

abbrev pub ranges_at : ℕ
ranges_at = revision_end + 2

-- zeros stand past the count
unfoldable pub reserved_of : List ℕ → ReservedRanges
reserved_of s =
    record {
      count = range_count s;
      numbers = numbers_at s ranges_at (2 * range_count s) ++ replicate (2 * most_reserved - 2 * range_count s) 0;
    }

-- "the platform record in the order above": window base, heap base, SINIT base, DPR base, DPR size, ACRAM capacity; chipset vendor, device, revision
abbrev pub platform_with : List ℕ → ReservedRanges → Platform
platform_with s reserved =
    record {
      window_base = number_at s 5 8;
      heap_base = number_at s 13 8;
      sinit_base = number_at s 21 8;
      dpr_base = number_at s 29 8;
      dpr_size = number_at s 37 8;
      acram_capacity = number_at s 45 8;
      vendor = number_at s 53 2;
      device = number_at s 55 2;
      revision = number_at s 57 2;
      reserved = reserved;
    }

-- THE PARTS

-- "four 32-bit lengths (window, heap, module, record)" stand at an offset, and behind them "the four parts": where each begins
module _ (s : List ℕ) (at : ℕ) where
  abbrev pub window_length : ℕ
  window_length = number_at s at 4

  abbrev pub heap_length : ℕ
  heap_length = number_at s (at + 4) 4

  abbrev pub sinit_length : ℕ
  sinit_length = number_at s (at + 8) 4

  abbrev pub record_length : ℕ
  record_length = number_at s (at + 12) 4

  abbrev pub window_at : ℕ
  window_at = at + 16

  abbrev pub heap_at : ℕ
  heap_at = window_at + window_length

  abbrev pub sinit_at : ℕ
  sinit_at = heap_at + heap_length

  abbrev pub record_at : ℕ
  record_at = sinit_at + sinit_length

  abbrev pub end_at : ℕ
  end_at = record_at + record_length

  abbrev pub offsets_from : Offsets
  offsets_from = record { window = window_at; heap = heap_at; sinit = sinit_at; policy_record = record_at; end = end_at }

  -- what is handed over, for a page list of so many places; "the capture program lends an empty" STM image
  abbrev pub input_from : ReservedRanges → ℕ → Input
  input_from reserved places =
      record {
        window = take window_length (drop window_at s);
        heap = take heap_length (drop heap_at s);
        sinit = take sinit_length (drop sinit_at s);
        policy_record = take record_length (drop record_at s);
        stm = [];
        platform = platform_with s reserved;
        places = places;
      }

-- the lengths follow the chipset revision in version 1, and the ranges in version 2
unfoldable pub lengths_at : List ℕ → ℕ
lengths_at s = cond (eqb (version s) 2) (ranges_at + 16 * range_count s) revision_end

-- CAPTURES

-- "at most 65,536 in all, nothing after"
abbrev pub largest : ℕ
largest = 65536

-- what both versions must have, with the four lengths at an offset
abbrev pub tests_from : List ℕ → ℕ → List Bool
tests_from s at =
    leb (window_at s at) (length s)
    ∷ leb (length s) largest
    ∷ marked_at s 0 mark
    ∷ eqb (end_at s at) (length s)
    ∷ []

unfoldable pub capture_tests : List ℕ → List Bool
capture_tests s =
    known_version (version s)
    -- "a count over 16 there is 30"
    ∷ leb (range_count s) most_reserved
    ∷ tests_from s (lengths_at s)

-- the same as plain propositions
pub record IsCapture (s : List ℕ) : Type 0 where
  pub known : (version s ≡ 1) ⊎ (version s ≡ 2)
  pub counted : range_count s ≤ most_reserved
  pub least : window_at s (lengths_at s) ≤ length s
  pub most : length s ≤ largest
  pub marked : take (length mark) s ≡ mark
  pub whole : end_at s (lengths_at s) ≡ length s

abbrev pub CaptureExactly : Type 0
CaptureExactly = (s : List ℕ) → (all (capture_tests s) ≡ true) ↔ IsCapture s

abbrev pub input_in : List ℕ → ℕ → Input
input_in s places = input_from s (lengths_at s) (reserved_of s) places

-- "Otherwise 30."
abbrev pub not_capture : ℕ
not_capture = 30

unfoldable pub capture_answer : List ℕ → ℕ → Answer
capture_answer s places = cond (all (capture_tests s)) (answer_of (input_in s places)) (refused not_capture 0)

-- the page list, when the check has answered
unfoldable pub capture_places : List ℕ → List ℕ → List ℕ
capture_places s places = cond (all (capture_tests s)) (places_of (input_in s (length places)) places) places

-- no number is over 30
abbrev pub NumberMost : Type 0
NumberMost = (s : List ℕ) (places : ℕ) → (capture_answer s places).number ≤ not_capture

-- VERSION 1

-- a count of 0
abbrev pub none_reserved : ReservedRanges
none_reserved = record { count = 0; numbers = replicate (2 * most_reserved) 0 }

-- "Version 1 files keep the answers": that of the check for the four parts behind 75 bytes, where it has them, with no range reserved, and else 30
abbrev pub VersionOne : Type 0
VersionOne = (s : List ℕ) (places : List ℕ) → version s ≡ 1
    → (capture_answer s (length places)
    ≡ cond (all (tests_from s revision_end)) (answer_of (input_from s revision_end none_reserved (length places))) (refused not_capture 0))
    × (capture_places s places ≡ cond (all (tests_from s revision_end)) (places_of (input_from s revision_end none_reserved (length places)) places) places)
