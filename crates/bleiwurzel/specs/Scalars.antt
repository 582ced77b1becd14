-- The platform, which is passed number by number, with the reserved ranges in an array, and the answer, which is given as a number and arrays.
use Rattle.std.specs.Prelude.{ℕ, ◌≡◌, List, [], ◌∷◌}
use Rattle.launch.specs.declared.Platform.{Platform}
use Rattle.answer.specs.declared.Answer.{Answer}
use Rattle.launch.specs.Rules.{Input}
use Rattle.launch.specs.Answer.{answer_of, places_of, measurement_of}

abbrev pub platform_of : ℕ → ℕ → ℕ → ℕ → ℕ → ℕ → ℕ → ℕ → ℕ → ℕ → List ℕ → Platform
platform_of window heap sinit dpr dprSize capacity vendor device revision count reserved =
    record {
      window_base = window;
      heap_base = heap;
      sinit_base = sinit;
      dpr_base = dpr;
      dpr_size = dprSize;
      acram_capacity = capacity;
      vendor = vendor;
      device = device;
      revision = revision;
      reserved = record { count = count; numbers = reserved };
    }

-- how many pages, and the list
abbrev pub counts_of : Answer → List ℕ
counts_of a = a.pages ∷ a.list ∷ []

-- how an answer and the page list that goes with it are given: the number as the result, how many pages and the list in one array, the place and the
-- digest in others
pub record Given (answer : Answer) (places : List ℕ) (result : ℕ) (pages counts place digest : List ℕ) : Type 0 where
  pub the_number : result ≡ answer.number
  pub the_pages : pages ≡ places
  pub the_counts : counts ≡ counts_of answer
  pub the_place : place ≡ answer.place ∷ []
  pub the_digest : digest ≡ answer.digest

-- the same for the answer of the check, where the page list held `listed` before
abbrev pub GivenFor : Input → List ℕ → ℕ → List ℕ → List ℕ → List ℕ → List ℕ → Type 0
GivenFor input listed = Given (answer_of input) (places_of input listed)

-- and the measurement in a further array
abbrev pub MeasuredFor : Input → List ℕ → ℕ → List ℕ → List ℕ → List ℕ → List ℕ → List ℕ → Type 0
MeasuredFor input listed result pages counts place digest measurement =
    GivenFor input listed result pages counts place digest × (measurement ≡ measurement_of input)
