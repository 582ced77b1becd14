-- The pages of the MLE: their addresses and their bytes, in linear order, and the page list.
use Rattle.std.specs.Prelude.{ℕ, zero, suc, ◌-◌, cond, List, [], ◌∷◌, ◌++◌, leb, length, take, drop}
use Rattle.range.specs.Range.{inside_of, page_size}
use Rattle.sha256.specs.Message.{sha256}
use Rattle.pages.specs.Entry.{address_of}
use Rattle.pages.specs.Memory.{page_of, window_of}
use Rattle.pages.specs.Tables.{page_at}
use Rattle.mle.specs.declared.Image.{Image}

module _ (w : List ℕ) (image : Image) where
  -- the physical address of a linear page
  unfoldable pub address_at : ℕ → ℕ
  address_at l = address_of (page_at w image.window image.tables l)

  -- the 4,096 bytes of a page at a physical address; none where it is not wholly in the window
  unfoldable pub bytes_at : ℕ → List ℕ
  bytes_at a = cond (inside_of (page_of a) (window_of w image.window)) (take page_size (drop (a - image.window) w)) []

  -- n pages from linear page l on: their addresses, and their bytes joined
  unfoldable pub addresses_from : ℕ → ℕ → List ℕ
  addresses_from l zero = []
  addresses_from l (suc n) = address_at l ∷ addresses_from (suc l) n

  unfoldable pub bytes_from : ℕ → ℕ → List ℕ
  bytes_from l zero = []
  bytes_from l (suc n) = bytes_at (address_at l) ++ bytes_from (suc l) n

  -- "The digest is SHA-256 over the N pages in linear order."
  unfoldable pub image_digest : List ℕ
  image_digest = sha256 (bytes_from image.first image.count)

  -- "writes the N page addresses, in linear order, to the first N places and keeps the rest"; a list with fewer places keeps every place
  unfoldable pub page_list : List ℕ → List ℕ
  page_list places =
      cond (leb image.count (length places)) (addresses_from image.first image.count ++ drop image.count places) places
