-- The pages of the image one by one: their bytes joined, their addresses, and the page list.
use Prim.Native.Nat.{ℕ, zero, suc, ◌+◌, ◌*◌, ◌-◌, ◌<◌, ◌≤◌}
use mathlib.Core.Path.{◌≡◌, refl, sym, ◌∙◌, ap}
use mathlib.Core.Logic.{◌⊎◌, inl, inr}
use mathlib.Core.Bool.{Bool, true, false}
use mathlib.Core.List.{List, [], ◌∷◌, ◌++◌, append_assoc, append-nil}
use native.Mathlib.Numerals.{add-one}
use native.Mathlib.Omega.{arith}
use borrow.Author.Tests.{leb-true, leb-false, le-leb, lt-leb}
use lib.Dec.{leb}
use lib.ListN.{length, take, drop, get_or, set, length-append, length-take, length-drop, get_or-append}
use lib.Seq.{take_at, drop_at, drop-cons, drop-drop, get_or-append-add, get_or-drop, set_at}
use Rattle.range.specs.Range.{inside_of, page_size}
use Rattle.range.proofs.Ranges.{inside_bounds}
use Rattle.pages.specs.Memory.{page_of, window_of}
use Rattle.mle.specs.declared.Image.{Image}
use Rattle.mle.specs.Image.{address_at, bytes_at, addresses_from, bytes_from, page_list}

module _ (w : List ℕ) (image : Image) where
  -- the page at a physical address is wholly in the window
  abbrev pub Inside : ℕ → Type 0
  Inside a = inside_of (page_of a) (window_of w image.window) ≡ true

  -- each of the n pages from linear page l on is
  abbrev pub AllInside : ℕ → ℕ → Type 0
  AllInside l n = (k : ℕ) → k < n → Inside (address_at w image (l + k))

  pub bytes_there : (a : ℕ) → Inside a → bytes_at w image a ≡ take page_size (drop (a - image.window) w)
  unfolding bytes_at
  bytes_there a h = rw h

  pub bytes_none : (a : ℕ) → inside_of (page_of a) (window_of w image.window) ≡ false → bytes_at w image a ≡ []
  unfolding bytes_at
  bytes_none a h = rw h

  pub page_length : (a : ℕ) → Inside a → length (bytes_at w image a) ≡ page_size
  page_length a h =
      let i = (inside_bounds _ _).0 h in
      rw (bytes_there a h) (simp (length-take, length-drop) (omega arith))

  -- a page has all its bytes or none
  pub whole_or_none : (a : ℕ) → (length (bytes_at w image a) ≡ page_size) ⊎ (length (bytes_at w image a) ≡ 0)
  whole_or_none a = by (inside_of (page_of a) (window_of w image.window)) refl
    where
      by : (t : Bool) → inside_of (page_of a) (window_of w image.window) ≡ t → (length (bytes_at w image a) ≡ page_size) ⊎ (length (bytes_at w image a) ≡ 0)
      by true e = inl (page_length a e)
      by false e = inr (ap length (bytes_none a e))

  -- THE BYTES

  pub bytes_nothing : (l : ℕ) → bytes_from w image l 0 ≡ []
  unfolding bytes_from
  bytes_nothing l = refl

  -- one page more stands at the end
  pub bytes_more : (l k : ℕ) → bytes_from w image l k ++ bytes_at w image (address_at w image (l + k)) ≡ bytes_from w image l (k + 1)
  unfolding bytes_from
  bytes_more l zero =
      let a : l + 0 ≡ l = omega arith in
      rw a (sym (append-nil (bytes_at w image (address_at w image l))))
  bytes_more l (suc k) =
      let a : l + suc k ≡ suc l + k = omega arith in
      let o : suc k + 1 ≡ suc (k + 1) = omega arith in
      rw (a, o, append_assoc) (ap (bytes_at w image (address_at w image l) ++◌) (bytes_more (suc l) k))

  inside_next : (l n : ℕ) → AllInside l (suc n) → AllInside (suc l) n
  inside_next l n h k x =
      let e : suc l + k ≡ l + suc k = omega arith in
      rw e (h (suc k) (omega arith))

  first_length : (l n : ℕ) → AllInside l (suc n) → length (bytes_at w image (address_at w image l)) ≡ page_size
  first_length l n h =
      let e : l + 0 ≡ l = omega arith in
      page_length _ (rw e at (h 0 (omega arith)))

  pub bytes_length : (l n : ℕ) → AllInside l n → length (bytes_from w image l n) ≡ page_size * n
  unfolding bytes_from
  bytes_length l zero h = refl
  bytes_length l (suc n) h =
      rw length-append (omega (arith, first_length l n h, bytes_length (suc l) n (inside_next l n h)))

  -- page k stands behind the k pages before it
  pub bytes_place : (l n k : ℕ) → k < n → AllInside l (suc k)
      → take page_size (drop (page_size * k) (bytes_from w image l n)) ≡ bytes_at w image (address_at w image (l + k))
  unfolding bytes_from
  bytes_place l zero k m h = absurd (omega arith)
  bytes_place l (suc n) zero m h =
      let e : l + 0 ≡ l = omega arith in
      rw e (take_at _ _ page_size (first_length l 0 h))
  bytes_place l (suc n) (suc k) m h =
      let e : l + suc k ≡ suc l + k = omega arith in
      let p : page_size * suc k ≡ page_size + page_size * k = omega arith in
      rw (p, ← drop-drop (page_size * k) page_size _, drop_at _ _ page_size (first_length l (suc k) h), e)
      (bytes_place (suc l) n k (omega arith) (inside_next l (suc k) h))

  -- THE ADDRESSES

  pub addresses_length : (l n : ℕ) → length (addresses_from w image l n) ≡ n
  unfolding addresses_from
  addresses_length l zero = refl
  addresses_length l (suc n) = ap suc (addresses_length (suc l) n)

  pub address_number : (l n k : ℕ) → k < n → get_or (addresses_from w image l n) k 0 ≡ address_at w image (l + k)
  unfolding addresses_from
  address_number l zero k h = absurd (omega arith)
  address_number l (suc n) zero h = let e : l + 0 ≡ l = omega arith in rw e
  address_number l (suc n) (suc k) h =
      let e : l + suc k ≡ suc l + k = omega arith in
      rw e (address_number (suc l) n k (omega arith))

  pub addresses_nothing : (l : ℕ) → addresses_from w image l 0 ≡ []
  unfolding addresses_from
  addresses_nothing l = refl

  addresses_more : (l n : ℕ) (s : List ℕ) → addresses_from w image l n ++ address_at w image (l + n) ∷ s ≡ addresses_from w image l (suc n) ++ s
  unfolding addresses_from
  addresses_more l zero s = let e : l + 0 ≡ l = omega arith in rw e
  addresses_more l (suc n) s =
      let e : l + suc n ≡ suc l + n = omega arith in
      rw e (ap (address_at w image l ∷◌) (addresses_more (suc l) n s))

  -- one place more is written
  pub addresses_set : (l k : ℕ) (s : List ℕ) → k < length s
      → set (addresses_from w image l k ++ drop k s) k (address_at w image (l + k)) ≡ addresses_from w image l (k + 1) ++ drop (k + 1) s
  addresses_set l k s h =
      rw (drop-cons s k 0 h, set_at (addresses_from w image l k) _ _ (address_at w image (l + k)) k (addresses_length l k), add-one k)
      (addresses_more l k (drop (suc k) s))

  -- THE PAGE LIST

  module _ (places : List ℕ) where
    pub page_list_written : image.count ≤ length places
        → page_list w image places ≡ addresses_from w image image.first image.count ++ drop image.count places
    unfolding page_list
    page_list_written h = rw (le-leb image.count (length places) h)

    -- a list with fewer places than pages stays
    pub page_list_short : length places < image.count → page_list w image places ≡ places
    unfolding page_list
    page_list_short h = rw (lt-leb image.count (length places) h)

    -- and so does any list where there are no pages
    pub page_list_none : image.count ≡ 0 → page_list w image places ≡ places
    page_list_none e =
        page_list_written (omega arith)
        ∙ ap (λ (n : ℕ). addresses_from w image image.first n ++ drop n places) e
        ∙ rw addresses_nothing

    -- a fact of the list holds where it holds of a list that is too short, and of one that is written
    cases : (P : List ℕ → Type 0) → P places
        → (image.count ≤ length places → P (addresses_from w image image.first image.count ++ drop image.count places))
        → P (page_list w image places)
    cases P short long = by (leb image.count (length places)) refl
      where
        by : (t : Bool) → leb image.count (length places) ≡ t → P (page_list w image places)
        by true e = let h = leb-true _ _ e in rw (page_list_written h) (long h)
        by false e = rw (page_list_short (leb-false _ _ e)) short

    pub page_list_length : length (page_list w image places) ≡ length places
    page_list_length =
        cases (λ (s : List ℕ). length s ≡ length places) refl
        (λ h. rw (length-append, addresses_length, length-drop) (omega arith))

    -- the places behind the first N stay
    pub page_list_rest : (k : ℕ) → image.count ≤ k → get_or (page_list w image places) k 0 ≡ get_or places k 0
    page_list_rest k m =
        let a = addresses_from w image image.first image.count in
        let n : length a ≡ image.count = addresses_length _ _ in
        let e : length a + (k - image.count) ≡ k = omega arith in
        let f : image.count + (k - image.count) ≡ k = omega arith in
        cases (λ (s : List ℕ). get_or s k 0 ≡ get_or places k 0) refl
        (λ h.
        ap (λ (i : ℕ). get_or (a ++ drop image.count places) i 0) (sym e)
        ∙ get_or-append-add a _ (k - image.count) 0
        ∙ get_or-drop image.count places (k - image.count) 0
        ∙ ap (λ (i : ℕ). get_or places i 0) f)

    -- the first N hold the addresses of the pages
    pub page_list_place : (k : ℕ) → k < image.count → image.count ≤ length places
        → get_or (page_list w image places) k 0 ≡ address_at w image (image.first + k)
    page_list_place k m h =
        let a = addresses_from w image image.first image.count in
        let n : length a ≡ image.count = addresses_length _ _ in
        rw (page_list_written h, get_or-append a (drop image.count places) 0 k (omega arith)) (address_number _ _ k m)
