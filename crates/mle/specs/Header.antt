-- MLE Size, rule 12, and the MLE header, rule 22.
use Rattle.std.specs.Prelude.{ℕ, ◌+◌, ◌*◌, ◌-◌, ◌/◌, ◌%◌, Bool, ◌&&◌, List, [], ◌∷◌, leb, ltb, eqb, take, drop}
use Rattle.range.specs.Range.{page_size}
use Rattle.field.specs.Field.{number_at, marked_at}
use Rattle.rules.specs.Rules.{all}
use Rattle.mle.specs.declared.Image.{Image}
use Rattle.mle.specs.Image.{address_at, bytes_at}

-- an image has at most "16,384 pages"
abbrev pub most_pages : ℕ
most_pages = 16384

-- "N is MLE Size divided by 4096"
abbrev pub pages_of : ℕ → ℕ
pages_of mleSize = mleSize / page_size

-- 12. "MLE Size 0, no multiple of 4096, or over" the most pages
unfoldable pub size_tests : ℕ → List Bool
size_tests mleSize = ltb 0 mleSize ∷ eqb (mleSize % page_size) 0 ∷ leb (pages_of mleSize) most_pages ∷ []

-- "MLE header, 52 bytes at the header base, whose linear page must be mapped, offset in the page at most 4044"
abbrev pub header_size : ℕ
header_size = 52

abbrev pub last_offset : ℕ
last_offset = 4044

-- the linear page of a linear address, and the offset in it
abbrev pub linear_page : ℕ → ℕ
linear_page a = a / page_size

abbrev pub offset : ℕ → ℕ
offset a = a % page_size

-- the bytes of the header: those of its page from the offset on
unfoldable pub header_bytes : List ℕ → Image → ℕ → List ℕ
header_bytes w image base = take header_size (drop (offset base) (bytes_at w image (address_at w image (linear_page base))))

-- "UUID bytes 5A AC 82 90 6F 47 A7 74 0F 5C 55 A2 CB 51 B6 42; HeaderLen 16 ≥ 52; version 20 ≥ MinMleHeaderVer; EntryPoint 24 in the mapped
-- linear range; FirstValidPage 28 = the first linear page's address; MleEnd 36 − MleStart 32 = MLE Size, with MleStart ≤ MleEnd."

abbrev pub uuid : List ℕ
uuid =
    0x5A ∷ 0xAC ∷ 0x82 ∷ 0x90 ∷ 0x6F ∷ 0x47 ∷ 0xA7 ∷ 0x74 ∷ 0x0F ∷ 0x5C ∷ 0x55 ∷ 0xA2 ∷ 0xCB ∷ 0x51 ∷ 0xB6 ∷ 0x42 ∷ []

abbrev pub header_len : List ℕ → ℕ
header_len h = number_at h 16 4

abbrev pub version : List ℕ → ℕ
version h = number_at h 20 4

abbrev pub entry_point : List ℕ → ℕ
entry_point h = number_at h 24 4

abbrev pub first_valid_page : List ℕ → ℕ
first_valid_page h = number_at h 28 4

abbrev pub mle_start : List ℕ → ℕ
mle_start h = number_at h 32 4

abbrev pub mle_end : List ℕ → ℕ
mle_end h = number_at h 36 4

-- the mapped linear range: the address of the first linear page, and the end of the last
abbrev pub mapped_from : Image → ℕ
mapped_from image = image.first * page_size

abbrev pub mapped_to : Image → ℕ
mapped_to image = (image.first + image.count) * page_size

-- a linear address is in the mapped range
abbrev pub mapped : Image → ℕ → Bool
mapped image a = leb (mapped_from image) a && ltb a (mapped_to image)

-- where the header stands
unfoldable pub place_tests : Image → ℕ → List Bool
place_tests image base = mapped image base ∷ leb (offset base) last_offset ∷ []

-- what its bytes h say
unfoldable pub field_tests : List ℕ → Image → ℕ → ℕ → List Bool
field_tests h image mleSize min_mle_header_ver =
    marked_at h 0 uuid
    ∷ leb header_size (header_len h)
    ∷ leb min_mle_header_ver (version h)
    ∷ mapped image (entry_point h)
    ∷ eqb (first_valid_page h) (mapped_from image)
    ∷ leb (mle_start h) (mle_end h)
    ∷ eqb (mle_end h - mle_start h) mleSize
    ∷ []

-- 22
unfoldable pub header_tests : List ℕ → Image → ℕ → ℕ → ℕ → List Bool
header_tests w image base mleSize min_mle_header_ver =
    all (place_tests image base) ∷ all (field_tests (header_bytes w image base) image mleSize min_mle_header_ver) ∷ []
