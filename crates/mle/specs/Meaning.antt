-- Rules 12 and 22 as plain propositions, which hold exactly where their tests do.
use Rattle.std.specs.Prelude.{ℕ, ◌-◌, ◌%◌, ◌≤◌, ◌<◌, ◌≡◌, ◌↔◌, true, List, length, take}
use Rattle.range.specs.Range.{page_size}
use Rattle.rules.specs.Rules.{all}
use Rattle.mle.specs.declared.Image.{Image}
use Rattle.mle.specs.Header.{most_pages, pages_of, size_tests, header_size, last_offset, offset, header_bytes, mapped_from, mapped_to}
use Rattle.mle.specs.Header.{uuid, header_len, version, entry_point, first_valid_page, mle_start, mle_end, header_tests}

-- 12
pub record Size (mleSize : ℕ) : Type 0 where
  pub some : 0 < mleSize
  pub whole : mleSize % page_size ≡ 0
  pub most : pages_of mleSize ≤ most_pages

-- a linear address is in the mapped range
pub record Mapped (image : Image) (a : ℕ) : Type 0 where
  pub from : mapped_from image ≤ a
  pub to : a < mapped_to image

-- 22: where the header stands
pub record Place (image : Image) (base : ℕ) : Type 0 where
  pub mapped_base : Mapped image base
  pub offset_most : offset base ≤ last_offset

-- 22: what its bytes h say
pub record Fields (h : List ℕ) (image : Image) (mleSize min_mle_header_ver : ℕ) : Type 0 where
  pub marked : take (length uuid) h ≡ uuid
  pub header_least : header_size ≤ header_len h
  pub version_least : min_mle_header_ver ≤ version h
  pub mapped_entry : Mapped image (entry_point h)
  pub first_page : first_valid_page h ≡ mapped_from image
  pub ordered : mle_start h ≤ mle_end h
  pub whole : mle_end h - mle_start h ≡ mleSize

-- 22
pub record Header (w : List ℕ) (image : Image) (base mleSize min_mle_header_ver : ℕ) : Type 0 where
  pub place : Place image base
  pub fields : Fields (header_bytes w image base) image mleSize min_mle_header_ver

abbrev pub SizeExactly : Type 0
SizeExactly = (mleSize : ℕ) → (all (size_tests mleSize) ≡ true) ↔ Size mleSize

abbrev pub HeaderExactly : Type 0
HeaderExactly =
    (w : List ℕ) (image : Image) (base mleSize min_mle_header_ver : ℕ)
    → (all (header_tests w image base mleSize min_mle_header_ver) ≡ true) ↔ Header w image base mleSize min_mle_header_ver
