-- An entry of a table, a number of 64 bits: whether it is present, the address that it names, and the bits that its kind reserves.
use Rattle.std.specs.Prelude.{ℕ, ◌*◌, ◌/◌, ◌%◌, ◌^◌, Bool, ◌&&◌, eqb}
use Rattle.pages.specs.declared.Kind.{Kind}
use Rattle.pages.specs.declared.Kind.TheVariants.{Pointer, Directory, Page}

-- the n bits of e from bit k on
abbrev pub bits : ℕ → ℕ → ℕ → ℕ
bits e k n = e / 2 ^ k % 2 ^ n

abbrev pub zeros : ℕ → ℕ → ℕ → Bool
zeros e k n = eqb (bits e k n) 0

-- "Bit 0 clear: skipped."
unfoldable pub present_of : ℕ → Bool
present_of e = eqb (bits e 0 1) 1

-- "Address: bits 12 to 51."
unfoldable pub address_of : ℕ → ℕ
address_of e = bits e 12 40 * 2 ^ 12

-- "Bits 52 to 63 are 0; in a pointer entry also bits 1, 2 and 5 to 8; in a directory entry also bit 7."
unfoldable pub reserved_clear : Kind → ℕ → Bool
reserved_clear Pointer e = zeros e 52 12 && (zeros e 1 2 && zeros e 5 4)
reserved_clear Directory e = zeros e 52 12 && zeros e 7 1
reserved_clear Page e = zeros e 52 12
