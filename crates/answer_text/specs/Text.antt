-- The text of the answer: the first line, and on permission a line for each page. Every line ends with LF.
use Rattle.std.specs.Prelude.{ℕ, zero, suc, ◌+◌, ◌*◌, ◌-◌, ◌/◌, ◌%◌, ◌≤◌, ◌≡◌, ◌⊎◌, Bool, cond, List, [], ◌∷◌, ◌++◌, leb, ltb, eqb, length, take, drop}
use Rattle.answer.specs.declared.Answer.{Answer}
use Rattle.answer_text.specs.declared.line.Line.{Line}

abbrev pub LF : ℕ
LF = 0x0A

-- the characters `0` to `9`, and after them `a` to `f`
abbrev pub digit : ℕ → ℕ
digit d = 0x30 + d

abbrev pub hex_digit : ℕ → ℕ
hex_digit d = cond (ltb d 10) (digit d) (0x61 + (d - 10))

-- "Numbers print in decimal": a number below 10 is one digit, and any other the digits of its tenth and its last digit
unfoldable pub digits : ℕ → ℕ → List ℕ
digits zero n = []
digits (suc most) n = cond (ltb n 10) (digit n ∷ []) (digits most (n / 10) ++ (digit (n % 10) ∷ []))

-- a number below 2^32 has at most 10 digits
abbrev pub most_digits : ℕ
most_digits = 10

abbrev pub decimal : ℕ → List ℕ
decimal n = digits most_digits n

-- "addresses in 16 lowercase hex digits"
unfoldable pub hex : ℕ → ℕ → List ℕ
hex zero n = []
hex (suc width) n = hex width (n / 16) ++ (hex_digit (n % 16) ∷ [])

abbrev pub address_digits : ℕ
address_digits = 16

-- `permitted pages=`
abbrev pub permitted_text : List ℕ
permitted_text = 0x70 ∷ 0x65 ∷ 0x72 ∷ 0x6D ∷ 0x69 ∷ 0x74 ∷ 0x74 ∷ 0x65 ∷ 0x64 ∷ 0x20 ∷ 0x70 ∷ 0x61 ∷ 0x67 ∷ 0x65 ∷ 0x73 ∷ 0x3D ∷ []

-- ` list=`
abbrev pub list_text : List ℕ
list_text = 0x20 ∷ 0x6C ∷ 0x69 ∷ 0x73 ∷ 0x74 ∷ 0x3D ∷ []

-- `refused `
abbrev pub refused_text : List ℕ
refused_text = 0x72 ∷ 0x65 ∷ 0x66 ∷ 0x75 ∷ 0x73 ∷ 0x65 ∷ 0x64 ∷ 0x20 ∷ []

-- ` at `
abbrev pub at_text : List ℕ
at_text = 0x20 ∷ 0x61 ∷ 0x74 ∷ 0x20 ∷ []

-- "permitted pages=2 list=255"
abbrev pub permitted_line : Answer → List ℕ
permitted_line a = permitted_text ++ decimal a.pages ++ list_text ++ decimal a.list ++ (LF ∷ [])

-- the number of a policy file that is not of the grammar
abbrev pub not_of_grammar : ℕ
not_of_grammar = 27

-- "The program prints a 27 as `refused 27 at 36`.": its place, also where that is 0; no other number has one
abbrev pub place_shown : Answer → List ℕ
place_shown a = cond (eqb a.number not_of_grammar) (at_text ++ decimal a.place) []

-- "Any refusal prints one line, as `refused 16`."
unfoldable pub refused_line : Answer → List ℕ
refused_line a = refused_text ++ decimal a.number ++ place_shown a ++ (LF ∷ [])

unfoldable pub first_line : Answer → List ℕ
first_line a = cond (eqb a.number 0) (permitted_line a) (refused_line a)

-- "0000000000104000"
unfoldable pub page_line : ℕ → List ℕ
page_line address = hex address_digits address ++ (LF ∷ [])

unfoldable pub page_lines : List ℕ → List ℕ
page_lines [] = []
page_lines (address ∷ rest) = page_line address ++ page_lines rest

-- the pages that are shown: on permission the first places of the page list, as many as there are pages
unfoldable pub shown_pages : Answer → List ℕ → List ℕ
shown_pages a places = cond (eqb a.number 0) (take a.pages places) []

-- the whole output: the first line, and a line for each page that is shown
unfoldable pub output : Answer → List ℕ → List ℕ
output a places = first_line a ++ page_lines (shown_pages a places)

-- "The capture program still lends 4,096 places": how many pages an image may have is another number. For the output it lends 48 bytes for the first
-- line, and 17 for the line of each page: OUTPUT in src/lib.rt
abbrev pub lent_places : ℕ
lent_places = 4096

abbrev pub lent_output : ℕ
lent_output = 48 + 17 * lent_places

-- these suffice for every answer with at most 4,096 pages, and for every page list of at most 4,096 places
abbrev pub OutputFits : Type 0
OutputFits = (a : Answer) (places : List ℕ) → (a.pages ≤ lent_places) ⊎ (length places ≤ lent_places) → length (output a places) ≤ lent_output

-- the output at the front of a buffer, whose other bytes stay; a buffer without room for it stays as it is, and the length is then 0
abbrev pub fits : Answer → List ℕ → List ℕ → Bool
fits a places buffer = leb (length (output a places)) (length buffer)

unfoldable pub output_length : Answer → List ℕ → List ℕ → ℕ
output_length a places buffer = cond (fits a places buffer) (length (output a places)) 0

unfoldable pub output_in : Answer → List ℕ → List ℕ → List ℕ
output_in a places buffer = cond (fits a places buffer) (output a places ++ drop (length (output a places)) buffer) buffer

-- n bytes at the front of a string are there. It follows from the two above, and spares a program that lends them a proof of its own
abbrev pub AtFront : ℕ → List ℕ → Type 0
AtFront n s = (n ≤ length s) × (n ≡ length (take n s))

-- what a line's array says: its first `len` bytes. What is behind them is free
abbrev pub written : Line → List ℕ
written l = take l.len l.bytes
