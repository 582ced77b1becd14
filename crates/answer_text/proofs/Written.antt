-- The output in a buffer: text that is put behind text, the lines of pages one after the other, and both lines together.
use Prim.Native.Nat.{ℕ, zero, suc, ◌+◌, ◌*◌, ◌/◌, ◌<◌, ◌≤◌, min}
use Rattle.std.proofs.lemmas.List.{take_min}
use mathlib.Core.Path.{◌≡◌, refl, sym, ◌∙◌, ap, ap₂}
use mathlib.Core.List.{List, [], ◌∷◌, ◌++◌, append_assoc}
use native.Mathlib.Nat.{add_assoc, min_comm, zero-add}
use native.Mathlib.Omega.{arith}
use borrow.Author.Tests.{le-leb, lt-leb, eq-eqb, ne_eqb}
use lib.ListN.{length, take, drop, get_or, length-append}
use lib.Seq.{length-take-le, paste, take-paste, drop-paste, take-add, drop-drop, take_at, take_all, drop-append-add, take-append_seam, drop-append_seam}
use Rattle.answer.specs.declared.Answer.{Answer}
use Rattle.answer_text.specs.Text.{hex, first_line, page_line, page_lines, shown_pages, output, output_length, output_in, AtFront}

-- TEXT BEHIND TEXT

-- a text is put in by two pieces
pub paste_more : (d : List ℕ) (at : ℕ) (s : List ℕ) (k m : ℕ) (t : List ℕ) (p : ℕ) → p ≡ at + k → at ≤ length d → k ≤ length s
    → take m t ≡ take m (drop k s) → paste (paste d at s k) p t m ≡ paste d at s (k + m)
paste_more d at s k m t p is-p hd hs e =
    let behind : drop (at + k + m) (paste d at s k) ≡ drop (at + (k + m)) d =
    sym (drop-drop m (at + k) (paste d at s k))
    ∙ ap (drop m) (drop-paste d at s k hd hs)
    ∙ drop-drop m (at + k) d
    ∙ ap (λ (n : ℕ). drop n d) (add_assoc at k m) in
    let front : take (at + k) (paste d at s k) ++ take m t ≡ take at d ++ take (k + m) s =
    ap₂ ◌++◌ (take-paste d at s k hd hs) e ∙ append_assoc (take at d) (take k s) (take m (drop k s)) ∙ ap (take at d ++◌) (sym (take-add k m s)) in
    rw is-p (ap₂ ◌++◌ front behind)

-- LINES OF PAGES

hex_length : (n x : ℕ) → length (hex n x) ≡ n
unfolding hex
hex_length zero x = refl
hex_length (suc n) x = length-append (hex n (x / 16)) _ ∙ omega (arith, hex_length n (x / 16))

pub line_length : (x : ℕ) → length (page_line x) ≡ 17
unfolding page_line
line_length x = length-append (hex 16 x) _ ∙ omega (arith, hex_length 16 x)

pub lines_length : (xs : List ℕ) → length (page_lines xs) ≡ 17 * length xs
unfolding page_lines
lines_length [] = refl
lines_length (x ∷ xs) = length-append (page_line x) (page_lines xs) ∙ omega (arith, line_length x, lines_length xs)

-- the line of each page stands behind those before it
pub line_at : (xs : List ℕ) (i : ℕ) → i < length xs → take 17 (drop (17 * i) (page_lines xs)) ≡ page_line (get_or xs i 0)
unfolding page_lines
line_at [] i h = absurd (omega arith)
line_at (x ∷ xs) zero h = take_at (page_line x) (page_lines xs) 17 (line_length x)
line_at (x ∷ xs) (suc i) h =
    let skip : 17 * suc i ≡ length (page_line x) + 17 * i = omega (arith, line_length x) in
    ap (λ (n : ℕ). take 17 (drop n (page_line x ++ page_lines xs))) skip
    ∙ ap (take 17) (drop-append-add (page_line x) (page_lines xs) (17 * i))
    ∙ line_at xs i (omega arith)

-- THE WHOLE OUTPUT

at_front : (n : ℕ) (s : List ℕ) → n ≤ length s → AtFront n s
at_front n s h = (h, sym (length-take-le n s h))

-- the pages that are shown: none on a refusal, else as many as there are pages or places
module _ (a : Answer) (places : List ℕ) where
  pub shown_none : (a.number ≡ 0 → ⊥) → take 0 places ≡ shown_pages a places
  unfolding shown_pages
  shown_none h = rw (ne_eqb a.number 0 h)

  pub shown_some : a.number ≡ 0 → take (min (length places) a.pages) places ≡ shown_pages a places
  unfolding shown_pages
  shown_some e = rw (eq-eqb a.number 0 e) (rw min_comm (take_min a.pages places))

module _ (a : Answer) (places d pages : List ℕ) (is-shown : pages ≡ shown_pages a places) where
  abbrev lines : List ℕ
  lines = page_lines pages

  is_output : output a places ≡ first_line a ++ lines
  unfolding output
  is_output = ap (λ (l : List ℕ). first_line a ++ page_lines l) (sym is-shown)

  size : length (output a places) ≡ length (first_line a) + 17 * length pages
  size = ap length is_output ∙ length-append (first_line a) lines ∙ omega (arith, lines_length pages)

  -- by the first line that was worked out
  module _ (w : List ℕ) (is-w : w ≡ first_line a) where
    is_size : length (output a places) ≡ length w + 17 * length pages
    is_size = size ∙ omega (arith, ap length is-w)

    pub no_room : length d < length w + 17 * length pages → (0 ≡ output_length a places d) × ((d ≡ output_in a places d) × AtFront 0 d)
    unfolding output_length output_in
    no_room h = rw (lt-leb (length (output a places)) (length d) (omega (arith, is_size))) (refl, (refl, at_front 0 d (omega arith)))

    -- the first line, then those of the pages
    pub put_both : length w + 17 * length pages ≤ length d → (y all : List ℕ) → y ≡ w → all ≡ paste (y ++ drop (length w) d) (length w) lines (17 * length pages)
        → (length w + 17 * length pages ≡ output_length a places d) × ((all ≡ output_in a places d) × AtFront (length w + 17 * length pages) all)
    unfolding output_length output_in
    put_both room y all is-y is_all =
        let n = length pages in
        let len = length w in
        let whole = w ++ lines in
        let many = lines_length pages in
        let one : y ++ drop len d ≡ paste d 0 whole len =
        ap₂ (λ (t : List ℕ) (k : ℕ). t ++ drop k d) (is-y ∙ sym (take-append_seam w lines)) (sym (zero-add len)) in
        let behind : drop len whole ≡ lines = drop-append_seam w lines in
        let more = paste_more d 0 whole len (17 * n) lines len (omega arith) (omega arith) (omega (arith, length-append w lines)) (sym (ap (take (17 * n)) behind)) in
        let everything : take (len + 17 * n) whole ≡ output a places =
        take_all (len + 17 * n) whole (omega (arith, length-append w lines, many)) ∙ ap (◌++ lines) is-w ∙ sym is_output in
        let e : length (output a places) ≡ 0 + (len + 17 * n) = is_size ∙ omega arith in
        let same : all ≡ output a places ++ drop (length (output a places)) d =
        is_all ∙ ap (λ (x : List ℕ). paste x len lines (17 * n)) one ∙ more ∙ rw e (ap (λ (t : List ℕ). t ++ drop (0 + (len + 17 * n)) d) everything) in
        rw (le-leb (length (output a places)) (length d) (omega (arith, is_size)))
        (sym is_size, (same, at_front (len + 17 * n) all (omega (arith, is_size, ap length same, length-append (output a places) (drop (length (output a places)) d)))))
