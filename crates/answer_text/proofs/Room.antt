-- `output_fits`: the bytes that a program lends for the output suffice for every answer with at most 4,096 pages.
use Prim.Native.Nat.{ℕ, zero, suc, ◌/◌, ◌%◌, ◌≤◌}
use mathlib.Core.Path.{◌≡◌, ◌∙◌}
use mathlib.Core.Logic.{◌⊎◌, inr, ⊎_elim}
use mathlib.Core.Bool.{Bool, true, false, cond}
use mathlib.Core.List.{List, [], ◌∷◌, ◌++◌}
use native.Mathlib.Omega.{arith}
use borrow.Author.Tests.{le-leb}
use lib.Dec.{ltb, eqb}
use lib.ListN.{length, take, drop, length-append, length-take}
use Rattle.answer.specs.declared.Answer.{Answer}
use Rattle.answer_text.specs.Text.{LF, digit, digits, most_digits, decimal, list_text, permitted_line, refused_text, at_text, not_of_grammar, place_shown, refused_line, first_line, page_lines, shown_pages, lent_places, lent_output, output, fits, output_length, output_in, OutputFits}
use Rattle.answer_text.proofs.Written.{lines_length}

digits_most : (most n : ℕ) → length (digits most n) ≤ most
unfolding digits
digits_most zero n = omega arith
digits_most (suc most) n = by (ltb n 10) (digits_most most (n / 10))
  where
    by : (t : Bool) → length (digits most (n / 10)) ≤ most → length (cond t (digit n ∷ []) (digits most (n / 10) ++ (digit (n % 10) ∷ []))) ≤ suc most
    by true h = omega arith
    by false h = omega (arith, length-append (digits most (n / 10)) (digit (n % 10) ∷ []))

module _ (a : Answer) (places : List ℕ) where
  place_most : length (place_shown a) ≤ 14
  place_most = by (eqb a.number not_of_grammar)
    where
      by : (t : Bool) → length (cond t (at_text ++ decimal a.place) []) ≤ 14
      by true = omega (arith, length-append at_text (decimal a.place), digits_most most_digits a.place)
      by false = omega arith

  refused_most : length (refused_line a) ≤ 48
  unfolding refused_line
  refused_most =
      let number = refused_text ++ decimal a.number in
      let size : length number ≤ 18 = omega (arith, length-append refused_text (decimal a.number), digits_most most_digits a.number) in
      omega (arith, length-append (number ++ place_shown a) (LF ∷ []), length-append number (place_shown a), place_most)

  first_most : length (first_line a) ≤ 48
  unfolding first_line
  first_most = by (eqb a.number 0)
    where
      by : (t : Bool) → length (cond t (permitted_line a) (refused_line a)) ≤ 48
      by true =
          let pages : length (decimal a.pages ++ list_text) ≤ 16 =
          omega (arith, length-append (decimal a.pages) list_text, digits_most most_digits a.pages) in
          let list : length (decimal a.pages ++ list_text ++ decimal a.list) ≤ 26 =
          omega (arith, length-append (decimal a.pages ++ list_text) (decimal a.list), digits_most most_digits a.list) in
          omega (arith, length-append (decimal a.pages ++ list_text ++ decimal a.list) (LF ∷ []))
      by false = refused_most

  shown_most : (a.pages ≤ lent_places) ⊎ (length places ≤ lent_places) → length (shown_pages a places) ≤ lent_places
  unfolding shown_pages
  shown_most h = by (eqb a.number 0)
    where
      by : (t : Bool) → length (cond t (take a.pages places) []) ≤ lent_places
      by true = ⊎_elim (λ l. omega (arith, length-take a.pages places)) (λ l. omega (arith, length-take a.pages places)) h
      by false = omega arith

pub output_fits : OutputFits
unfolding output
output_fits a places h =
    let lines = page_lines (shown_pages a places) in
    omega (arith, length-append (first_line a) lines, first_most a places, lines_length (shown_pages a places), shown_most a places h)

-- so the whole output stands in what a program lends
module _ (a : Answer) (places buffer : List ℕ) (p : length places ≡ lent_places) (b : length buffer ≡ lent_output) where
  room : fits a places buffer ≡ true
  room =
      let few : length places ≤ lent_places = omega (arith, p) in
      le-leb (length (output a places)) (length buffer) (omega (arith, output_fits a places (inr few), b))

  pub lent_length : (r : ℕ) → r ≡ output_length a places buffer → r ≡ length (output a places)
  unfolding output_length
  lent_length r e = e ∙ rw room

  pub lent_text : (later : List ℕ) → later ≡ output_in a places buffer → later ≡ output a places ++ drop (length (output a places)) buffer
  unfolding output_in
  lent_text later e = e ∙ rw room
