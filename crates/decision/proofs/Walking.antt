-- A file of the grammar: it is the one that the reader accepts, its lists stand from offset 36 on, and it is no longer than a file may be. The place of
-- any other is the one that the reader gives.
use Prim.Native.Nat.{ℕ, ◌≤◌}
use mathlib.Core.Path.{◌≡◌, refl, ap, sym, ◌∙◌}
use mathlib.Core.Bool.{Bool, true, false, cond, true≢false, and-eq-true_iff}
use mathlib.Core.List.{List, flat_map}
use mathlib.Core.Option.{Option, some, none}
use borrow.Author.Tests.{leb-true}
use lib.Dec.{leb}
use lib.ListN.{length, get_or, drop}
use mir.Val.{Fits}
use mir.Syntax.{w8}
use Rattle.std.specs.Prelude.{Ok, Err}
use Rattle.policy_answers.specs.Types.{FileAnswer}
use Rattle.policy_answers.specs.declared.FileFault.TheVariants.{WrongSize, NotOfGrammar}
use Rattle.policy_grammar.specs.Grammar.{All, list_bytes, ValidList, Reading}
use Rattle.policy_grammar.specs.Parser.{value_of, is_some}
use Rattle.policy_grammar.specs.Decode.{reading, accepted, fault_place}
use Rattle.policy_grammar.specs.Sizes.{sized}
use Rattle.policy_answers.specs.Answers.{file_shown, file_answer}
use Rattle.policy_answers.specs.Seen.{place_of}
use Rattle.policy_reader.proofs.Readings.{fault_outside}
use Rattle.policy_reader.proofs.Walk.{walk_start}
use Rattle.decision.specs.Lists.{of_grammar, lists_of}

abbrev pub is_accepted : FileAnswer → Bool
is_accepted (Ok n) = true
is_accepted (Err f) = false

module _ (s : List ℕ) (f v : FileAnswer) (e : f ≡ file_answer s) (q : f ≡ v) where
  pub grammar_is : of_grammar s ≡ is_accepted v
  unfolding of_grammar
  grammar_is = sym (ap is_accepted (sym q ∙ e) ∙ go (accepted s))
    where
      go : (o : Option Reading) → is_accepted (file_shown s o (fault_place s)) ≡ is_some o
      go none = refl
      go (some r) = refl

  pub place_is : is_accepted v ≡ false → fault_place s ≡ place_of v
  place_is n = sym (ap place_of (sym q ∙ e) ∙ go (accepted s) (sym (ap is_accepted (sym q ∙ e)) ∙ n))
    where
      refused : (x : Bool) → sized s ≡ x → place_of (Err (cond x (NotOfGrammar (fault_place s)) WrongSize)) ≡ fault_place s
      refused true z = refl
      refused false z = sym (fault_outside s z)

      go : (o : Option Reading) → is_accepted (file_shown s o (fault_place s)) ≡ false → place_of (file_shown s o (fault_place s)) ≡ fault_place s
      go none h = refused (sized s) refl
      go (some r) h = absurd (true≢false h)

-- a file that is not of the grammar is not accepted, and so has no lists
pub not_accepted : (s : List ℕ) → of_grammar s ≡ false → accepted s ≡ none
unfolding of_grammar
not_accepted s h = go (accepted s) h
  where
    go : (o : Option Reading) → is_some o ≡ false → o ≡ none
    go none e = refl
    go (some r) e = absurd (true≢false e)

pub record Starts (s : List ℕ) : Type 0 where
  pub valid : All ValidList (lists_of s)
  pub stand : drop 36 s ≡ flat_map list_bytes (lists_of s)

pub starts : (s : List ℕ) → ((i : ℕ) → Fits w8 (get_or s i 0)) → of_grammar s ≡ true → Starts s
unfolding of_grammar
starts s b h = go (accepted s) refl
  where
    go : (o : Option Reading) → accepted s ≡ o → Starts s
    go none e = absurd (true≢false (sym h ∙ ap is_some e))
    go (some r) e =
        let w = walk_start s r (λ i. (b i).fits) e in
        record { valid = rw e w.valid; stand = rw e w.stand }

-- it is no longer than a file may be
pub short : (s : List ℕ) → of_grammar s ≡ true → length s ≤ 65536
unfolding of_grammar accepted
short s h = leb-true _ _ ((and-eq-true_iff (leb 36 (length s)) (leb (length s) 65536)).0 (go (sized s) (value_of (reading s)) h)).1
  where
    go : (x : Bool) (o : Option Reading) → is_some (cond x o none) ≡ true → x ≡ true
    go true o e = refl
    go false o e = absurd (true≢false (sym e))
