-- What is answered of a string, by the tests that lead to each answer.
use Prim.Native.Nat.{ℕ, ◌+◌, ◌-◌, ◌≤◌, ◌<◌}
use native.Mathlib.Omega.{arith}
use mathlib.Core.Path.{◌≡◌, refl, ap, sym, ◌∙◌}
use mathlib.Core.Logic.{inl, inr}
use mathlib.Core.Bool.{Bool, true, false, ◌&&◌, not, and-false}
use mathlib.Core.List.{List, [], ◌∷◌, ◌++◌}
use lib.ListN.{length, take, drop}
use lib.Seq.{take-length}
use lib.Dec.{leb}
use borrow.Author.Tests.{le-leb, lt-leb, not-true, not-false}
use Rattle.field.specs.Field.{number_at, same, marked_at}
use Rattle.field.proofs.Laws.{from_offset}
use Rattle.policy_grammar.specs.Grammar.{PolicyList, Reading, mark_characters}
use Rattle.policy_grammar.specs.Format.{Format, done, ◌>>=◌, number, string, times}
use Rattle.policy_grammar.specs.Parser.{Read, value, fault, value_of, fault_of, after, exactly, read, filling}
use Rattle.policy_grammar.specs.Layout as Layout
use Rattle.policy_grammar.specs.Layout.{whole}
use Rattle.policy_grammar.specs.Decode.{reading, accepted, fault_place}
use Rattle.policy_grammar.specs.Sizes.{sized}
use Rattle.policy_grammar.proofs.Heads.{Upto, upto_start, number_holds, number_wrong, string_holds, string_wrong, over, last_filling, inside_read}
use Rattle.policy_answers.specs.Answers.{file_shown, file_answer}
use Rattle.policy_answers.specs.declared.FileFault.TheVariants.{WrongSize, NotOfGrammar}
use Rattle.policy_answers.specs.Types.{FileAnswer}
use Rattle.policy_reader.specs.Inner.{Extent, fault_at, extent_of, further, counted_of}
use Rattle.std.specs.Prelude.{Ok, Err}
use Rattle.field.specs.declared.Fault.{Fault}
use Rattle.policy_reader.proofs.Places.{sized_inside, sized_outside}
use Rattle.policy_reader.proofs.ReadExtents.{size_read, fault_read, further_size, further_fault}

abbrev pub mark : List ℕ
mark = mark_characters ++ (0 ∷ 0 ∷ 0 ∷ 0 ∷ [])

abbrev pub zeros : List ℕ
zeros = 0 ∷ 0 ∷ 0 ∷ []

-- a mark that fits is there where its bytes are
marked_is : (s : List ℕ) (at k : ℕ) (m : List ℕ) (x : Bool) → length m ≡ k → at + k ≤ length s → x ≡ marked_at s at m → same (take k (drop at s)) m ≡ x
unfolding marked_at
marked_is s at k m x e h q = sym (q ∙ rw (e, le-leb (at + k) (length s) h))

mark_length : length mark ≡ 32
unfolding mark_characters
mark_length = refl

abbrev count_rule : ℕ → ℕ → Bool
count_rule left n = leb 1 n && leb n 8

abbrev reading_of : List ℕ → List ℕ → ℕ → List PolicyList → Reading
reading_of m z n ls = record { mark = take 28 m; mark_zeros = drop 28 m; reserved = z; list_count = n; lists = ls }

abbrev lists_of : List ℕ → List ℕ → ℕ → Format Reading
lists_of m z n = times n Layout.list >>= λ ls. done (reading_of m z n ls)

module _ (s : List ℕ) where
  abbrev counted : Extent
  counted = counted_of (filling Layout.file s)

  module _ (l : 36 ≤ length s) where
    refused : {p : ℕ} → filling Layout.file s ≡ fault p → Err (fault_at p) ≡ counted
    refused e = rw e

    wrong : {p : ℕ} → read Layout.file s ≡ fault p → Err (fault_at p) ≡ counted
    unfolding exactly
    wrong e = refused (rw e)

    module _ (x : Bool) (ex : x ≡ marked_at s 0 mark) where
      from_mark : Upto Layout.file s 0 (string 32 (λ b. same b mark) >>= λ m. string 3 (λ b. same b zeros) >>= λ z. number 1 count_rule >>= lists_of m z)
      unfolding Layout.file
      from_mark = upto_start Layout.file s

      m_is : same (take 32 s) mark ≡ x
      m_is = marked_is s 0 32 mark x mark_length (omega arith) ex

      pub read_mark : not x ≡ true → Err (fault_at 0) ≡ counted
      read_mark h = wrong (string_wrong Layout.file s 0 32 (λ b. same b mark) _ from_mark (m_is ∙ not-true x h))

      module _ (hx : not x ≡ false) (y : Bool) (ey : y ≡ marked_at s 32 zeros) where
        abbrev m : List ℕ
        m = take 32 (drop 0 s)

        from_zeros : Upto Layout.file s 32 (string 3 (λ b. same b zeros) >>= λ z. number 1 count_rule >>= lists_of m z)
        from_zeros = string_holds Layout.file s 0 32 (λ b. same b mark) _ from_mark (omega arith) (m_is ∙ not-false x hx)

        z_is : same (take 3 (drop 32 s)) zeros ≡ y
        z_is = marked_is s 32 3 zeros y refl (omega arith) ey

        pub read_zeros : not y ≡ true → Err (fault_at 32) ≡ counted
        read_zeros h = wrong (string_wrong Layout.file s 32 3 (λ b. same b zeros) _ from_zeros (z_is ∙ not-true y h))

        module _ (hy : not y ≡ false) (n : ℕ) (en : n ≡ number_at s 35 1) where
          abbrev z : List ℕ
          z = take 3 (drop 32 s)

          from_count : Upto Layout.file s 35 (number 1 count_rule >>= lists_of m z)
          from_count = string_holds Layout.file s 32 3 (λ b. same b zeros) _ from_zeros (omega arith) (z_is ∙ not-false y hy)

          wrong_count : count_rule 0 n ≡ false → Err (fault_at 35) ≡ counted
          wrong_count o = wrong (number_wrong Layout.file s 35 1 count_rule (lists_of m z) from_count tt tt en (omega arith) o)

          pub read_none : n < 1 → Err (fault_at 35) ≡ counted
          read_none h = wrong_count (rw (lt-leb 1 n h))

          pub read_many : 8 < n → Err (fault_at 35) ≡ counted
          read_many h = wrong_count (rw (lt-leb n 8 h) (and-false (leb 1 n)))

          module _ (h₁ : 1 ≤ n) (h₈ : n ≤ 8) (w : Extent) (ew : w ≡ extent_of (filling (times n Layout.list) (take (length s - 36) (drop 36 s)))) (r : Extent) (er : r ≡ further 36 w) where
            to_lists : filling Layout.file s ≡ after 36 (over (reading_of m z n) (filling (times n Layout.list) (drop 36 s)))
            to_lists =
                let u₃₆ = number_holds Layout.file s 35 1 count_rule (lists_of m z) from_count tt tt en (omega arith) (rw (le-leb 1 n h₁) (le-leb n 8 h₈)) in
                last_filling Layout.file s 36 (times n Layout.list) (reading_of m z n) u₃₆ l

            w_is : extent_of (filling (times n Layout.list) (drop 36 s)) ≡ w
            w_is = sym (ew ∙ ap (λ (t : List ℕ). extent_of (filling (times n Layout.list) t)) (from_offset s 36))

            pub read_faulty : (f : Fault) → r ≡ Err f → Err f ≡ counted
            unfolding after
            read_faulty f q =
                let (p, e, i) = further_fault 36 w f (sym er ∙ q) in
                ap Err (sym i) ∙ refused (to_lists ∙ rw (fault_read (filling (times n Layout.list) (drop 36 s)) (fault_at p) (w_is ∙ e)))

            pub read_yes : (k : ℕ) → r ≡ Ok k → Ok n ≡ counted
            unfolding after
            read_yes k q =
                let (j, e, i) = further_size 36 w k (sym er ∙ q) in
                let (ls, g) = size_read (filling (times n Layout.list) (drop 36 s)) j (w_is ∙ e) in
                rw (to_lists, g)

-- THE ANSWER

abbrev pub answer_for : Extent → FileAnswer
answer_for (Ok n) = Ok n
answer_for (Err f) = Err (NotOfGrammar f.at)

module _ (s : List ℕ) where
  outside : sized s ≡ false → Err WrongSize ≡ file_answer s
  unfolding accepted
  outside e = rw (e, e)

  pub read_short : length s < 36 → Err WrongSize ≡ file_answer s
  read_short h = outside (sized_outside s (inl h))

  pub read_long : 65536 < length s → Err WrongSize ≡ file_answer s
  read_long h = outside (sized_outside s (inr h))

  module _ (l : 36 ≤ length s) (u : length s ≤ 65536) where
    inside : sized s ≡ true
    inside = sized_inside s l u

    reading_is : reading s ≡ filling Layout.file s
    unfolding reading whole
    reading_is = inside_read (length s) Layout.file s (ap length (take-length s)) ∙ ap (filling Layout.file) (take-length s)

    pub read_counted : answer_for (counted_of (filling Layout.file s)) ≡ file_answer s
    unfolding accepted fault_place
    read_counted = rw (inside, reading_is) (go (filling Layout.file s))
      where
        go : (g : Read Reading) → answer_for (counted_of g) ≡ file_shown s (value_of g) (fault_of g)
        go (value r n) = refl
        go (fault p) = rw inside
