-- What a permission gives: the pages in the caller's list, their order and places, the bytes behind the digest, and the list that permits.
use Prim.Native.Nat.{ℕ, zero, suc, ◌+◌, ◌≤◌, ◌<◌}
use mathlib.Core.Path.{◌≡◌, refl, sym, ◌∙◌, ap}
use mathlib.Core.Logic.{◌≢◌}
use mathlib.Core.List.{List, ◌++◌, flat_map}
use native.Mathlib.Omega.{arith}
use borrow.Author.Tests.{eq-eqb, ne_eqb}
use lib.Dec.{lit<}
use lib.ListN.{length, take, drop, get_or}
use lib.Seq.{take-append_seam, drop-append_seam}
use Rattle.field.specs.Number.{Bytes}
use Rattle.range.specs.declared.Range.{Range}
use Rattle.rules.specs.Rules.{first_failing}
use Rattle.rules.proofs.Tests.{some_map}
use Rattle.range.proofs.Ranges.{inside_exactly}
use Rattle.sha256.specs.Message.{sha256}
use Rattle.pages.specs.declared.Kind.TheVariants.{Page}
use Rattle.pages.specs.Entry.{address_of}
use Rattle.pages.specs.Memory.{page_of, regions}
use Rattle.pages.specs.Meaning.{Within, entry, Walked}
use Rattle.pages.proofs.Meaning.{mapped_exactly, found_by_walk}
use Rattle.mle.specs.declared.Image.{Image}
use Rattle.mle.specs.Image.{address_at, addresses_from, bytes_from, image_digest}
use Rattle.mle.proofs.Pages.{AllInside, bytes_there, addresses_length, page_list_written, page_list_place}
use Rattle.policy_record.specs.Record.{policy_type, LIST, ANY}
use Rattle.answer.specs.declared.Answer.{Answer}
use Rattle.answer.specs.Answer.{no_list}
use Rattle.decision.specs.Lists.{lowest_permitting}
use Rattle.decision.proofs.Permission.{lowest_exactly, lowest_most}
use Rattle.launch.specs.Rules.{Input, os, memory, image, found, policy_file, criteria, rules}
use Rattle.launch.specs.Answer.{answer_of, places_of}
use Rattle.launch.specs.Permitted.{N}
use Rattle.launch.specs.Demand2.{page, memory_at, LowestPermits, Permission}
use Rattle.launch.proofs.Demand1.{answer_permitted, places_permitted}
use Rattle.launch.proofs.Meaning.{reads, all_say}
use Rattle.launch.proofs.Permitting.{Said, said, walks}

module _ (i : Input) (places : List ℕ) (b : Bytes i.window) (told : length places ≡ i.places) (e : first_failing (rules i) ≡ 0) where
  abbrev w : List ℕ
  w = i.window

  abbrev im : Image
  im = image i

  abbrev first : ℕ
  first = im.first

  says : Said i
  says = (said i).0 ((all_say i b).0 e)

  counted : im.count ≡ N i
  counted = says.counted

  enough : im.count ≤ length places
  enough = omega (arith, counted, says.room)

  -- THE PAGES

  walked : Walked w (memory i) (os i).page_table_base first (N i)
  walked = found_by_walk _ _ _ _ _ ((mapped_exactly w (memory i) (os i).page_table_base first (N i)).1 (walks i says))

  page_is : (k : ℕ) → k < N i → page i places k ≡ address_of (entry w (memory i) (os i).page_table_base Page (first + k))
  unfolding address_at
  page_is k h =
      ap (λ (s : List ℕ). get_or s k 0) (places_permitted i e places) ∙ page_list_place w im places k (omega (arith, counted)) enough

  abbrev addresses : List ℕ
  addresses = addresses_from w im first im.count

  written : places_of i places ≡ addresses ++ drop im.count places
  written = places_permitted i e places ∙ page_list_written w im places enough

  rest : drop (N i) (places_of i places) ≡ drop (N i) places
  rest =
      let n : N i ≡ length addresses = sym (addresses_length w im first im.count ∙ counted) in
      ap (drop (N i)) written
      ∙ ap (λ (k : ℕ). drop k (addresses ++ drop im.count places)) n
      ∙ drop-append_seam addresses (drop im.count places)
      ∙ ap (λ (k : ℕ). drop k places) (counted)

  pages_are : take (N i) (places_of i places) ≡ addresses
  pages_are =
      let n : N i ≡ length addresses = sym (addresses_length w im first im.count ∙ counted) in
      ap (take (N i)) written
      ∙ ap (λ (k : ℕ). take k (addresses ++ drop im.count places)) n
      ∙ take-append_seam addresses (drop im.count places)

  -- THE BYTES

  bytes_flat : (l n : ℕ) → AllInside w im l n → bytes_from w im l n ≡ flat_map (memory_at i places) (addresses_from w im l n)
  unfolding bytes_from addresses_from flat_map
  bytes_flat l zero h = refl
  bytes_flat l (suc n) h =
      let z : l + 0 ≡ l = omega arith in
      let later = bytes_flat (suc l) n (λ k x. let q : suc l + k ≡ l + suc k = omega arith in rw q (h (suc k) (omega arith))) in
      rw (bytes_there w im (address_at w im l) (rw z at (h 0 (omega arith)))) (ap (memory_at i places (address_at w im l) ++◌) later)

  all_inside : AllInside w im first im.count
  unfolding address_at
  all_inside k h = (inside_exactly _ _).1 (lit< tt) (walked.inside k (omega (arith, counted)))

  digest_is : (answer_of i).digest ≡ image_digest w im
  digest_is = ap (λ (a : Answer). a.digest) (answer_permitted i e)

  digest : (answer_of i).digest ≡ sha256 (flat_map (memory_at i places) (take (N i) (places_of i places)))
  unfolding image_digest
  digest = digest_is ∙ ap sha256 (bytes_flat first im.count all_inside ∙ ap (flat_map (memory_at i places)) (sym pages_are))

  -- THE LIST

  any_list_lem : policy_type i.policy_record ≡ ANY → (answer_of i).list ≡ no_list
  any_list_lem q =
      ap (λ (a : Answer). a.list) (answer_permitted i e) ∙ rw (ne_eqb (policy_type i.policy_record) LIST (λ z. omega (arith, q, z)))

  lowest : policy_type i.policy_record ≡ LIST → LowestPermits i places
  lowest q =
      let (reading, (makes, permits)) = (says.lists q).1.1.1.0 in
      let read = reads i b reading makes in
      let k = criteria w i.policy_record i.stm (found i) in
      let reported = lowest_permitting (policy_file w (found i)) k in
      let laws = lowest_exactly (policy_file w (found i)) k reading read in
      let most = lowest_most (policy_file w (found i)) k reading read in
      let not_none : reported ≢ no_list = λ z. laws.1.0 z permits in
      let is_list : (answer_of i).list ≡ reported = ap (λ (a : Answer). a.list) (answer_permitted i e) ∙ rw (eq-eqb (policy_type i.policy_record) LIST q) in
      record {
        reading = reading;
        grammar = makes;
        lowest = rw (digest_is, is_list) ((laws.0 reported (omega (arith, most, not_none))).0 refl);
      }

  pub given : Permission i places
  given =
      record {
        count = ap (λ (a : Answer). a.pages) (answer_permitted i e) ∙ counted;
        first = first;
        present = walked.present;
        linear = page_is;
        rest = rest;
        ascend = λ j k x y. rw (page_is j (omega arith), page_is k y) (walked.rising j k x y);
        apart = λ j k x y z. rw (page_is j x, page_is k y) (walked.apart j k x y z);
        inside = λ k x. rw (page_is k x) (walked.inside k x);
        protected = some_map (λ (r : Range). (k : ℕ) → k < N i → Within (page_of (address_of (entry w (memory i) (os i).page_table_base Page (first + k)))) r)
            (λ (r : Range). (k : ℕ) → k < N i → Within (page_of (page i places k)) r)
            (λ r h k x. rw (page_is k x) (h k x))
            (regions (memory i))
            walked.protected;
        tables = (walks i says).tables_protected;
        mask = says.policy_record.mask;
        digest = digest;
        any_list = any_list_lem;
        lowest = lowest;
        place = ap (λ (a : Answer). a.place) (answer_permitted i e);
      }
