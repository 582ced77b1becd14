-- Rule 29: the test of a list says what the propositions of specs/Meaning.antt say, and so does the number of the list that is reported.
use Prim.Native.Nat.{ℕ, ◌+◌, ◌≤◌, ◌<◌}
use mathlib.Core.Path.{◌≡◌, refl, sym, ◌∙◌}
use mathlib.Core.Logic.{◌↔◌, ◌≢◌, ◌⊎◌, ⊎_elim}
use mathlib.Core.Bool.{Bool, true, false, true≢false}
use mathlib.Core.List.{List}
use mathlib.Core.Option.{some}
use native.Mathlib.Omega.{arith}
use lib.ListN.{length, get_elem?}
use Rattle.field.specs.Number.{Bytes}
use Rattle.field.specs.Field.{same}
use Rattle.policy_grammar.specs.Grammar.{Digests, Body, launch_type, custom_type, stm_type, Element, Signature, Signing, PolicyList, Reading}
use Rattle.policy_grammar.specs.Grammar as Grammar
use Rattle.answer.specs.Answer.{no_list}
use Rattle.sha256.specs.Message.{sha256}
use Rattle.rsa.proofs.Verified.{verifies_exactly}
use Rattle.rules.specs.Tests.{any}
use Rattle.decision.specs.Lists.{Criteria, lists_of, signed_bytes, signing_holds, judged, digests_name, names, is_stm, names_stm, stm_named, permits, some_from, some_permits, lowest_from, lowest_permitting}
use Rattle.decision.specs.Meaning.{DigestsName, Names, NamesStm, StmNamed, SigningHolds, Permits, PermitsAt, SomePermits, Lowest, Reads, PermitsExactly, LowestExactly, BodyFree}
use Rattle.rules.proofs.Tests.{eqb_exactly, leb_exactly, ltb_exactly, or_exactly, and_exactly, where_holds, every_exactly, any_exactly}
use Rattle.decision.proofs.Members.{Reported, Unreported, lowest_is}
use Rattle.field.proofs.Laws.{same_exactly}
use Rattle.decision.proofs.Readings.{lists_exactly, few, lists_few}

digests_exactly : (digest : List ℕ) (d : Digests) → (digests_name digest d ≡ true) ↔ DigestsName digest d
digests_exactly digest d =
    let x = and_exactly (eqb_exactly _ _) (any_exactly (same digest) (λ (x : List ℕ). digest ≡ x) (same_exactly digest) d.digests) in
    (λ t. (let w = x.0 t in record { algorithm = w.0; named = w.1 }), λ n. x.1 (n.algorithm, n.named))

-- a test that fails says what is never so
never : {t : Bool} {P : Type 0} → t ≡ false → (P → ⊥) → (t ≡ true) ↔ P
never e nothing = (λ h. absurd (true≢false (sym h ∙ e)), λ p. absurd (nothing p))

names_exactly : (k : Criteria) (e : Element) → (names k e ≡ true) ↔ Names k e
unfolding names
names_exactly k e = go e.body refl
  where
    go : (body : Body) → e.body ≡ body → (names k e ≡ true) ↔ Names k e
    go (Grammar.launch b) i =
        let x = and_exactly (digests_exactly k.digest b.digests) (leb_exactly b.sinit_min_version k.acm_version) in (
          λ t. (let w = x.0 (rw i at t) in record { launch = b; body = i; digests = w.0; version = w.1 }),
          λ n. (let q : n.launch ≡ b = (let is = n.body in cc) in rw i (x.1 (rw (← q) n.digests, rw (← q) n.version))),
        )
    go (Grammar.stm d) i = never (rw i) (λ n. let is = n.body in let z : ◌≡◌ {A = ℕ} 0 1 = cc in omega arith)
    go (Grammar.other b) i = never (rw i) (λ n. let is = n.body in let z : ◌≡◌ {A = ℕ} 0 1 = cc in omega arith)

names_stm_exactly : (digest : List ℕ) (e : Element) → (names_stm digest e ≡ true) ↔ NamesStm digest e
unfolding names_stm
names_stm_exactly digest e = go e.body refl
  where
    go : (body : Body) → e.body ≡ body → (names_stm digest e ≡ true) ↔ NamesStm digest e
    go (Grammar.launch b) i = never (rw i) (λ n. let is = n.body in let z : ◌≡◌ {A = ℕ} 0 1 = cc in omega arith)
    go (Grammar.stm d) i =
        let x = digests_exactly digest d in (
          λ t. record { stm = d; body = i; digests = x.0 (rw i at t) },
          λ n. (let q : n.stm ≡ d = (let is = n.body in cc) in rw i (x.1 (rw (← q) n.digests))),
        )
    go (Grammar.other b) i = never (rw i) (λ n. let is = n.body in let z : ◌≡◌ {A = ℕ} 0 1 = cc in omega arith)

stm_exactly : (image : List ℕ) (es : List Element) → (stm_named image es ≡ true) ↔ StmNamed image es
stm_exactly image es =
    let x = and_exactly (ltb_exactly 0 (length image)) (any_exactly (names_stm (sha256 image)) (NamesStm (sha256 image)) (names_stm_exactly (sha256 image)) es) in
    (λ t. (let w = x.0 t in record { given = w.0; named = w.1 }), λ n. x.1 (n.given, n.named))

-- a list that is signed so, if it is
signing_exactly : (k : Criteria) (i : ℕ) (l : PolicyList) (s : Signing) → (signing_holds k i l s ≡ true) ↔ ((g : Signature) → s ≡ Grammar.signed g → SigningHolds k i l g)
signing_exactly k i l Grammar.unsigned = (λ t g e. (let z : ◌≡◌ {A = ℕ} 0 1 = cc in absurd (omega arith)), λ p. refl)
signing_exactly k i l (Grammar.signed s) =
    let x = and_exactly (verifies_exactly s.key s.signature (signed_bytes l s)) (leb_exactly (k.counter i) s.counter) in
    let here : (signing_holds k i l (Grammar.signed s) ≡ true) ↔ SigningHolds k i l s =
    (λ t. (let w = x.0 t in record { verified = w.0; counter = w.1 }), λ p. x.1 (p.verified, p.counter))
    in
    (λ t g e. (let q : s ≡ g = cc in rw (← q) (here.0 t)), λ p. here.1 (p s refl))

list_exactly : (k : Criteria) (i : ℕ) (l : PolicyList) → (permits k i l ≡ true) ↔ Permits k i l
unfolding permits
list_exactly k i l =
    let es = l.elements in
    let all =
    every_exactly judged (λ (e : Element). (e.type ≡ launch_type) ⊎ ((e.type ≡ custom_type) ⊎ (e.type ≡ stm_type)))
    (λ e. or_exactly (eqb_exactly _ _) (or_exactly (eqb_exactly _ _) (eqb_exactly _ _))) es in
    let holds-stm = any_exactly is_stm (λ (e : Element). e.type ≡ stm_type) (λ e. eqb_exactly _ _) es in
    let stm = where_holds (any is_stm es) (stm_named k.stm es) holds-stm (stm_exactly k.stm es) in
    let x = and_exactly (signing_exactly k i l l.signing) (and_exactly (and_exactly all (any_exactly (names k) (Names k) (names_exactly k) es)) stm) in (
      λ t. (let w = x.0 t in record { signed = w.0; judged = w.1.0.0; names = w.1.0.1; names_stm = w.1.1 }),
      λ p. x.1 (p.signed, ((p.judged, p.names), p.names_stm)),
    )

-- THE LISTS OF A READING: at most 8, so none has the number 255

module _ (k : Criteria) (reading : Reading) (few : length reading.lists ≤ 8) where
  abbrev ls : List PolicyList
  ls = reading.lists

  -- a list that fails does not permit
  fails : (i : ℕ) → ((l : PolicyList) → get_elem? ls i ≡ some l → permits k i l ≡ false) → PermitsAt reading k i → ⊥
  fails i h p = true≢false (sym ((list_exactly k i p.list).1 p.permits) ∙ h p.list p.stands)

  from_0 : (j : ℕ) (l : PolicyList) (t : Bool) → permits k (0 + j) l ≡ t → permits k j l ≡ t
  from_0 j l t e = let z : 0 + j ≡ j = omega arith in rw z at e

  pub record Exactly : Type 0 where
    pub some : (some_from 0 (permits k) ls ≡ true) ↔ SomePermits reading k
    pub number : (i : ℕ) → i < no_list → (lowest_from 0 (permits k) ls ≡ i) ↔ Lowest reading k i
    pub none : (lowest_from 0 (permits k) ls ≡ no_list) ↔ (SomePermits reading k → ⊥)

  reported : Reported (permits k) 0 ls → Exactly
  reported r =
      let first = r.first in
      let here : PermitsAt reading k r.place = record { list = first.value; stands = first.stands; permits = (list_exactly k r.place first.value).0 (from_0 r.place first.value true first.passes) } in
      let lower : (j : ℕ) → j < r.place → PermitsAt reading k j → ⊥ = λ j h. fails j (λ l q. from_0 j l false (first.before j l h q)) in
      let some : SomePermits reading k = record { index = r.place; permits = here } in
      record {
        some = (λ e. some, λ p. r.passes);
        number = λ i h. (
          λ e. (let q : r.place ≡ i = omega (arith, r.number) in rw (← q) (record { permits = here; lowest = lower })),
          λ w.
              let not_below : r.place < i → ⊥ = λ l. w.lowest r.place l here in
              let not_above : i < r.place → ⊥ = λ l. lower i l w.permits in
              omega (arith, r.number),
        );
        none = (λ e. absurd (omega (arith, r.number, r.below)), λ never. absurd (never some));
      }

  unreported : Unreported (permits k) 0 ls → Exactly
  unreported u =
      record {
        some = (λ e. absurd (true≢false (sym e ∙ u.fails)), λ p. absurd (fails p.index (λ l q. from_0 p.index l false (u.fail p.index l q)) p.permits));
        number = λ i h. (λ e. absurd (omega (arith, u.number)), λ w. absurd (fails i (λ l q. from_0 i l false (u.fail i l q)) w.permits));
        none = (λ e p. fails p.index (λ l q. from_0 p.index l false (u.fail p.index l q)) p.permits, λ never. u.number);
      }

  exactly : Exactly
  exactly = ⊎_elim reported unreported (lowest_is (permits k) 0 ls)

  -- no list has a number over 255
  most : lowest_from 0 (permits k) ls ≤ no_list
  most = ⊎_elim (λ r. omega (arith, r.number, r.below)) (λ u. omega (arith, u.number)) (lowest_is (permits k) 0 ls)

-- THE FILE OF A READING

pub permits_exactly : PermitsExactly
unfolding some_permits
permits_exactly file k reading reads = rw (lists_exactly file reading reads) (exactly k reading (few reads)).some

pub lowest_exactly : LowestExactly
unfolding lowest_permitting
lowest_exactly file k reading reads =
    let x = exactly k reading (few reads) in
    rw (lists_exactly file reading reads) (x.number, x.none)

pub lowest_most : (file : List ℕ) (k : Criteria) (reading : Reading) → Reads file reading → lowest_permitting file k ≤ no_list
unfolding lowest_permitting
lowest_most file k reading reads = rw (lists_exactly file reading reads) (most k reading (few reads))

-- a list is reported exactly where some list permits, whatever the file is
pub reported_exactly : (file : List ℕ) (k : Criteria) → Bytes file → (some_permits file k ≡ true) ↔ (lowest_permitting file k ≢ no_list)
unfolding some_permits lowest_permitting
reported_exactly file k b =
    ⊎_elim
    (λ r. (λ e z. omega (arith, r.number, r.below, lists_few file b), λ h. r.passes))
    (λ u. (λ e z. true≢false (sym e ∙ u.fails), λ h. absurd (h u.number)))
    (lowest_is (permits k) 0 (lists_of file))

pub body_free : BodyFree
unfolding names names_stm
body_free k digest type size control size' control' b b' = (refl, refl, refl, refl)
