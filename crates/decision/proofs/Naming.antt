-- Whether an element names a digest, and whether it is judged, by the tests that lead to each answer.
use Prim.Native.Nat.{ℕ, ◌≤◌, ◌<◌}
use mathlib.Core.Path.{◌≡◌, refl, sym, ◌∙◌}
use mathlib.Core.Bool.{Bool, true, false, cond, and-false, and-true}
use mathlib.Core.List.{List}
use borrow.Author.Tests.{ne_eqb, eqb-true, eqb-false, le-leb, lt-leb}
use lib.Dec.{eqb}
use lib.ListN.{drop}
use Rattle.field.specs.Field.{same}
use Rattle.std.specs.Prelude.{Some}
use Rattle.policy_answers.specs.declared.ElementAt.{ElementAt}
use Rattle.policy_answers.specs.declared.ElementBody.{ElementBody}
use Rattle.policy_answers.specs.declared.ElementBody.TheVariants as bodies
use Rattle.policy_grammar.specs.Grammar.{Digests, ValidDigests, Launch, ValidLaunch, Body, ValidBody, launch_type, custom_type, stm_type, Element, ValidElement, digest_length}
use Rattle.policy_grammar.specs.Grammar as Grammar
use Rattle.policy_answers.specs.Answers.{body_shown}
use Rattle.policy_answers.specs.Parts.{part_at}
use Rattle.policy_answers.specs.Seen.{pieces, seen_digests, seen_element}
use Rattle.rules.specs.Tests.{any}
use Rattle.decision.specs.Lists.{Criteria, digests_name, judged, names, is_stm, names_stm}
use Rattle.decision.specs.Inner.{judged_body, is_stm_body, test_seen, Counted}

-- digests that are seen, by their algorithm
module _ (digest : List ℕ) (a n : ℕ) (b : List ℕ) where
  pub other_algorithm : (a ≡ 0x000B → ⊥) → false ≡ digests_name digest (seen_digests a n b)
  other_algorithm h = rw (ne_eqb a 0x000B h)

  pub asked : a ≡ 0x000B → (r : Bool) → r ≡ any (same digest) (pieces n 32 b) → r ≡ digests_name digest (seen_digests a n b)
  unfolding digest_length
  asked h r e = rw h e

-- an element that is seen, by its body
module _ (t : List ℕ) (e : ElementAt) where
  abbrev bytes : List ℕ
  bytes = drop 12 (part_at t e.start e.size)

  -- a launch element
  module _ (k : Criteria) (m v a n : ℕ) (q : e.body ≡ bodies.Launch m v a n) where
    pub later_version : k.acm_version < m → false ≡ test_seen (names k) (seen_element t (Some e))
    unfolding names
    later_version l = rw (q, lt-leb m k.acm_version l) (sym (and-false (digests_name k.digest (seen_digests a n (drop 6 bytes)))))

    pub launch_names_lem : m ≤ k.acm_version → (b : List ℕ) (r : Bool) → b ≡ bytes → r ≡ digests_name k.digest (seen_digests a n (drop 6 b))
        → r ≡ test_seen (names k) (seen_element t (Some e))
    unfolding names
    launch_names_lem l b r body is = is ∙ rw (body, q, le-leb m k.acm_version l) (sym (and-true (digests_name k.digest (seen_digests a n (drop 6 bytes)))))

  -- an STM element
  module _ (digest : List ℕ) (a n : ℕ) (q : e.body ≡ bodies.Stm a n) where
    pub stm_names : (b : List ℕ) (r : Bool) → b ≡ bytes → r ≡ digests_name digest (seen_digests a n (drop 4 b)) → r ≡ test_seen (names_stm digest) (seen_element t (Some e))
    unfolding names_stm
    stm_names b r body is = is ∙ rw (body, q)

  -- an element of another type names nothing
  pub no_launch : (k : Criteria) → ((m v a n : ℕ) → e.body ≡ bodies.Launch m v a n → ⊥) → false ≡ test_seen (names k) (seen_element t (Some e))
  unfolding names
  no_launch k never = by e.body refl
    where
      by : (b : ElementBody) → e.body ≡ b → false ≡ test_seen (names k) (seen_element t (Some e))
      by (bodies.Launch m v a n) q = absurd (never m v a n q)
      by (bodies.Stm a n) q = rw q
      by bodies.Custom q = rw q
      by (bodies.Unjudged type) q = rw q

  pub no_stm : (digest : List ℕ) → ((a n : ℕ) → e.body ≡ bodies.Stm a n → ⊥) → false ≡ test_seen (names_stm digest) (seen_element t (Some e))
  unfolding names_stm
  no_stm digest never = by e.body refl
    where
      by : (b : ElementBody) → e.body ≡ b → false ≡ test_seen (names_stm digest) (seen_element t (Some e))
      by (bodies.Launch m v a n) q = rw q
      by (bodies.Stm a n) q = absurd (never a n q)
      by bodies.Custom q = rw q
      by (bodies.Unjudged type) q = rw q

-- THE BODY THAT IS ANSWERED FOR AN ELEMENT OF THE GRAMMAR, by its type

module _ (x : Element) (v : ValidElement x) where
  abbrev shown : ElementBody
  shown = body_shown x.type x.body

  module _ (P : ElementBody → Type 0)
      (launch : (b : Launch) → x.type ≡ launch_type → ValidLaunch b → P (bodies.Launch b.sinit_min_version b.reserved b.digests.hash_alg b.digests.count))
      (stm : (d : Digests) → x.type ≡ stm_type → ValidDigests d → P (bodies.Stm d.hash_alg d.count))
      (custom : x.type ≡ custom_type → P bodies.Custom)
      (other : (x.type ≡ launch_type → ⊥) → (x.type ≡ stm_type → ⊥) → (x.type ≡ custom_type → ⊥) → P (bodies.Unjudged x.type)) where
    by_type : P shown
    by_type = go x.body v.body_valid
      where
        on : (c : Bool) → eqb x.type custom_type ≡ c → (x.type ≡ launch_type → ⊥) → (x.type ≡ stm_type → ⊥) → P (cond c bodies.Custom (bodies.Unjudged x.type))
        on true e nl ns = custom (eqb-true x.type custom_type e)
        on false e nl ns = other nl ns (eqb-false x.type custom_type e)

        go : (b : Body) → ValidBody x.type b → P (body_shown x.type b)
        go (Grammar.launch b) w = launch b w.0 w.1
        go (Grammar.stm d) w = stm d w.0 w.1
        go (Grammar.other b) w = on (eqb x.type custom_type) refl w.0 w.1

  -- its type is judged exactly where the body is of a type that is judged
  pub judged_is : judged_body shown ≡ judged x
  judged_is =
      by_type (λ (b : ElementBody). judged_body b ≡ judged x)
      (λ b e w. rw e)
      (λ d e w. rw e)
      (λ e. rw e)
      (λ nl ns nc. rw (ne_eqb x.type launch_type nl, ne_eqb x.type custom_type nc, ne_eqb x.type stm_type ns))

  -- it is of type 0x14 exactly where the body is that of an STM element
  pub stm_is : is_stm_body shown ≡ is_stm x
  stm_is =
      by_type (λ (b : ElementBody). is_stm_body b ≡ is_stm x)
      (λ b e w. rw e)
      (λ d e w. rw e)
      (λ e. rw e)
      (λ nl ns nc. rw (ne_eqb x.type stm_type ns))

  pub counted_is : Counted shown
  counted_is = by_type Counted (λ b e w. w.digests_valid.count_fits) (λ d e w. w.count_fits) (λ e. tt) (λ nl ns nc. tt)
