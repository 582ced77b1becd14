-- An element of a description: the tests that lead to each answer, and the bytes that are put.
use Prim.Native.Nat.{ℕ, ◌+◌, ◌-◌, ◌≤◌, ◌<◌, ◌^◌}
use native.Mathlib.Nat.{add-zero}
use native.Mathlib.Omega.{arith}
use mathlib.Core.Path.{◌≡◌, refl, ap, sym, ◌∙◌}
use mathlib.Core.Bool.{Bool, true, false, cond, ◌&&◌, true≢false, false≢true}
use mathlib.Core.List.{List}
use mathlib.Core.Option.{Option, some, none, map}
use lib.ListN.{length, take, drop, get_or, length-drop}
use lib.Seq.{get_or-drop, length-take-le}
use lib.Dec.{leb}
use borrow.Author.Tests.{le-leb, lt-leb, leb-true, lt-ltb, le-ltb}
use mir.Val.{Fits}
use mir.Syntax.{w8}
use Rattle.field.specs.Number.{bytes}
use Rattle.field.proofs.Laws.{length_bytes, bytes_take, bytes_drop}
use Rattle.policy_grammar.specs.Grammar.{Body, body_bytes, element_bytes}
use Rattle.policy_grammar.specs.Parser.{value_of, is_some, filling}
use Rattle.policy_grammar.specs.Layout as Layout
use Rattle.policy_grammar.proofs.Decoding.{body_made, element_length}
use Rattle.policy_writer.specs.declared.Cursor.{Cursor}
use Rattle.policy_writer.specs.Types.{Next}
use Rattle.std.specs.Prelude.{Some, None}
use Rattle.policy_writer.specs.Decode.{Part, written_type, size_fits, element_with, element_of, front_element, element}
use Rattle.policy_writer.specs.Inner.{put, element_given, element_text, part_at, next_of, Put}
use Rattle.policy_writer.proofs.Buffer.{put_two}

-- WHETHER IT IS WRITTEN

module _ (type n : ℕ) (bodies : List ℕ) (from : ℕ) (t : Bool) (et : t ≡ written_type type) where
  abbrev bs : List ℕ
  bs = drop from bodies

  pub not_written : t ≡ false → false ≡ element_given type n bs
  unfolding element_given
  not_written h = rw (← et, h)

  module _ (w : t ≡ true) where
    pub too_long : 0xFFFFFFFF < 12 + n → false ≡ element_given type n bs
    unfolding element_given
    too_long h = rw (← et, w, le-ltb (12 + n) (256 ^ 4) (omega arith))

    module _ (s : 12 + n ≤ 0xFFFFFFFF) where
      pub not_there : length bodies - from < n → false ≡ element_given type n bs
      unfolding element_given
      not_there h =
          let l : length bs < n = rw length-drop h in
          rw (← et, w, lt-ltb (12 + n) (256 ^ 4) (omega arith), lt-leb n (length bs) l)

      pub filled : n ≤ length bodies - from → (r : Bool) → r ≡ is_some (value_of (filling (Layout.body type) (take (from + n - from) bs))) → r ≡ element_given type n bs
      unfolding element_given
      filled h r e =
          let l : n ≤ length bs = rw length-drop h in
          let i : from + n - from ≡ n = omega arith in
          e ∙ rw (i, ← et, w, lt-ltb (12 + n) (256 ^ 4) (omega arith), le-leb n (length bs) l)

-- ITS BYTES

module _ (out : List ℕ) (to type control : ℕ) (b : List ℕ) (a₁ a₂ a₃ a₄ : List ℕ) where
  pub element_put : a₁ ≡ put out to (bytes 4 (12 + length b)) → a₂ ≡ put a₁ (to + 4) (bytes 4 type) → a₃ ≡ put a₂ (to + 8) (bytes 4 control) → a₄ ≡ put a₃ (to + 12) b
      → a₄ ≡ put out to (element_text type control b)
  unfolding element_text
  element_put e₁ e₂ e₃ e₄ =
      let w₃ = put_two a₂ (to + 8) (bytes 4 control) b (to + 12) a₃ a₄ e₃ e₄ (omega (arith, length_bytes 4 control)) in
      let w₂ = put_two a₁ (to + 4) (bytes 4 type) _ (to + 8) a₂ a₄ e₂ w₃ (omega (arith, length_bytes 4 type)) in
      put_two out to (bytes 4 (12 + length b)) _ (to + 4) a₁ a₄ e₁ w₂ (omega (arith, length_bytes 4 (12 + length b)))

-- THE PART AT THE FRONT

-- where nothing is described, nothing is said of the buffer
pub nothing_put : (P : Part) (ns bs : List ℕ) (c : Cursor) (out later : List ℕ) (r : Next) → r ≡ None → Put P ns bs c out r later
nothing_put P ns bs c out later r q = record { put_there = λ d e. (let z : ◌≡◌ {A = Next} None (Some d) = sym q ∙ e in cc) }

module _ (ns bs : List ℕ) (c : Cursor) where
  pub element_short : length ns - c.numbers < 3 → None ≡ next_of element c (part_at element ns bs c)
  unfolding front_element
  element_short h = rw (lt-leb 3 (length (drop c.numbers ns)) (rw length-drop h))

  module _ (h : 3 ≤ length ns - c.numbers) (t k n : ℕ) (et : t ≡ get_or ns c.numbers 0) (ek : k ≡ get_or ns (c.numbers + 1) 0) (en : n ≡ get_or ns (c.numbers + 2) 0) where
    fields : part_at element ns bs c ≡ element_of t k n (drop c.bodies bs)
    unfolding front_element
    fields =
        rw (le-leb 3 (length (drop c.numbers ns)) (rw length-drop h), get_or-drop c.numbers ns 0 0, get_or-drop c.numbers ns 1 0, get_or-drop c.numbers ns 2 0, add-zero, ← et, ← ek, ← en)

    module _ (g : Bool) (eg : g ≡ element_given t n (drop c.bodies bs)) where
      refused : g ≡ false → element_of t k n (drop c.bodies bs) ≡ none
      unfolding element_given
      refused q = go (written_type t) (size_fits (12 + n)) (leb n (length (drop c.bodies bs))) (value_of (filling (Layout.body t) (take n (drop c.bodies bs)))) (sym eg ∙ q)
        where
          go : (x y z : Bool) (o : Option Body) → (x && (y && (z && is_some o))) ≡ false → cond (x && (y && z)) (map (element_with t k n) o) none ≡ none
          go false y z o e = refl
          go true false z o e = refl
          go true true false o e = refl
          go true true true none e = refl
          go true true true (some b) e = absurd (true≢false e)

      pub element_not : g ≡ false → None ≡ next_of element c (part_at element ns bs c)
      element_not q = rw (fields, refused q)

      module _ (w : g ≡ true) (b : (i : ℕ) → Fits w8 (get_or bs i 0)) where
        abbrev body : List ℕ
        body = take n (drop c.bodies bs)

        -- what is given is an element with the body
        record Given : Type 0 where
          pub value : Body
          pub is : part_at element ns bs c ≡ some (element_with t k n value)
          pub there : n ≤ length (drop c.bodies bs)
          pub made : body_bytes value ≡ body

        given : Given
        unfolding element_given
        given = go (written_type t) (size_fits (12 + n)) (leb n (length (drop c.bodies bs))) (value_of (filling (Layout.body t) body)) refl refl refl refl (sym eg ∙ w)
          where
            go : (x y z : Bool) (o : Option Body) → written_type t ≡ x → size_fits (12 + n) ≡ y → leb n (length (drop c.bodies bs)) ≡ z → value_of (filling (Layout.body t) body) ≡ o → (x && (y && (z && is_some o))) ≡ true → Given
            go false y z o ex ey ez eo e = absurd (false≢true e)
            go true false z o ex ey ez eo e = absurd (false≢true e)
            go true true false o ex ey ez eo e = absurd (false≢true e)
            go true true true none ex ey ez eo e = absurd (false≢true e)
            go true true true (some x) ex ey ez eo e =
                record {
                  value = x;
                  is = fields ∙ rw (ex, ey, ez, eo);
                  there = leb-true n (length (drop c.bodies bs)) ez;
                  made = (body_made t body x (bytes_take n _ (bytes_drop c.bodies bs (λ i. (b i).fits))) eo).1;
                }

        body_length : length body ≡ n
        body_length = length-take-le n (drop c.bodies bs) given.there

        pub body_there : n ≤ length bs - c.bodies
        body_there = rw length-drop at given.there

        pub element_next : Some (record { numbers = c.numbers + 3; bodies = c.bodies + n; bytes = c.bytes + 12 + n }) ≡ next_of element c (part_at element ns bs c)
        element_next =
            let e = given in
            let l : length (body_bytes e.value) ≡ n = ap length e.made ∙ body_length in
            let z : c.bytes + length (element_bytes (element_with t k n e.value)) ≡ c.bytes + 12 + n = omega (arith, element_length (element_with t k n e.value)) in
            rw e.is (rw (z, l))

        pub element_written : (out later : List ℕ) → later ≡ put out c.bytes (element_text t k (take (c.bodies + n - c.bodies) (drop c.bodies bs))) → (r : Next) → Put element ns bs c out r later
        unfolding element_text
        element_written out later q r =
            let e = given in
            let i : c.bodies + n - c.bodies ≡ n = omega arith in
            record { put_there = λ d u. q ∙ rw (e.is, i, body_length, e.made) }
