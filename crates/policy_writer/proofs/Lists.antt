-- A list of a description: the tests that lead to each answer, and the bytes that are put.
use Prim.Native.Nat.{ℕ, ◌+◌, ◌-◌, ◌≤◌, ◌<◌}
use native.Mathlib.Nat.{add-zero}
use native.Mathlib.Omega.{arith}
use mathlib.Core.Path.{◌≡◌, refl, ap, sym, ◌∙◌}
use mathlib.Core.Bool.{Bool, true, false, cond}
use mathlib.Core.List.{List, ◌++◌, flat_map, append_assoc, append-nil}
use mathlib.Core.Option.{Option, some, none}
use lib.ListN.{length, drop, get_or, length-append, length-drop}
use lib.Seq.{get_or-drop, drop-drop}
use borrow.Author.Tests.{le-leb, lt-leb}
use Rattle.field.proofs.Laws.{length_bytes}
use Rattle.policy_grammar.specs.Grammar.{Element, element_bytes, PolicyList, list_bytes}
use Rattle.policy_grammar.specs.Layout.{known_version}
use Rattle.policy_writer.specs.declared.Cursor.{Cursor}
use Rattle.policy_writer.specs.Types.{Next}
use Rattle.std.specs.Prelude.{Some, None}
use Rattle.policy_writer.specs.Decode.{and_then, times, size_fits, element, list_with, sized_list, front_list, list}
use Rattle.policy_writer.specs.Inner.{put, list_head, part_at, behind, next_of, up_to, Put}
use Rattle.policy_writer.proofs.Buffer.{put_before}
use Rattle.policy_writer.proofs.Rows.{cursor, found}
use Rattle.policy_writer.proofs.Fronts.{list_shape}

-- the bytes of a list are what is put before its elements, and those of the elements
head_length : (version size : ℕ) → length (list_head version size) ≡ 8
unfolding list_head flat_map
head_length version size = simp (length-append, length_bytes)

list_bytes_lem : (version : ℕ) (es : List Element) → list_bytes (list_with version es) ≡ list_head version (length (flat_map element_bytes es)) ++ flat_map element_bytes es
unfolding list_head flat_map
list_bytes_lem version es = simp (append_assoc, append-nil)

module _ (ns bs : List ℕ) (c : Cursor) where
  pub list_short : length ns - c.numbers < 2 → None ≡ next_of list c (part_at list ns bs c)
  unfolding front_list
  list_short h = rw (lt-leb 2 (length (drop c.numbers ns)) (rw length-drop h))

  module _ (h : 2 ≤ length ns - c.numbers) (v n : ℕ) (ev : v ≡ get_or ns c.numbers 0) (en : n ≡ get_or ns (c.numbers + 1) 0) (g : Bool) (eg : g ≡ known_version v) where
    -- where the elements start
    abbrev start : Cursor
    start = record { numbers = c.numbers + 2; bodies = c.bodies; bytes = c.bytes + 8 }

    abbrev elements : Option (List Element)
    elements = part_at (times n element) ns bs start

    fields : part_at list ns bs c ≡ cond g (and_then elements (sized_list v)) none
    unfolding front_list
    fields =
        rw (le-leb 2 (length (drop c.numbers ns)) (rw length-drop h), get_or-drop c.numbers ns 0 0, get_or-drop c.numbers ns 1 0, add-zero, ← ev, ← en, ← eg, drop-drop 2 c.numbers ns)

    pub list_unknown : g ≡ false → None ≡ next_of list c (part_at list ns bs c)
    list_unknown q = rw (fields, q)

    -- behind the elements of a list the list ends
    ends : (es : List Element) → (behind (times n element) start es).bytes - start.bytes ≡ length (flat_map element_bytes es)
    ends es = omega arith

    list_ends : (o : Option (List Element)) → up_to start (next_of (times n element) start o) ≡ next_of list c (and_then o (sized_list v))
    list_ends none = refl
    list_ends (some es) = rw (ends es) (go (size_fits (length (flat_map element_bytes es))))
      where
        go : (x : Bool) → cond x (Some (behind (times n element) start es)) None ≡ next_of list c (cond x (some (list_with v es)) none)
        go false = refl
        go true =
            cursor _ _ _ _ _ _ (omega arith) (omega arith)
            (omega (arith, ap length (list_bytes_lem v es), length-append (list_head v (length (flat_map element_bytes es))) (flat_map element_bytes es), head_length v (length (flat_map element_bytes es))))

    module _ (w : g ≡ true) (r : Next) (er : r ≡ up_to start (next_of (times n element) start elements)) where
      known : part_at list ns bs c ≡ and_then elements (sized_list v)
      known = fields ∙ rw w

      pub list_next : (x : Next) → r ≡ x → x ≡ next_of list c (part_at list ns bs c)
      list_next x q = sym q ∙ er ∙ list_ends elements ∙ ap (next_of list c) (sym known)

      -- the elements that were walked
      record Elements (d : Cursor) : Type 0 where
        pub some_elements : List Element
        pub are : elements ≡ some some_elements
        pub is : part_at list ns bs c ≡ some (list_with v some_elements)
        pub end : d ≡ behind (times n element) start some_elements

      walked : (d : Cursor) → r ≡ Some d → Elements d
      walked d q = go elements refl (sym er ∙ q)
        where
          on : (es : List Element) → elements ≡ some es → (x : Bool) → size_fits (length (flat_map element_bytes es)) ≡ x → cond x (Some (behind (times n element) start es)) None ≡ Some d → Elements d
          on es i false e u = let z : ◌≡◌ {A = ℕ} 0 1 = cc in absurd (omega arith)
          on es i true e u = record { some_elements = es; are = i; is = known ∙ rw (i, e); end = cc }

          go : (o : Option (List Element)) → elements ≡ o → up_to start (next_of (times n element) start o) ≡ Some d → Elements d
          go none i u = let z : ◌≡◌ {A = ℕ} 0 1 = cc in absurd (omega arith)
          go (some es) i u = on es i (size_fits (length (flat_map element_bytes es))) refl (rw (ends es) at u)

      pub list_onward : (d : Cursor) → r ≡ Some d → c.bytes + 8 ≤ d.bytes
      list_onward d q = let e = walked d q in omega (arith, ap (λ (x : Cursor). x.bytes) e.end)

      pub list_put : (d : Cursor) → r ≡ Some d → (out mid later : List ℕ) → Put (times n element) ns bs start out r mid
          → later ≡ put mid c.bytes (list_head v (d.bytes - (c.bytes + 8))) → (x : Next) → Put list ns bs c out x later
      list_put d q out mid later p e x =
          let s = walked d q in
          let es = s.some_elements in
          let L : ℕ = length (flat_map element_bytes es) in
          let z : d.bytes - (c.bytes + 8) ≡ L = ap (λ (y : Cursor). y.bytes - (c.bytes + 8)) s.end ∙ ends es in
          let m : mid ≡ put out (c.bytes + 8) (flat_map element_bytes es) = p.put_there d q ∙ rw s.are in
          record {
            put_there = λ d' u.
                e ∙ ap (λ (y : ℕ). put mid c.bytes (list_head v y)) z ∙ ap (λ (y : List ℕ). put y c.bytes (list_head v L)) m
                ∙ put_before out c.bytes (list_head v L) (flat_map element_bytes es) (c.bytes + 8) (omega (arith, head_length v L))
                ∙ rw s.is (ap (put out c.bytes) (sym (list_bytes_lem v es)));
          }

-- a list has 8 bytes and those of its elements, whose size has 32 bits
pub list_most : (ns bs : List ℕ) (c : Cursor) (r : Next) (d : Cursor) → r ≡ next_of list c (part_at list ns bs c) → r ≡ Some d → d.bytes ≤ c.bytes + 4294967303
list_most ns bs c r d e q =
    let (l, i, w) = found list ns bs c r d e q in
    let s = list_shape (drop c.numbers ns) (drop c.bodies bs) l i in
    let L : ℕ = length (flat_map element_bytes s.elements) in
    let z : length (list_bytes l) ≡ 8 + L = ap (λ (x : PolicyList). length (list_bytes x)) s.is ∙ ap length (list_bytes_lem s.version s.elements) ∙ length-append (list_head s.version L) (flat_map element_bytes s.elements) ∙ omega (arith, head_length s.version L) in
    omega (arith, ap (λ (x : Cursor). x.bytes) w, s.short, z)
