-- What is read of a list, by the tests that lead to each answer.
use Prim.Native.Nat.{ℕ, ◌+◌, ◌-◌, ◌≤◌, ◌<◌, ◌^◌}
use native.Mathlib.Omega.{arith}
use mathlib.Core.Path.{◌≡◌, refl, ap, sym, ◌∙◌}
use mathlib.Core.Bool.{Bool, true, false, ◌&&◌, ◌||◌, not, and-false}
use mathlib.Core.List.{List}
use lib.ListN.{length, take, drop, length-drop}
use lib.Seq.{length-take-le}
use lib.Dec.{leb, eqb}
use borrow.Author.Tests.{le-leb, lt-leb, eq-eqb, ne_eqb, not-true, not-false}
use Rattle.field.specs.Field.{field_at, number_at, value_of}
use Rattle.field.proofs.Laws.{from_offset}
use Rattle.policy_grammar.specs.Grammar.{Element, Signing, PolicyList}
use Rattle.policy_grammar.specs.Grammar as Grammar
use Rattle.policy_grammar.specs.Format.{Format, done, ◌>>=◌, number, string, any, any_bytes, inside, many}
use Rattle.policy_grammar.specs.Parser.{value, after, exactly, read, filling}
use Rattle.policy_grammar.specs.Layout as Layout
use Rattle.policy_grammar.proofs.Formats.{exactly_value}
use Rattle.policy_grammar.proofs.Heads.{Upto, upto_start, number_holds, number_wrong, string_holds, part_holds, part_wrong}
use Rattle.policy_reader.specs.Inner.{Extent, fault_at, extent_of, further}
use Rattle.std.specs.Prelude.{Result, Ok, Err}
use Rattle.field.specs.declared.Fault.{Fault}
use Rattle.policy_reader.proofs.ReadExtents.{fitting, number_outside, size_read, fault_read, further_size, further_fault, last_extent}

-- sums of sizes fit
module _ (g : Result ℕ Fault) (n : ℕ) (e : g ≡ Ok n) where
  below : (k : ℕ) → value_of g < 256 ^ k → n < 256 ^ k
  unfolding value_of
  below k h = rw e at h

  pub key_fits : value_of g < 256 ^ 2 → 4 + n < 2 ^ 64
  key_fits h = omega (arith, below 2 h)

  pub signature_fits : value_of g < 256 ^ 2 → 4 + n + n < 2 ^ 64
  signature_fits h = omega (arith, below 2 h)

  pub elements_fit : value_of g < 256 ^ 4 → 8 + n < 2 ^ 64
  elements_fit h = omega (arith, below 4 h)

-- what signs a list
abbrev key_rule : ℕ → ℕ → Bool
key_rule left k = (eqb k 256 || eqb k 384) && leb (k + k) left

abbrev key_and_signature : ℕ → ℕ → Format Signing
key_and_signature c k =
    string k any_bytes >>= λ key. string k any_bytes >>= λ signature. done (Grammar.signed (record { counter = c; key_size = k; key = key; signature = signature }))

module _ (t : List ℕ) (f : Result ℕ Fault) (ef : f ≡ field_at t 0 2) where
  abbrev signed : Extent
  signed = extent_of (read Layout.signed t)

  from_counter : Upto Layout.signed t 0 (number 2 any >>= λ c. number 2 key_rule >>= key_and_signature c)
  unfolding Layout.signed
  from_counter = upto_start Layout.signed t

  pub counter_outside : (x : Fault) → f ≡ Err x → Err x ≡ signed
  counter_outside x q = rw (number_outside Layout.signed t 0 2 any _ from_counter tt tt (omega arith) f ef x q)

  module _ (c : ℕ) (qc : f ≡ Ok c) (g : Result ℕ Fault) (eg : g ≡ field_at t 2 2) where
    counter_fits : (c ≡ number_at t 0 2) × (2 ≤ length t)
    counter_fits = fitting t 0 2 tt tt f ef c qc

    from_key_size : Upto Layout.signed t 2 (number 2 key_rule >>= key_and_signature c)
    from_key_size = number_holds Layout.signed t 0 2 any _ from_counter tt tt counter_fits.0 counter_fits.1 refl

    pub key_size_outside : (x : Fault) → g ≡ Err x → Err x ≡ signed
    key_size_outside x q = rw (number_outside Layout.signed t 2 2 key_rule (key_and_signature c) from_key_size tt tt counter_fits.1 g eg x q)

    module _ (n : ℕ) (qn : g ≡ Ok n) (x : Bool) (ex : x ≡ (eqb n 256 || eqb n 384)) where
      key_size_fits : (n ≡ number_at t 2 2) × (4 ≤ length t)
      key_size_fits = fitting t 2 2 tt tt g eg n qn

      key_wrong : key_rule (length t - 4) n ≡ false → Err (fault_at 2) ≡ signed
      key_wrong o = rw (number_wrong Layout.signed t 2 2 key_rule (key_and_signature c) from_key_size tt tt key_size_fits.0 key_size_fits.1 o)

      pub key_unknown : not x ≡ true → Err (fault_at 2) ≡ signed
      key_unknown q = key_wrong (rw (← ex, not-true x q))

      pub key_over : length t < 4 + n + n → Err (fault_at 2) ≡ signed
      key_over l = key_wrong (rw (lt-leb (n + n) (length t - 4) (omega (arith, key_size_fits.1))) (and-false (eqb n 256 || eqb n 384)))

      pub key_yes : not x ≡ false → 4 + n + n ≤ length t → Ok (4 + n + n) ≡ signed
      unfolding read after
      key_yes q l =
          let o : key_rule (length t - 4) n ≡ true = rw (← ex, not-false x q) (le-leb (n + n) (length t - 4) (omega arith)) in
          let u₄ = number_holds Layout.signed t 2 2 key_rule (key_and_signature c) from_key_size tt tt key_size_fits.0 key_size_fits.1 o in
          let u₅ = string_holds Layout.signed t 4 n any_bytes _ u₄ (omega arith) refl in
          let u₆ = string_holds Layout.signed t (4 + n) n any_bytes _ u₅ (omega arith) refl in
          rw u₆ (ap Ok (omega arith))

-- a list's elements and what signs it
abbrev version_rule : ℕ → ℕ → Bool
version_rule left v = eqb v 0x0200 || eqb v 0x0201

abbrev algorithm_rule : ℕ → ℕ → Bool
algorithm_rule left a = eqb a 0x0010 || eqb a 0x0014

abbrev size_rule : ℕ → ℕ → Bool
size_rule left n = leb n left

abbrev list_of : ℕ → ℕ → ℕ → List Element → Signing → PolicyList
list_of v a n es g = record { version = v; signature_algorithm = a; elements_size = n; elements = es; signing = g }

abbrev signing_of : ℕ → ℕ → ℕ → List Element → Format PolicyList
signing_of v a n es = Layout.signing a >>= λ g. done (list_of v a n es g)

abbrev elements_of : ℕ → ℕ → ℕ → Format PolicyList
elements_of v a n = inside n (many n Layout.element) >>= signing_of v a n

module _ (t : List ℕ) (f : Result ℕ Fault) (ef : f ≡ field_at t 0 2) where
  abbrev listed : Extent
  listed = extent_of (read Layout.list t)

  from_version : Upto Layout.list t 0 (number 2 version_rule >>= λ v. number 2 algorithm_rule >>= λ a. number 4 size_rule >>= elements_of v a)
  unfolding Layout.list
  from_version = upto_start Layout.list t

  pub version_outside : (x : Fault) → f ≡ Err x → Err x ≡ listed
  version_outside x q = rw (number_outside Layout.list t 0 2 version_rule _ from_version tt tt (omega arith) f ef x q)

  module _ (v : ℕ) (qv : f ≡ Ok v) (x : Bool) (ex : x ≡ (eqb v 0x0200 || eqb v 0x0201)) where
    version_fits : (v ≡ number_at t 0 2) × (2 ≤ length t)
    version_fits = fitting t 0 2 tt tt f ef v qv

    pub version_unknown : not x ≡ true → Err (fault_at 0) ≡ listed
    version_unknown q = rw (number_wrong Layout.list t 0 2 version_rule _ from_version tt tt version_fits.0 version_fits.1 (rw (← ex) (not-true x q)))

    module _ (hx : not x ≡ false) (g : Result ℕ Fault) (eg : g ≡ field_at t 2 2) where
      from_algorithm : Upto Layout.list t 2 (number 2 algorithm_rule >>= λ a. number 4 size_rule >>= elements_of v a)
      from_algorithm = number_holds Layout.list t 0 2 version_rule _ from_version tt tt version_fits.0 version_fits.1 (rw (← ex) (not-false x hx))

      pub algorithm_outside : (z : Fault) → g ≡ Err z → Err z ≡ listed
      algorithm_outside z q = rw (number_outside Layout.list t 2 2 algorithm_rule _ from_algorithm tt tt version_fits.1 g eg z q)

      module _ (a : ℕ) (qa : g ≡ Ok a) (y : Bool) (ey : y ≡ (eqb a 0x0010 || eqb a 0x0014)) where
        algorithm_fits : (a ≡ number_at t 2 2) × (4 ≤ length t)
        algorithm_fits = fitting t 2 2 tt tt g eg a qa

        pub algorithm_unknown : not y ≡ true → Err (fault_at 2) ≡ listed
        algorithm_unknown q = rw (number_wrong Layout.list t 2 2 algorithm_rule _ from_algorithm tt tt algorithm_fits.0 algorithm_fits.1 (rw (← ey) (not-true y q)))

        module _ (hy : not y ≡ false) (h : Result ℕ Fault) (eh : h ≡ field_at t 4 4) where
          from_size : Upto Layout.list t 4 (number 4 size_rule >>= elements_of v a)
          from_size = number_holds Layout.list t 2 2 algorithm_rule _ from_algorithm tt tt algorithm_fits.0 algorithm_fits.1 (rw (← ey) (not-false y hy))

          pub size_outside : (z : Fault) → h ≡ Err z → Err z ≡ listed
          size_outside z q = rw (number_outside Layout.list t 4 4 size_rule (elements_of v a) from_size tt tt algorithm_fits.1 h eh z q)

          module _ (n : ℕ) (qn : h ≡ Ok n) where
            size_fits : (n ≡ number_at t 4 4) × (8 ≤ length t)
            size_fits = fitting t 4 4 tt tt h eh n qn

            pub size_over : length t < 8 + n → Err (fault_at 4) ≡ listed
            size_over l = rw (number_wrong Layout.list t 4 4 size_rule (elements_of v a) from_size tt tt size_fits.0 size_fits.1 (lt-leb n (length t - 8) (omega (arith, size_fits.1))))

            module _ (l : 8 + n ≤ length t) (w : Extent) (ew : w ≡ extent_of (filling (many (length (take (8 + n - 8) (drop 8 t))) Layout.element) (take (8 + n - 8) (drop 8 t)))) (r : Extent) (er : r ≡ further 8 w) where
              from_elements : Upto Layout.list t 8 (elements_of v a n)
              from_elements = number_holds Layout.list t 4 4 size_rule (elements_of v a) from_size tt tt size_fits.0 size_fits.1 (le-leb n (length t - 8) (omega arith))

              abbrev part : List ℕ
              part = take n (drop 8 t)

              part_length : length part ≡ n
              part_length = length-take-le n (drop 8 t) (rw length-drop (omega arith))

              w_is : extent_of (exactly n (read (many n Layout.element) part)) ≡ w
              w_is =
                  let i : 8 + n - 8 ≡ n = omega arith in
                  sym (ew ∙ rw (i, part_length))

              pub elements_faulty : (f : Fault) → r ≡ Err f → Err f ≡ listed
              elements_faulty f q =
                  let (p, e, i) = further_fault 8 w f (sym er ∙ q) in
                  ap Err (sym i)
                  ∙ rw (part_wrong Layout.list t 8 n (many n Layout.element) (signing_of v a n) from_elements p (fault_read (exactly n (read (many n Layout.element) part)) (fault_at p) (w_is ∙ e)))

              module _ (z : ℕ) (qr : r ≡ Ok z) where
                to_signing : listed ≡ further (8 + n) (extent_of (read (Layout.signing a) (drop (8 + n) t)))
                to_signing =
                    let (k, ek, d) = further_size 8 w z (sym er ∙ qr) in
                    let (es, e) = size_read (exactly n (read (many n Layout.element) part)) k (w_is ∙ ek) in
                    let i : k ≡ n = (exactly_value es k n (read (many n Layout.element) part) e).1 in
                    last_extent Layout.list t (8 + n) (Layout.signing a) (list_of v a n es)
                    (part_holds Layout.list t 8 n (many n Layout.element) (signing_of v a n) from_elements es (e ∙ ap (value es) i))

                pub list_signed : a ≡ 0x0014 → (u : Extent) → u ≡ extent_of (read Layout.signed (take (length t - (8 + n)) (drop (8 + n) t))) → (x : Extent) → x ≡ further (8 + n) u → x ≡ listed
                unfolding Layout.signing
                list_signed e u q x o =
                    o ∙ ap (further (8 + n)) (q ∙ ap (λ (s : List ℕ). extent_of (read Layout.signed s)) (from_offset t (8 + n))) ∙ sym (to_signing ∙ rw (eq-eqb a 0x0014 e))

                pub list_unsigned : (a ≡ 0x0014 → ⊥) → Ok (8 + n) ≡ listed
                unfolding Layout.signing read
                list_unsigned e = sym (to_signing ∙ rw (ne_eqb a 0x0014 e) (ap Ok (omega arith)))
