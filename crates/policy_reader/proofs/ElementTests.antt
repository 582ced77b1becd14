-- What is read of an element, by the tests that lead to each answer.
use Prim.Native.Nat.{ℕ, zero, suc, ◌+◌, ◌*◌, ◌-◌, ◌≤◌, ◌<◌, ◌^◌}
use native.Mathlib.Nat.{suc-mul, zero-mul, mul-le-mul, le_of_lt, lt_of_le_of_lt}
use native.Mathlib.Omega.{arith}
use mathlib.Core.Path.{◌≡◌, refl, ap, sym, ◌∙◌}
use mathlib.Core.Bool.{Bool, true, false, ◌&&◌, and-false}
use mathlib.Core.List.{List, [], ◌∷◌}
use lib.ListN.{length, take, drop, length-drop}
use lib.Seq.{length-take-le}
use lib.Dec.{leb, lit<}
use borrow.Author.Tests.{le-leb, lt-leb, eq-eqb, ne_eqb}
use Rattle.field.specs.Field.{field_at, number_at, value_of}
use Rattle.field.proofs.Laws.{from_offset}
use Rattle.policy_grammar.specs.Grammar.{digest_length, Digests, Body, launch_type, stm_type, Element}
use Rattle.policy_grammar.specs.Grammar as Grammar
use Rattle.policy_grammar.specs.Format.{Format, done, ◌>>=◌, number, string, any, any_bytes, inside, times}
use Rattle.policy_grammar.specs.Parser.{value, after, continue, exactly, read, filling}
use Rattle.policy_grammar.specs.Layout as Layout
use Rattle.policy_grammar.proofs.Formats.{read_then, exactly_value}
use Rattle.policy_grammar.proofs.Soundness.{filling_value}
use Rattle.policy_grammar.proofs.Decoding.{body_complete}
use Rattle.policy_grammar.proofs.Heads.{Upto, upto_start, number_holds, number_wrong, inside_read}
use Rattle.policy_reader.specs.Inner.{Extent, fault_at, extent_of, further}
use Rattle.std.specs.Prelude.{Result, Ok, Err}
use Rattle.field.specs.declared.Fault.{Fault}
use Rattle.policy_reader.proofs.ReadExtents.{size_read, further_size, fitting, number_outside, faulty, further_none, last_extent, last_filling}

-- a count of 16 bits times a digest's length fits
module _ (g : Result ℕ Fault) (n k : ℕ) (h : value_of g < 256 ^ 2) (e : g ≡ Ok n) (l : k ≤ 64) where
  small_product : n * k < 2 ^ 32
  unfolding value_of
  small_product = lt_of_le_of_lt (mul-le-mul {n₂ = 65536} {m₂ = 64} (le_of_lt (rw e at h)) l) (lit< tt)

  pub product_fits : n * k < 2 ^ 64
  product_fits = omega (arith, small_product)

  pub end_fits : 4 + n * k < 2 ^ 64
  end_fits = omega (arith, small_product)

-- the digests of an algorithm
abbrev alg_rule : ℕ → ℕ → Bool
alg_rule left a = leb 1 (digest_length a)

abbrev count_rule : ℕ → ℕ → ℕ → Bool
count_rule a left n = leb (n * digest_length a) left

abbrev digests_of : ℕ → ℕ → Format Digests
digests_of a n = times n (string (digest_length a) any_bytes) >>= λ ds. done (record { hash_alg = a; count = n; digests = ds })

-- n fields of k bytes that fit
strings_read : (n k : ℕ) (s : List ℕ) → n * k ≤ length s → (ds : List (List ℕ)) × (read (times n (string k any_bytes)) s ≡ value ds (n * k))
unfolding times string ◌>>=◌ read after continue
strings_read zero k s h = ([], ap (value []) (sym (zero-mul k)))
strings_read (suc n) k s h =
    let m : suc n * k ≡ n * k + k = suc-mul n k in
    let (ds, e) = strings_read n k (drop k s) (rw length-drop (omega arith)) in
    (take k s ∷ ds, rw (le-leb k (length s) (omega arith), read_then, e) (ap (value (take k s ∷ ds)) (omega arith)))

module _ (t : List ℕ) (f : Result ℕ Fault) (ef : f ≡ field_at t 0 2) where
  abbrev digests : Extent
  digests = extent_of (filling Layout.digests t)

  from_alg : Upto Layout.digests t 0 (number 2 alg_rule >>= λ a. number 2 (count_rule a) >>= digests_of a)
  unfolding Layout.digests
  from_alg = upto_start Layout.digests t

  pub alg_outside : (x : Fault) → f ≡ Err x → Err x ≡ digests
  alg_outside x q = faulty Layout.digests t x.at (number_outside Layout.digests t 0 2 alg_rule _ from_alg tt tt (omega arith) f ef x q)

  module _ (a : ℕ) (qa : f ≡ Ok a) (k : ℕ) (ek : k ≡ digest_length a) where
    alg_fits : (a ≡ number_at t 0 2) × (2 ≤ length t)
    alg_fits = fitting t 0 2 tt tt f ef a qa

    pub alg_unknown : k ≡ 0 → Err (fault_at 0) ≡ digests
    alg_unknown z =
        faulty Layout.digests t 0
        (number_wrong Layout.digests t 0 2 alg_rule _ from_alg tt tt alg_fits.0 alg_fits.1 (lt-leb 1 (digest_length a) (omega arith)))

    module _ (known : k ≡ 0 → ⊥) (g : Result ℕ Fault) (eg : g ≡ field_at t 2 2) where
      from_count : Upto Layout.digests t 2 (number 2 (count_rule a) >>= digests_of a)
      from_count = number_holds Layout.digests t 0 2 alg_rule _ from_alg tt tt alg_fits.0 alg_fits.1 (le-leb 1 (digest_length a) (omega (arith, known)))

      pub count_outside : (x : Fault) → g ≡ Err x → Err x ≡ digests
      count_outside x q = faulty Layout.digests t x.at (number_outside Layout.digests t 2 2 (count_rule a) (digests_of a) from_count tt tt alg_fits.1 g eg x q)

      module _ (n : ℕ) (qn : g ≡ Ok n) where
        count_fits : (n ≡ number_at t 2 2) × (4 ≤ length t)
        count_fits = fitting t 2 2 tt tt g eg n qn

        product : n * digest_length a ≡ n * k
        product = rw ek

        pub count_over : length t < 4 + n * k → Err (fault_at 2) ≡ digests
        count_over l =
            faulty Layout.digests t 2
            (number_wrong Layout.digests t 2 2 (count_rule a) (digests_of a) from_count tt tt count_fits.0 count_fits.1
            (lt-leb (n * digest_length a) (length t - 4) (omega (arith, product, count_fits.1))))

        counted : 4 + n * k ≤ length t → (d : Digests) × (read Layout.digests t ≡ value d (4 + n * k))
        unfolding ◌>>=◌ read continue after
        counted l =
            let u = number_holds Layout.digests t 2 2 (count_rule a) (digests_of a) from_count tt tt count_fits.0 count_fits.1 (le-leb (n * digest_length a) (length t - 4) (omega (arith, product))) in
            let (ds, e) = strings_read n (digest_length a) (drop 4 t) (rw length-drop (omega (arith, product))) in
            let d : Digests = record { hash_alg = a; count = n; digests = ds } in
            (d, u ∙ rw (read_then, e) (ap (value d) (omega (arith, product))))

        pub digests_extra : 4 + n * k ≤ length t → 4 + n * k < length t → Err (fault_at (4 + n * k)) ≡ digests
        unfolding exactly
        digests_extra l m = rw ((counted l).1, ne_eqb (4 + n * k) (length t) (λ e. omega arith))

        pub digests_fill : 4 + n * k ≤ length t → length t ≤ 4 + n * k → Ok (4 + n * k) ≡ digests
        unfolding exactly
        digests_fill l m = rw ((counted l).1, eq-eqb (4 + n * k) (length t) (omega arith))

-- a launch element's body
module _ (b : List ℕ) (f : Result ℕ Fault) (ef : f ≡ field_at b 0 1) where
  abbrev launched : Extent
  launched = extent_of (filling Layout.launch b)

  abbrev with : ℕ → ℕ → Digests → Body
  with m v ds = Grammar.launch (record { sinit_min_version = m; reserved = v; digests = ds })

  from_minimum : Upto Layout.launch b 0 (number 1 any >>= λ m. number 1 any >>= λ v. Layout.digests >>= λ ds. done (with m v ds))
  unfolding Layout.launch
  from_minimum = upto_start Layout.launch b

  pub minimum_outside : (x : Fault) → f ≡ Err x → Err x ≡ launched
  minimum_outside x q = faulty Layout.launch b x.at (number_outside Layout.launch b 0 1 any _ from_minimum tt tt (omega arith) f ef x q)

  module _ (m : ℕ) (qm : f ≡ Ok m) (g : Result ℕ Fault) (eg : g ≡ field_at b 1 1) where
    minimum_fits : (m ≡ number_at b 0 1) × (1 ≤ length b)
    minimum_fits = fitting b 0 1 tt tt f ef m qm

    from_reserved : Upto Layout.launch b 1 (number 1 any >>= λ v. Layout.digests >>= λ ds. done (with m v ds))
    from_reserved = number_holds Layout.launch b 0 1 any _ from_minimum tt tt minimum_fits.0 minimum_fits.1 refl

    pub reserved_outside : (x : Fault) → g ≡ Err x → Err x ≡ launched
    reserved_outside x q = faulty Layout.launch b x.at (number_outside Layout.launch b 1 1 any _ from_reserved tt tt minimum_fits.1 g eg x q)

    pub launch_digests : (v : ℕ) → g ≡ Ok v → (x : Extent) → x ≡ extent_of (filling Layout.digests (take (length b - 2) (drop 2 b))) → (r : Extent) → r ≡ further 2 x → r ≡ launched
    launch_digests v qv x ex r er =
        let (i, l) = fitting b 1 1 tt tt g eg v qv in
        let u = number_holds Layout.launch b 1 1 any _ from_reserved tt tt i l refl in
        er ∙ ap (further 2) (ex ∙ ap (λ (s : List ℕ). extent_of (filling Layout.digests s)) (from_offset b 2)) ∙ sym (last_filling Layout.launch b 2 Layout.digests (with m v) u l)

-- the field behind SINITMinVersion is there
pub reserved_fits : (b : List ℕ) (g : Result ℕ Fault) → g ≡ field_at b 1 1 → (v : ℕ) → g ≡ Ok v → 2 ≤ length b
reserved_fits b g e v q = (fitting b 1 1 tt tt g e v q).1

-- a body, by its type
module _ (b : List ℕ) (t : ℕ) where
  abbrev filled : Extent
  filled = extent_of (filling (Layout.body t) b)

  pub body_launch : t ≡ launch_type → (x : Extent) → x ≡ extent_of (filling Layout.launch b) → x ≡ filled
  unfolding Layout.body
  body_launch e x q = rw e q

  module _ (nl : t ≡ launch_type → ⊥) where
    pub body_stm : t ≡ stm_type → (x : Extent) → x ≡ extent_of (filling Layout.digests b) → x ≡ filled
    unfolding Layout.body Layout.stm
    body_stm e x q =
        let all = last_filling Layout.stm b 0 Layout.digests Grammar.stm (upto_start Layout.stm b) (omega arith) ∙ further_none (extent_of (filling Layout.digests b)) in
        rw (e, all) q

    pub body_other : (t ≡ stm_type → ⊥) → Ok (length b) ≡ filled
    body_other ns = sym (ap extent_of (filling_value (Layout.body t) b (Grammar.other b) (body_complete t (Grammar.other b) (nl, ns))))

-- the element at the front of t
abbrev size_rule : ℕ → ℕ → Bool
size_rule left n = leb 12 n && leb n (4 + left)

abbrev element_of : ℕ → ℕ → ℕ → Body → Element
element_of n t c b = record { size = n; type = t; control = c; body = b }

abbrev body_of : ℕ → ℕ → ℕ → Format Element
body_of n t c = inside (n - 12) (Layout.body t) >>= λ b. done (element_of n t c b)

module _ (s : List ℕ) (f : Result ℕ Fault) (ef : f ≡ field_at s 0 4) where
  abbrev judged : Extent
  judged = extent_of (read Layout.element s)

  from_size : Upto Layout.element s 0 (number 4 size_rule >>= λ n. number 4 any >>= λ t. number 4 any >>= body_of n t)
  unfolding Layout.element
  from_size = upto_start Layout.element s

  pub element_outside : (x : Fault) → f ≡ Err x → Err x ≡ judged
  element_outside x q = rw (number_outside Layout.element s 0 4 size_rule _ from_size tt tt (omega arith) f ef x q)

  module _ (n : ℕ) (qn : f ≡ Ok n) where
    size_fits : (n ≡ number_at s 0 4) × (4 ≤ length s)
    size_fits = fitting s 0 4 tt tt f ef n qn

    wrong_size : size_rule (length s - 4) n ≡ false → Err (fault_at 0) ≡ judged
    wrong_size o = rw (number_wrong Layout.element s 0 4 size_rule _ from_size tt tt size_fits.0 size_fits.1 o)

    pub element_small : n < 12 → Err (fault_at 0) ≡ judged
    element_small g = wrong_size (rw (lt-leb 12 n g))

    pub element_long : length s < n → Err (fault_at 0) ≡ judged
    element_long g = wrong_size (rw (lt-leb n (4 + (length s - 4)) (omega (arith, size_fits.1))) (and-false (leb 12 n)))

    module _ (l : 12 ≤ n) (u : n ≤ length s) (t : ℕ) (et : t ≡ number_at s 4 4) where
      abbrev b : List ℕ
      b = take (n - 12) (drop 12 s)

      b_length : length b ≡ n - 12
      b_length = length-take-le (n - 12) (drop 12 s) (rw length-drop (omega arith))

      module _ (x : Extent) (q : x ≡ extent_of (filling (Layout.body t) b)) (r : Extent) (h : r ≡ further 12 x) where
        pub element_body_lem : r ≡ judged
        element_body_lem =
            let o : size_rule (length s - 4) n ≡ true = rw (le-leb 12 n l) (le-leb n (4 + (length s - 4)) (omega arith)) in
            let u₄ = number_holds Layout.element s 0 4 size_rule _ from_size tt tt size_fits.0 (omega arith) o in
            let u₈ = number_holds Layout.element s 4 4 any _ u₄ tt tt et (omega arith) refl in
            let u₁₂ = number_holds Layout.element s 8 4 any (body_of n t) u₈ tt tt refl (omega arith) refl in
            let to-body = last_extent Layout.element s 12 (inside (n - 12) (Layout.body t)) (element_of n t (number_at s 8 4)) u₁₂ in
            h ∙ ap (further 12) (q ∙ sym (ap extent_of (inside_read (n - 12) (Layout.body t) (drop 12 s) b_length))) ∙ sym to-body

        pub element_faulty : (f : Fault) → r ≡ Err f → Err f ≡ judged
        element_faulty f e = sym e ∙ element_body_lem

        -- a body that fills its part is as long as that
        pub element_filled : (z : ℕ) → r ≡ Ok z → Ok n ≡ judged
        element_filled z e =
            let (k, ek, i) = further_size 12 x z (sym h ∙ e) in
            let (v, w) = size_read (filling (Layout.body t) b) k (sym q ∙ ek) in
            let j = (exactly_value v k (length b) (read (Layout.body t) b) w).1 in
            ap Ok (omega (arith, b_length)) ∙ sym e ∙ element_body_lem
