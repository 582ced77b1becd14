-- The decoder and the grammar agree: what a string is decoded to makes it, and what makes a string is what it is decoded to.
-- So a string is made from one reading at most.
use Prim.Native.Nat.{ℕ, ◌+◌, ◌*◌, ◌-◌, ◌≤◌, ◌<◌, ◌^◌}
use native.Mathlib.Nat.{suc-mul, zero-mul}
use native.Mathlib.Omega.{arith}
use mathlib.Core.Path.{◌≡◌, refl, ap, sym, ◌∙◌, subst}
use mathlib.Core.Logic.{◌⊎◌, inl, inr, ⊎_elim}
use mathlib.Core.Bool.{Bool, true, false, cond, ◌&&◌, ◌||◌, and-eq-true_iff}
use mathlib.Core.List.{List, [], ◌∷◌, ◌++◌, flat_map, append_assoc, append-nil}
use mathlib.Core.Option.{some}
use lib.ListN.{length, take, drop, length-append, take-append-drop}
use lib.Dec.{leb, eqb}
use borrow.Author.Tests.{le-leb, eq-eqb, ne_eqb, leb-true, eqb-true, eqb-false}
use Rattle.field.specs.Number.{Bytes, bytes}
use Rattle.field.specs.Field.{same}
use Rattle.field.proofs.Laws.{length_bytes, same_true, same_refl}
use Rattle.policy_grammar.specs.Grammar.{Digests, digests_bytes, ValidDigests, launch_type, stm_type, Launch, Body, launch_bytes, body_bytes, Element, element_bytes, digest_length, All, ValidLaunch, ValidBody, ValidElement, Signature, Signing, signature_bytes, signing_bytes, ValidSignature, ValidSigning, PolicyList, list_bytes, ValidList, Reading, file_bytes, ValidReading, Makes, mark_characters}
use Rattle.policy_grammar.specs.Grammar as Grammar
use Rattle.policy_grammar.specs.Format.{done, string, any, any_bytes, rest, inside, times, many}
use Rattle.policy_grammar.specs.Layout as Layout
use Rattle.policy_grammar.specs.Parser.{Read, value, fault, value_of, filling}
use Rattle.policy_grammar.specs.Layout.{whole}
use Rattle.policy_grammar.specs.Decode.{reading}
use Rattle.policy_grammar.specs.Fault.{Stands, FirstFaultIn, MadeExactly, SomePlace}
use Rattle.policy_grammar.proofs.Formats.{value_fault, then_stands, read_stands, stands_read}
use Rattle.policy_grammar.proofs.Faults.{fault_exactly}
use Rattle.policy_grammar.proofs.Soundness.{Sound, Made, Complete, bytes_left_lem, then_sound, done_sound, done_complete, number_sound, number_complete, string_sound, string_complete, rest_sound, rest_complete, inside_sound, inside_complete, inside_left, filling_value, value_filling, times_sound, times_complete, many_sound, many_complete}

-- a number is one of two
pub one_of : (n a b : ℕ) → (n ≡ a) ⊎ (n ≡ b) → (eqb n a || eqb n b) ≡ true
one_of n a b h = go (eqb n a) refl
  where
    go : (x : Bool) → eqb n a ≡ x → (x || eqb n b) ≡ true
    go true e = refl
    go false e = ⊎_elim (λ w. absurd (eqb-false n a e w)) (λ w. eq-eqb n b w) h

pub which_of : (n a b : ℕ) → (eqb n a || eqb n b) ≡ true → (n ≡ a) ⊎ (n ≡ b)
which_of n a b h = go (eqb n a) refl h
  where
    go : (x : Bool) → eqb n a ≡ x → (x || eqb n b) ≡ true → (n ≡ a) ⊎ (n ≡ b)
    go true e h = inl (eqb-true n a e)
    go false e h = inr (eqb-true n b h)

-- digests
abbrev pub Long : ℕ → List ℕ → Type 0
Long k d = length d ≡ k

abbrev pub itself : List ℕ → List ℕ
itself d = d

pub length_digests : (k : ℕ) (ds : List (List ℕ)) → All (Long k) ds → length (flat_map itself ds) ≡ length ds * k
unfolding flat_map
length_digests k [] h = sym (zero-mul k)
length_digests k (d ∷ ds) h = rw (length-append, suc-mul) (omega (arith, h.0, length_digests k ds h.1))

digest_sound : (k : ℕ) → Sound (string k any_bytes) (Made itself (Long k))
digest_sound k s d t b h = let (x, q, e) = string_sound k any_bytes s d t b h in (x, (q.1, q.0), e)

digest_complete : (k : ℕ) → Complete itself (Long k) (string k any_bytes)
unfolding string Stands
digest_complete k d t h = (d, t, refl, h, refl, (refl, refl))

pub digests_sound : Sound Layout.digests (Made digests_bytes ValidDigests)
unfolding Layout.digests
digests_sound =
    number_sound 2 _ _ _ λ a ha _ oa. number_sound 2 _ _ _ λ n hn _ _.
    let k : ℕ = digest_length a in
    then_sound (times n (string k any_bytes)) _ _ _ (times_sound itself (Long k) (string k any_bytes) (digest_sound k) n) λ ds x d.
    done_sound (record { hash_alg = a; count = n; digests = ds }) _
    (record { alg_fits = ha; alg_known = leb-true 1 k oa; count_fits = hn; counted = omega (arith, d.0.1); digest_lengths = d.0.0 }, rw (append-nil, d.1))

digests_complete : Complete digests_bytes ValidDigests Layout.digests
unfolding Layout.digests
digests_complete d t h =
    let k : ℕ = digest_length d.hash_alg in
    let J : List ℕ = flat_map itself d.digests in
    let l : d.count * k ≤ length (J ++ t) = rw (← h.counted) (omega (arith, length-append J t, length_digests k d.digests h.digest_lengths)) in
    simp append_assoc
    (number_complete 2 _ _ d.hash_alg _ d t h.alg_fits (le-leb 1 k h.alg_known)
    (number_complete 2 _ _ d.count _ d t h.count_fits (le-leb (d.count * k) (length (J ++ t)) l)
    (then_stands _ (times d.count (string k any_bytes)) d.digests d (J ++ t) t t
    (times_complete itself (Long k) (string k any_bytes) (digest_complete k) d.count d.digests t (h.digest_lengths, h.counted)) (done_complete d t))))

-- a body
launch_sound : Sound Layout.launch (Made body_bytes (ValidBody launch_type))
unfolding Layout.launch
launch_sound =
    number_sound 1 any _ _ λ m hm _ _. number_sound 1 any _ _ λ v hv _ _.
    then_sound Layout.digests _ _ _ digests_sound λ ds x d.
    done_sound (Grammar.launch (record { sinit_min_version = m; reserved = v; digests = ds })) _
    ((refl, record { version_fits = hm; reserved_fits = hv; digests_valid = d.0 }), rw (append-nil, d.1))

launch_complete : (b : Launch) (t : List ℕ) → ValidLaunch b → Stands Layout.launch (Grammar.launch b) (launch_bytes b ++ t) t
unfolding Layout.launch
launch_complete b t h =
    rw (append_assoc, append_assoc)
    (number_complete 1 any _ b.sinit_min_version _ _ t h.version_fits refl
    (number_complete 1 any _ b.reserved _ _ t h.reserved_fits refl
    (then_stands _ Layout.digests b.digests _ (digests_bytes b.digests ++ t) t t (digests_complete b.digests t h.digests_valid) (done_complete _ t))))

stm_sound : Sound Layout.stm (Made body_bytes (ValidBody stm_type))
unfolding Layout.stm
stm_sound = then_sound Layout.digests _ _ _ digests_sound λ ds x d. done_sound (Grammar.stm ds) _ ((refl, d.0), rw (append-nil, d.1))

stm_complete : (d : Digests) (t : List ℕ) → ValidDigests d → Stands Layout.stm (Grammar.stm d) (digests_bytes d ++ t) t
unfolding Layout.stm
stm_complete d t h = then_stands _ Layout.digests d _ (digests_bytes d ++ t) t t (digests_complete d t h) (done_complete _ t)

body_sound : (type : ℕ) → Sound (Layout.body type) (Made body_bytes (ValidBody type))
unfolding Layout.body Layout.other
body_sound type = go (eqb type launch_type) (eqb type stm_type) refl refl
  where
    go : (x y : Bool) → eqb type launch_type ≡ x → eqb type stm_type ≡ y → Sound (cond x Layout.launch (cond y Layout.stm Layout.other)) (Made body_bytes (ValidBody type))
    go true y e q = rw (eqb-true type launch_type e) launch_sound
    go false true e q = rw (eqb-true type stm_type q) stm_sound
    go false false e q =
        then_sound rest _ _ _ rest_sound λ b x d. done_sound (Grammar.other b) _ ((eqb-false type launch_type e, eqb-false type stm_type q), d ∙ sym (append-nil x))

pub body_complete : (type : ℕ) (b : Body) → ValidBody type b → Stands (Layout.body type) b (body_bytes b) []
unfolding Layout.body Layout.other
body_complete type (Grammar.launch b) h = rw h.0 (rw append-nil at (launch_complete b [] h.1))
body_complete type (Grammar.stm d) h = rw h.0 (rw append-nil at (stm_complete d [] h.1))
body_complete type (Grammar.other b) h =
    rw (ne_eqb type launch_type h.0, ne_eqb type stm_type h.1) (then_stands _ rest b (Grammar.other b) b [] [] (rest_complete b) (done_complete (Grammar.other b) []))

-- what fills a string as a body makes it, and the bytes that a body makes are filled by it
pub body_made : (kind : ℕ) (b : List ℕ) (x : Body) → Bytes b → value_of (filling (Layout.body kind) b) ≡ some x → ValidBody kind x × (body_bytes x ≡ b)
body_made kind b x h e =
    let (y, q, d) = body_sound kind b x [] h (value_filling (Layout.body kind) b x e) in
    (q.0, q.1 ∙ sym (append-nil y) ∙ d)

pub body_read : (kind : ℕ) (x : Body) → ValidBody kind x → value_of (filling (Layout.body kind) (body_bytes x)) ≡ some x
body_read kind x h = ap value_of (filling_value (Layout.body kind) (body_bytes x) x (body_complete kind x h))

-- an element
pub element_length : (e : Element) → length (element_bytes e) ≡ 12 + length (body_bytes e.body)
element_length e = simp (length-append, length_bytes) (omega arith)

pub element_sound : Sound Layout.element (Made element_bytes ValidElement)
unfolding Layout.element
element_sound =
    number_sound 4 _ _ _ λ n hn _ o. number_sound 4 any _ _ λ t ht _ _. number_sound 4 any _ _ λ c hc _ _.
    then_sound (inside (n - 12) (Layout.body t)) _ _ _ (inside_sound (n - 12) (Layout.body t) _ (body_sound t)) λ b x d.
    let e : Element = record { size = n; type = t; control = c; body = b } in
    let l : length (body_bytes b) ≡ n - 12 = rw d.0.1 d.1 in
    done_sound e _
    (record { size_fits = hn; type_fits = ht; control_fits = hc; sized = omega (arith, leb-true 12 n ((and-eq-true_iff _ _).0 o).0, l, element_length e); body_valid = d.0.0 }, rw (append-nil, d.0.1))

pub element_complete : Complete element_bytes ValidElement Layout.element
unfolding Layout.element
element_complete e t h =
    let B : List ℕ = body_bytes e.body in
    let z : e.size ≡ 12 + length B = h.sized ∙ element_length e in
    let l : e.size ≤ 4 + length (bytes 4 e.type ++ (bytes 4 e.control ++ (B ++ t))) = simp (length-append, length_bytes) (omega arith) in
    simp append_assoc
    (number_complete 4 _ _ e.size _ e t h.size_fits (rw (le-leb 12 e.size (omega arith)) (le-leb _ _ l))
    (number_complete 4 any _ e.type _ e t h.type_fits refl
    (number_complete 4 any _ e.control _ e t h.control_fits refl
    (inside_complete (e.size - 12) (Layout.body e.type) _ e.body B t e t (omega arith) (body_complete e.type e.body h.body_valid) (done_complete e t)))))

-- what signs a list
pub signed_sound : Sound Layout.signed (Made signing_bytes (ValidSigning 0x0014))
unfolding Layout.signed
signed_sound =
    number_sound 2 any _ _ λ c hc _ _. number_sound 2 _ _ _ λ n hn _ o.
    then_sound (string n any_bytes) _ _ _ (string_sound n any_bytes) λ K x d. then_sound (string n any_bytes) _ _ _ (string_sound n any_bytes) λ S y e.
    done_sound (Grammar.signed (record { counter = c; key_size = n; key = K; signature = S })) _
    ((refl, record { counter_fits = hc; key_size_known = which_of n 256 384 ((and-eq-true_iff _ _).0 o).0; key_sized = d.1; signature_sized = e.1 }), rw (append-nil, d.0, e.0))

signed_complete : (g : Signature) (t : List ℕ) → ValidSignature g → Stands Layout.signed (Grammar.signed g) (signature_bytes g ++ t) t
unfolding Layout.signed
signed_complete g t h =
    let n : ℕ = g.key_size in
    let K : List ℕ = g.key in
    let S : List ℕ = g.signature in
    let n-fits : n < 256 ^ 2 = ⊎_elim (λ e. omega arith) (λ e. omega arith) h.key_size_known in
    let l : n + n ≤ length (K ++ (S ++ t)) = simp length-append (omega (arith, h.key_sized, h.signature_sized)) in
    simp append_assoc
    (number_complete 2 any _ g.counter _ _ t h.counter_fits refl
    (number_complete 2 _ _ n _ _ t n-fits (rw (one_of n 256 384 h.key_size_known) (le-leb (n + n) (length (K ++ (S ++ t))) l))
    (string_complete n any_bytes _ K (S ++ t) _ t h.key_sized refl (string_complete n any_bytes _ S t _ t h.signature_sized refl (done_complete _ t)))))

signing_sound : (a : ℕ) → (a ≡ 0x0010) ⊎ (a ≡ 0x0014) → Sound (Layout.signing a) (Made signing_bytes (ValidSigning a))
unfolding Layout.signing
signing_sound a u = go (eqb a 0x0014) refl
  where
    go : (x : Bool) → eqb a 0x0014 ≡ x → Sound (cond x Layout.signed (done Grammar.unsigned)) (Made signing_bytes (ValidSigning a))
    go true e = rw (eqb-true a 0x0014 e) signed_sound
    go false e = done_sound Grammar.unsigned _ (⊎_elim (λ z. z) (λ z. absurd (eqb-false a 0x0014 e z)) u, refl)

signing_complete : (a : ℕ) → Complete signing_bytes (ValidSigning a) (Layout.signing a)
unfolding Layout.signing
signing_complete a Grammar.unsigned t h = rw (ne_eqb a 0x0014 (λ e. omega (arith, h))) (done_complete Grammar.unsigned t)
signing_complete a (Grammar.signed g) t h = rw (eq-eqb a 0x0014 h.0) (signed_complete g t h.1)

algorithm_known : (a : ℕ) (g : Signing) → ValidSigning a g → (a ≡ 0x0010) ⊎ (a ≡ 0x0014)
algorithm_known a Grammar.unsigned h = inl h
algorithm_known a (Grammar.signed g) h = inr h.0

-- a list
pub elements_sound : (n : ℕ) → Sound (many n Layout.element) (Made (flat_map element_bytes) (All ValidElement))
elements_sound n = many_sound element_bytes ValidElement Layout.element element_sound n

pub elements_complete : (n : ℕ) (es : List Element) → All ValidElement es → length (flat_map element_bytes es) ≤ n
    → Stands (many n Layout.element) es (flat_map element_bytes es) []
elements_complete n es h l =
    many_complete element_bytes ValidElement Layout.element element_complete (λ e v. omega (arith, element_length e)) n es h l

pub list_sound : Sound Layout.list (Made list_bytes ValidList)
unfolding Layout.list
list_sound =
    number_sound 2 _ _ _ λ v hv _ ov. number_sound 2 _ _ _ λ a ha _ oa. number_sound 4 _ _ _ λ n hn _ _.
    then_sound (inside n (many n Layout.element)) _ _ _ (inside_sound n (many n Layout.element) _ (elements_sound n)) λ es x d.
    then_sound (Layout.signing a) _ _ _ (signing_sound a (which_of a 0x0010 0x0014 oa)) λ g y e.
    done_sound (record { version = v; signature_algorithm = a; elements_size = n; elements = es; signing = g }) _
    (record { version_known = which_of v 0x0200 0x0201 ov; size_fits = hn; filled = sym (rw d.0.1 d.1); elements_valid = d.0.0; signing_valid = e.0 }, rw (append-nil, d.0.1, e.1))

pub list_complete : Complete list_bytes ValidList Layout.list
unfolding Layout.list
list_complete l t h =
    let J : List ℕ = flat_map element_bytes l.elements in
    let S : List ℕ = signing_bytes l.signing in
    let n : ℕ = l.elements_size in
    let u = algorithm_known l.signature_algorithm l.signing h.signing_valid in
    let v-fits : l.version < 256 ^ 2 = ⊎_elim (λ e. omega arith) (λ e. omega arith) h.version_known in
    let a-fits : l.signature_algorithm < 256 ^ 2 = ⊎_elim (λ e. omega arith) (λ e. omega arith) u in
    let i : n ≤ length (J ++ (S ++ t)) = simp length-append (omega (arith, h.filled)) in
    simp append_assoc
    (number_complete 2 _ _ l.version _ l t v-fits (one_of l.version 0x0200 0x0201 h.version_known)
    (number_complete 2 _ _ l.signature_algorithm _ l t a-fits (one_of l.signature_algorithm 0x0010 0x0014 u)
    (number_complete 4 _ _ n _ l t h.size_fits (le-leb n (length (J ++ (S ++ t))) i)
    (inside_complete n (many n Layout.element) _ l.elements J (S ++ t) l t (sym h.filled) (elements_complete n l.elements h.elements_valid (omega (arith, h.filled)))
    (then_stands _ (Layout.signing l.signature_algorithm) l.signing l (S ++ t) t t (signing_complete l.signature_algorithm l.signing t h.signing_valid) (done_complete l t))))))

-- a file
abbrev zeros : List ℕ
zeros = 0 ∷ 0 ∷ 0 ∷ 0 ∷ []

module _ (m z : List ℕ) (n : ℕ) (ls : List PolicyList) where
  abbrev read : Reading
  read = record { mark = take 28 m; mark_zeros = drop 28 m; reserved = z; list_count = n; lists = ls }

  read_valid : same m (mark_characters ++ zeros) ≡ true → same z (0 ∷ 0 ∷ 0 ∷ []) ≡ true → (leb 1 n && leb n 8) ≡ true → All ValidList ls × (length ls ≡ n) → ValidReading read
  unfolding mark_characters
  read_valid em ez o w =
      let M : m ≡ mark_characters ++ zeros = same_true m _ em in
      let q = (and-eq-true_iff _ _).0 o in
      record { marked = rw M; mark_zeros = rw M; reserved_zeros = same_true z _ ez; one_or_more = leb-true 1 n q.0; eight_or_fewer = omega (arith, leb-true n 8 q.1); counted = w.1; lists_valid = w.0 }

  read_bytes : file_bytes read ≡ m ++ (z ++ (bytes 1 n ++ flat_map list_bytes ls))
  read_bytes = sym (append_assoc (take 28 m) (drop 28 m) _) ∙ ap (λ (x : List ℕ). x ++ (z ++ (bytes 1 n ++ flat_map list_bytes ls))) (take-append-drop 28 m)

file_sound : Sound Layout.file (Made file_bytes ValidReading)
unfolding Layout.file
file_sound =
    then_sound (string 32 (λ b. same b (mark_characters ++ zeros))) _ _ _ (string_sound 32 _) λ m x d.
    then_sound (string 3 (λ b. same b (0 ∷ 0 ∷ 0 ∷ []))) _ _ _ (string_sound 3 _) λ z y e.
    number_sound 1 _ _ _ λ n hn _ o.
    then_sound (times n Layout.list) _ _ _ (times_sound list_bytes ValidList Layout.list list_sound n) λ ls u w.
    done_sound (read m z n ls) _ (read_valid m z n ls d.2 e.2 o w.0, read_bytes m z n ls ∙ rw (append-nil, d.0, e.0, w.1))

mark_length : length (mark_characters ++ zeros) ≡ 32
unfolding mark_characters
mark_length = refl

file_complete : (n : ℕ) (ls : List PolicyList) → 1 ≤ n → n ≤ 8 → All ValidList ls × (length ls ≡ n)
    → Stands Layout.file (read (mark_characters ++ zeros) (0 ∷ 0 ∷ 0 ∷ []) n ls) ((mark_characters ++ zeros) ++ ((0 ∷ 0 ∷ 0 ∷ []) ++ (bytes 1 n ++ (flat_map list_bytes ls ++ [])))) []
unfolding Layout.file
file_complete n ls h₁ h₈ q =
    string_complete 32 (λ b. same b (mark_characters ++ zeros)) _ (mark_characters ++ zeros) _ _ [] mark_length (same_refl (mark_characters ++ zeros))
    (string_complete 3 (λ b. same b (0 ∷ 0 ∷ 0 ∷ [])) _ (0 ∷ 0 ∷ 0 ∷ []) _ _ [] refl (same_refl (0 ∷ 0 ∷ 0 ∷ []))
    (number_complete 1 _ _ n _ _ [] (omega arith) (rw (le-leb 1 n h₁) (le-leb n 8 h₈))
    (then_stands _ (times n Layout.list) ls _ _ [] [] (times_complete list_bytes ValidList Layout.list list_complete n ls [] q) (done_complete _ []))))

read_is : (r : Reading) → ValidReading r → read (mark_characters ++ zeros) (0 ∷ 0 ∷ 0 ∷ []) r.list_count r.lists ≡ r
unfolding mark_characters
read_is r h =
    λ i. record { mark = sym h.marked i; mark_zeros = sym h.mark_zeros i; reserved = sym h.reserved_zeros i; list_count = r.list_count; lists = r.lists }

pub file_stands : (r : Reading) (s : List ℕ) → Makes r s → Stands Layout.file r s []
file_stands r s m =
    let h = m.valid in
    let e : r.mark ++ (r.mark_zeros ++ (r.reserved ++ (bytes 1 r.list_count ++ (flat_map list_bytes r.lists ++ [])))) ≡ s = rw append-nil m.made in
    let d : (mark_characters ++ zeros) ++ ((0 ∷ 0 ∷ 0 ∷ []) ++ (bytes 1 r.list_count ++ (flat_map list_bytes r.lists ++ []))) ≡ s =
    append_assoc mark_characters zeros _ ∙ rw (h.marked, h.mark_zeros, h.reserved_zeros) at e in
    let q = file_complete r.list_count r.lists h.one_or_more h.eight_or_fewer (h.lists_valid, h.counted) in
    subst (λ (x : Reading). Stands Layout.file x s []) (read_is r h)
    (subst (λ (x : List ℕ). Stands Layout.file (read (mark_characters ++ zeros) (0 ∷ 0 ∷ 0 ∷ []) r.list_count r.lists) x []) d q)

-- the fields of a whole file are those of the grammar
pub made_exactly : MadeExactly
unfolding whole inside Stands
made_exactly s r b = (
  λ (r', w, u, e, l, h, (d, k)).
      (let (x, q, z) = file_sound w r' [] (bytes_left_lem w u s e b) h in
      record {
        valid = subst ValidReading d q.0;
        made = ap file_bytes (sym d) ∙ q.1 ∙ sym (append-nil x) ∙ z ∙ sym (append-nil w) ∙ ap (λ (y : List ℕ). w ++ y) (sym k) ∙ e;
      }),
  λ m. (r, s, [], append-nil s, refl, file_stands r s m, (refl, refl)),
)

pub reading_sound : (s : List ℕ) (r : Reading) (n : ℕ) → Bytes s → reading s ≡ value r n → Makes r s
unfolding reading whole
reading_sound s r n b h =
    let st = (read_stands (whole (length s)) s r n h).1 in
    (made_exactly s r b).0 (subst (Stands (whole (length s)) r s) (inside_left Layout.file s r (drop n s) st) st)

pub reading_complete : (r : Reading) (s : List ℕ) → Makes r s → reading s ≡ value r (length s)
unfolding reading whole inside Stands
reading_complete r s m =
    let (n, e, _, z) = stands_read (whole (length s)) s r [] (r, s, [], append-nil s, refl, file_stands r s m, (refl, refl)) in
    e ∙ ap (value r) (omega arith)

-- a string that no reading makes has a first fault
pub some_place : SomePlace
some_place s b = (
  λ (p, f) r m. value_fault (sym (reading_complete r s m) ∙ (fault_exactly s p).1 f),
  λ h. go h (reading s) refl,
)
  where
    go : ((r : Reading) → Makes r s → ⊥) → (g : Read Reading) → reading s ≡ g → (p : ℕ) × FirstFaultIn s p
    go h (value r n) e = absurd (h r (reading_sound s r n b e))
    go h (fault p) e = (p, (fault_exactly s p).0 e)

-- a string is made from one reading only
pub unique : (r r' : Reading) (s : List ℕ) → Makes r s → Makes r' s → r ≡ r'
unique r r' s m m' = let e = reading_complete r s m in let e' = reading_complete r' s m' in cc
