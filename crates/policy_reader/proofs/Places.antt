-- Where the parts of a reading stand in the string that it makes: each list after the 36 bytes and the lists before it, and in a list its elements, its key and its signature.
use Prim.Native.Nat.{ℕ, ◌+◌, ◌≤◌, ◌<◌}
use native.Mathlib.Omega.{arith}
use mathlib.Core.Path.{◌≡◌, refl, ap, sym, ◌∙◌}
use mathlib.Core.Logic.{◌⊎◌, ⊎_elim}
use mathlib.Core.Bool.{Bool, true, false, cond, and-false}
use mathlib.Core.List.{List, [], ◌∷◌, ◌++◌, flat_map, append_assoc, append-nil}
use mathlib.Core.Option.{some, none}
use lib.ListN.{length, take, drop, get_elem?, length-append, length-drop}
use lib.Seq.{take_at, drop_at, drop-drop}
use lib.Dec.{leb}
use borrow.Author.Tests.{le-leb, lt-leb}
use Rattle.field.specs.Number.{Bytes, bytes}
use Rattle.field.proofs.Laws.{length_bytes}
use Rattle.policy_grammar.specs.Grammar.{All, Element, element_bytes, ValidElement, signing_bytes, PolicyList, list_bytes, ValidList, Reading, Makes, mark_characters}
use Rattle.policy_grammar.specs.Parser.{Read, value, fault, value_of}
use Rattle.policy_grammar.specs.Decode.{reading, accepted}
use Rattle.policy_grammar.specs.Sizes.{sized}
use Rattle.policy_answers.specs.Answers.{place}
use Rattle.policy_reader.specs.Offsets.{StandsAt}
use Rattle.policy_grammar.proofs.Decoding.{reading_sound, reading_complete}
use Rattle.policy_reader.proofs.Cuts.{cut, Cut, all_drop, flat_drop}

-- the size of a string that is read, and of one that is not
pub sized_inside : (s : List ℕ) → 36 ≤ length s → length s ≤ 65536 → sized s ≡ true
sized_inside s l u = rw (le-leb 36 (length s) l, le-leb (length s) 65536 u)

pub sized_outside : (s : List ℕ) → (length s < 36) ⊎ (65536 < length s) → sized s ≡ false
sized_outside s u = ⊎_elim (λ l. rw (lt-leb 36 (length s) l)) (λ l. rw (lt-leb (length s) 65536 l) (and-false (leb 36 (length s)))) u

-- an accepted string is made from the reading with which it is accepted
pub accepted_sound : (s : List ℕ) (r : Reading) → Bytes s → accepted s ≡ some r → Makes r s × (sized s ≡ true)
unfolding accepted
accepted_sound s r b h = go (sized s) refl (reading s) refl h
  where
    go : (x : Bool) → sized s ≡ x → (g : Read Reading) → reading s ≡ g → cond x (value_of g) none ≡ some r → Makes r s × (sized s ≡ true)
    go true e (value r' n) q h = let i : r' ≡ r = cc in (reading_sound s r n b (q ∙ ap (λ (x : Reading). value x n) i), e)
    go true e (fault p) q h = let z : ◌≡◌ {A = ℕ} 0 1 = cc in absurd (omega arith)
    go false e g q h = let z : ◌≡◌ {A = ℕ} 0 1 = cc in absurd (omega arith)

-- a string of up to 65,536 bytes that a reading makes is accepted with it
pub makes_long : (r : Reading) (s : List ℕ) → Makes r s → 36 ≤ length s
unfolding mark_characters
makes_long r s m =
    let v = m.valid in
    let e₁ : length r.mark ≡ 28 = rw v.marked in
    let e₂ : length r.mark_zeros ≡ 4 = rw v.mark_zeros in
    let e₃ : length r.reserved ≡ 3 = rw v.reserved_zeros in
    omega (arith, simp (length-append, length_bytes) at (ap length m.made))

pub accepted_complete : (r : Reading) (s : List ℕ) → Makes r s → length s ≤ 65536 → accepted s ≡ some r
unfolding accepted
accepted_complete r s m h = rw (sized_inside s (makes_long r s m) h, reading_complete r s m)

-- the lists stand from offset 36 on
pub lists_stand : (r : Reading) (s : List ℕ) → Makes r s → drop 36 s ≡ flat_map list_bytes r.lists
unfolding mark_characters bytes
lists_stand r s m =
    let v = m.valid in
    rw (← m.made, v.marked, v.mark_zeros, v.reserved_zeros)

-- the value number k, with what the values after it make
pub numbered_at : {A : Type 0} (f : A → List ℕ) (P : A → Type 0) (s : List ℕ) (start : ℕ) (xs : List A) (t : List ℕ) → All P xs → drop start s ≡ flat_map f xs ++ t
    → (k : ℕ) (a : A) → get_elem? xs k ≡ some a → StandsAt f P s (start + length (flat_map f (take k xs))) a
unfolding flat_map
numbered_at {A = A} f P s start xs t all e k a q = ⊎_elim (λ c. (let i = c.1 k (omega arith) in let z : ◌≡◌ {A = ℕ} 0 1 = cc in absurd (omega arith))) there (cut f xs k)
  where
    there : Cut f xs k → StandsAt f P s (start + length (flat_map f (take k xs))) a
    there c =
        let i : c.first ≡ a = (let o = c.is in cc) in
        let d : drop k xs ≡ a ∷ c.others = c.from ∙ ap (λ (x : A). x ∷ c.others) i in
        let n : ℕ = length (flat_map f (take k xs)) in
        record {
          obeys = (let w : All P (a ∷ c.others) = rw d at (all_drop P xs k all) in w.0);
          rest = flat_map f c.others ++ t;
          stands =
              rw (← drop-drop n start s, e, flat_drop f xs t k, d) (append_assoc (f a) (flat_map f c.others) t);
        }

-- in a list
module _ (s : List ℕ) (at : ℕ) (l : PolicyList) (here : StandsAt list_bytes ValidList s at l) where
  abbrev J : List ℕ
  J = flat_map element_bytes l.elements

  abbrev S : List ℕ
  S = signing_bytes l.signing

  abbrev n : ℕ
  n = l.elements_size

  pub elements_at : drop (at + 8) s ≡ J ++ (S ++ here.rest)
  unfolding bytes
  elements_at = rw (← drop-drop 8 at s, here.stands) (append_assoc J S here.rest)

  pub elements_part : take n (drop (at + 8) s) ≡ J
  elements_part = rw elements_at (take_at J (S ++ here.rest) n (sym here.obeys.filled))

  pub elements_fit : at + 8 + n ≤ length s
  elements_fit = omega (arith, here.obeys.filled, length-drop at s, simp (length-append, length_bytes) at (ap length here.stands))

  pub signing_at : drop (at + (8 + n)) s ≡ S ++ here.rest
  signing_at =
      let i : at + (8 + n) ≡ at + 8 + n = omega arith in
      rw (i, ← drop-drop n (at + 8) s, elements_at) (drop_at J (S ++ here.rest) n (sym here.obeys.filled))

  pub element_at_lem : (j : ℕ) (e : Element) → get_elem? l.elements j ≡ some e → StandsAt element_bytes ValidElement s (at + 8 + length (flat_map element_bytes (take j l.elements))) e
  element_at_lem j e q = numbered_at element_bytes ValidElement s (at + 8) l.elements (S ++ here.rest) here.obeys.elements_valid elements_at j e q

-- the lists of a string by number
pub list_at : (r : Reading) (s : List ℕ) → Makes r s → (i : ℕ) (l : PolicyList) → get_elem? r.lists i ≡ some l → StandsAt list_bytes ValidList s (place list_bytes 36 r.lists i) l
list_at r s m i l q = numbered_at list_bytes ValidList s 36 r.lists [] m.valid.lists_valid (lists_stand r s m ∙ sym (append-nil (flat_map list_bytes r.lists))) i l q
