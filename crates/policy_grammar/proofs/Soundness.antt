-- Formats and what makes bytes. Sound: what stands by a format, its bytes are made of. Complete: what is made stands by the format.
-- One law each way for each way of joining formats.
use Prim.Native.Nat.{ℕ, zero, suc, ◌≤◌, ◌<◌, ◌^◌}
use native.Mathlib.Omega.{arith}
use mathlib.Core.Path.{◌≡◌, refl, ap, sym, ◌∙◌, subst}
use mathlib.Core.Bool.{Bool, true, false, cond}
use mathlib.Core.List.{List, [], ◌∷◌, ◌++◌, flat_map, append_assoc, append-nil}
use mathlib.Core.Option.{some}
use lib.ListN.{length, take, drop, length-append, length-drop}
use lib.Seq.{take-append_seam, drop-append_seam, take_all, drop-length}
use lib.Dec.{eqb}
use borrow.Author.Tests.{eq-eqb, ne_eqb}
use Rattle.field.specs.Number.{Bytes, bytes}
use Rattle.field.specs.Number as Number
use Rattle.field.proofs.Laws.{bytes_drop, bytes_take, length_bytes, number_bytes, bytes_number, number_below}
use Rattle.policy_grammar.specs.Grammar.{All}
use Rattle.policy_grammar.specs.Format.{Format, done, ◌>>=◌, number, string, any_bytes, rest, inside, times, many}
use Rattle.policy_grammar.specs.Parser.{Read, value, fault, value_of, exactly, read, filling}
use Rattle.policy_grammar.specs.Fault.{Stands}
use Rattle.policy_grammar.proofs.Formats.{row, exactly_value, read_stands, stands_read, then_stands, stands_then}

-- whatever stands by F, with its bytes, meets R
abbrev pub Sound : {A : Type 0} → Format A → (A → List ℕ → Type 0) → Type 0
Sound {A} F R = (s : List ℕ) (a : A) (t : List ℕ) → Bytes s → Stands F a s t → (x : List ℕ) × R a x × (x ++ t ≡ s)

-- a obeys P, and f makes x of it
abbrev pub Made : {A : Type 0} → (A → List ℕ) → (A → Type 0) → A → List ℕ → Type 0
Made f P a x = P a × (f a ≡ x)

-- what obeys P stands by F where the bytes that f makes of it stand
abbrev pub Complete : {A : Type 0} → (A → List ℕ) → (A → Type 0) → Format A → Type 0
Complete {A} f P F = (a : A) (t : List ℕ) → P a → Stands F a (f a ++ t) t

-- the bytes of what is joined
module _ (x t s : List ℕ) (e : x ++ t ≡ s) (b : Bytes s) where
  pub bytes_left_lem : Bytes x
  bytes_left_lem = let d : take (length x) s ≡ x = rw (← e) (take-append_seam x t) in subst Bytes d (bytes_take (length x) s b)

  pub bytes_right : Bytes t
  bytes_right = let d : drop (length x) s ≡ t = rw (← e) (drop-append_seam x t) in subst Bytes d (bytes_drop (length x) s b)

joined : (x y t u s : List ℕ) → x ++ u ≡ s → y ++ t ≡ u → (x ++ y) ++ t ≡ s
joined x y t u s e d = append_assoc x y t ∙ ap (λ (z : List ℕ). x ++ z) d ∙ e

-- one after the other
pub then_sound : {A B : Type 0} (m : Format A) (f : A → Format B) (Q : A → List ℕ → Type 0) (R : B → List ℕ → Type 0)
    → Sound m Q → ((a : A) (x : List ℕ) → Q a x → Sound (f a) (λ b y. R b (x ++ y))) → Sound (m >>= f) R
then_sound m f Q R h g s b t bs st =
    let (a, u, p, q) = stands_then f m b s t st in
    let (x, qx, ex) = h s a u bs p in
    let (y, z, ey) = g a x qx u b t (bytes_right x u s ex bs) q in
    (x ++ y, z, joined x y t u s ex ey)

pub done_sound : {A : Type 0} (a : A) (R : A → List ℕ → Type 0) → R a [] → Sound (done a) R
unfolding Stands
done_sound a R h s b t _ (e, q) = ([], rw (← e) h, sym q)

pub done_complete : {A : Type 0} (a : A) (s : List ℕ) → Stands (done a) a s s
unfolding Stands
done_complete a s = (refl, refl)

-- a number
pub number_sound : {B : Type 0} (k : ℕ) (rule : ℕ → ℕ → Bool) (f : ℕ → Format B) (R : B → List ℕ → Type 0)
    → ((x : ℕ) → x < 256 ^ k → (left : ℕ) → rule left x ≡ true → Sound (f x) (λ b y. R b (bytes k x ++ y))) → Sound (number k rule >>= f) R
unfolding number ◌>>=◌ Stands
number_sound k rule f R g s b t bs (y, u, e, l, o, h) =
    let by = bytes_left_lem y u s e bs in
    let x : ℕ = Number.number k y in
    let i : bytes k x ≡ y = bytes_number k y by (omega arith) ∙ take_all k y (omega arith) in
    let (z, r, d) = g x (number_below k y by) (length u) o u b t (bytes_right y u s e bs) h in
    (bytes k x ++ z, r, joined (bytes k x) z t u s (rw i e) d)

pub number_complete : {B : Type 0} (k : ℕ) (rule : ℕ → ℕ → Bool) (f : ℕ → Format B) (x : ℕ) (u : List ℕ) (b : B) (t : List ℕ) → x < 256 ^ k
    → rule (length u) x ≡ true → Stands (f x) b u t → Stands (number k rule >>= f) b (bytes k x ++ u) t
unfolding number ◌>>=◌ Stands
number_complete k rule f x u b t h q r =
    let i : Number.number k (bytes k x) ≡ x = ap (Number.number k) (sym (append-nil (bytes k x))) ∙ number_bytes k x [] h in
    (bytes k x, u, refl, length_bytes k x, rw i q, rw i r)

-- a field of bytes
pub string_sound : (k : ℕ) (rule : List ℕ → Bool) → Sound (string k rule) (λ v x. (v ≡ x) × (length v ≡ k) × (rule v ≡ true))
unfolding string Stands
string_sound k rule s v t bs (y, u, e, l, o, (d, w)) = (v, (refl, rw (← d) l, rw (← d) o), rw (← d, ← w) e)

pub string_complete : {B : Type 0} (k : ℕ) (rule : List ℕ → Bool) (f : List ℕ → Format B) (v u : List ℕ) (b : B) (t : List ℕ) → length v ≡ k → rule v ≡ true
    → Stands (f v) b u t → Stands (string k rule >>= f) b (v ++ u) t
unfolding string ◌>>=◌ Stands
string_complete k rule f v u b t h q r = (v, u, refl, h, q, r)

pub rest_sound : Sound rest (λ v x. v ≡ x)
unfolding rest Stands
rest_sound s v t bs h = let (x, q, e) = string_sound (length s) any_bytes s v t bs h in (x, q.0, e)

pub rest_complete : (s : List ℕ) → Stands rest s s []
unfolding rest string Stands
rest_complete s = (s, [], append-nil s, refl, refl, (refl, refl))

-- what fills n bytes
pub inside_sound : {A : Type 0} (n : ℕ) (m : Format A) (Q : A → List ℕ → Type 0) → Sound m Q → Sound (inside n m) (λ a x. Q a x × (length x ≡ n))
unfolding inside Stands
inside_sound n m Q h s a t bs (b, w, u, e, l, i, (d, k)) =
    let (x, q, ex) = h w b [] (bytes_left_lem w u s e bs) i in
    let z : x ≡ w = sym (append-nil x) ∙ ex in
    (x, (rw (← d) q, rw z l), rw (z, ← k) e)

pub inside_complete : {A B : Type 0} (n : ℕ) (m : Format A) (f : A → Format B) (a : A) (w u : List ℕ) (b : B) (t : List ℕ) → length w ≡ n → Stands m a w []
    → Stands (f a) b u t → Stands (inside n m >>= f) b (w ++ u) t
unfolding inside ◌>>=◌ Stands
inside_complete n m f a w u b t h r g = (a, w, u, refl, h, r, g)

pub nil : (s : List ℕ) → length s ≡ 0 → s ≡ []
nil [] h = refl
nil (a ∷ s) h = absurd (omega arith)

pub inside_left : {A : Type 0} (m : Format A) (s : List ℕ) (a : A) (t : List ℕ) → Stands (inside (length s) m) a s t → t ≡ []
unfolding inside Stands
inside_left m s a t (b, w, u, e, l, i, (d, k)) = nil t (omega (arith, ap length k, ap length e, length-append w u))

-- a format that fills a string
module _ {A : Type 0} (F : Format A) (s : List ℕ) where
  pub filling_value : (a : A) → Stands F a s [] → filling F s ≡ value a (length s)
  unfolding exactly
  filling_value a h =
      let (n, e, _, z) = stands_read F s a [] h in
      let l : n ≡ length s = omega arith in
      rw (e, eq-eqb n (length s) l) (ap (value a) l)

  pub value_filling : (a : A) → value_of (filling F s) ≡ some a → Stands F a s []
  value_filling a h = go (filling F s) refl h
    where
      go : (g : Read A) → filling F s ≡ g → value_of g ≡ some a → Stands F a s []
      go (value b n) e q =
          let d : b ≡ a = cc in
          let (w, l) = exactly_value b n (length s) (read F s) e in
          subst (λ (x : A). Stands F x s []) d (subst (Stands F b s) (rw l (drop-length s)) (read_stands F s b n w).1)
      go (fault p) e q = let z : ◌≡◌ {A = ℕ} 0 1 = cc in absurd (omega arith)

-- what is read by a format that is sound, and by one that is complete
pub reads_sound : {A : Type 0} (f : A → List ℕ) (P : A → Type 0) (F : Format A) → Sound F (Made f P) → (s : List ℕ) (a : A) (n : ℕ) → Bytes s → read F s ≡ value a n
    → P a × (length (f a) ≡ n) × (f a ++ drop n s ≡ s)
reads_sound f P F h s a n b e =
    let (l, w) = read_stands F s a n e in
    let (x, (p, q), d) = h s a (drop n s) b w in
    (p, omega (arith, ap length q, ap length d, length-append x (drop n s), length-drop n s), rw q d)

pub reads_complete : {A : Type 0} (f : A → List ℕ) (P : A → Type 0) (F : Format A) → Complete f P F → (a : A) (t : List ℕ) → P a → read F (f a ++ t) ≡ value a (length (f a))
reads_complete f P F h a t p =
    let (n, e, _, z) = stands_read F (f a ++ t) a t (h a t p) in
    e ∙ ap (value a) (omega (arith, length-append (f a) t))

-- values in a row
module _ {A : Type 0} (f : A → List ℕ) (P : A → Type 0) (m : Format A) where
  abbrev pub SoMany : ℕ → List A → Type 0
  SoMany n l = All P l × (length l ≡ n)

  module _ (others : Format (List A)) where
    row_sound : (Q R : List A → Type 0) → Sound m (Made f P) → Sound others (Made (flat_map f) Q) → ((a : A) (l : List A) → P a → Q l → R (a ∷ l)) → Sound (row m others) (Made (flat_map f) R)
    unfolding flat_map
    row_sound Q R h g j =
        then_sound m _ (Made f P) _ h λ a x p. then_sound others _ (Made (flat_map f) Q) _ g λ l y q.
        done_sound (a ∷ l) _ (j a l p.0 q.0, rw (append-nil, p.1, q.1))

    row_complete : Complete f P m → (a : A) (l : List A) (t : List ℕ) → P a → Stands others l (flat_map f l ++ t) t → Stands (row m others) (a ∷ l) ((f a ++ flat_map f l) ++ t) t
    row_complete h a l t p q =
        rw append_assoc
        (then_stands _ m a _ _ (flat_map f l ++ t) t (h a (flat_map f l ++ t) p) (then_stands _ others l _ _ t t q (done_complete (a ∷ l) t)))

  pub times_sound : Sound m (Made f P) → (n : ℕ) → Sound (times n m) (Made (flat_map f) (SoMany n))
  unfolding times flat_map
  times_sound h zero = done_sound [] _ ((tt, refl), refl)
  times_sound h (suc n) = row_sound (times n m) (SoMany n) (SoMany (suc n)) h (times_sound h n) (λ a l p q. ((p, q.0), ap suc q.1))

  pub times_complete : Complete f P m → (n : ℕ) → Complete (flat_map f) (SoMany n) (times n m)
  unfolding times flat_map
  times_complete h zero [] t q = done_complete [] t
  times_complete h zero (a ∷ l) t q = absurd (omega (arith, q.1))
  times_complete h (suc n) [] t q = absurd (omega (arith, q.1))
  times_complete h (suc n) (a ∷ l) t q = row_complete (times n m) h a l t q.0.0 (times_complete h n l t (q.0.1, omega (arith, q.1)))

  -- as long as bytes are left
  module _ (n : ℕ) (l : List A) (s t : List ℕ) (h : 0 < length s) where
    some_left : eqb (length s) 0 ≡ false
    some_left = ne_eqb (length s) 0 (λ e. omega arith)

    many_row : Stands (many (suc n) m) l s t → Stands (row m (many n m)) l s t
    unfolding many Stands
    many_row r = subst (λ (x : Bool). Stands (cond x (done []) (row m (many n m))) l s t) some_left r

    row_many : Stands (row m (many n m)) l s t → Stands (many (suc n) m) l s t
    unfolding many Stands
    row_many r = subst (λ (x : Bool). Stands (cond x (done []) (row m (many n m))) l s t) (sym some_left) r

  pub many_sound : Sound m (Made f P) → (n : ℕ) → Sound (many n m) (Made (flat_map f) (All P))
  unfolding many flat_map Stands
  many_sound h zero s l t b r = done_sound [] (Made (flat_map f) (All P)) (tt, refl) s l t b r
  many_sound h (suc n) [] l t b r = done_sound [] (Made (flat_map f) (All P)) (tt, refl) [] l t b r
  many_sound h (suc n) (c ∷ s) l t b r =
      row_sound (many n m) (All P) (All P) h (many_sound h n) (λ a l p q. (p, q)) (c ∷ s) l t b (many_row n l (c ∷ s) t (omega arith) r)

  pub many_complete : Complete f P m → ((a : A) → P a → 0 < length (f a)) → (n : ℕ) (l : List A) → All P l → length (flat_map f l) ≤ n
      → Stands (many n m) l (flat_map f l) []
  unfolding many flat_map Stands
  many_complete h g zero [] q i = (refl, refl)
  many_complete h g (suc n) [] q i = (refl, refl)
  many_complete h g zero (a ∷ l) q i = absurd (omega (arith, g a q.0, length-append (f a) (flat_map f l)))
  many_complete h g (suc n) (a ∷ l) q i =
      let k : 0 < length (f a ++ flat_map f l) = omega (arith, g a q.0, length-append (f a) (flat_map f l)) in
      let r = many_complete h g n l q.1 (omega (arith, g a q.0, length-append (f a) (flat_map f l))) in
      row_many n (a ∷ l) (f a ++ flat_map f l) [] k (rw append-nil at (row_complete (many n m) h a l [] q.0 (rw append-nil r)))
