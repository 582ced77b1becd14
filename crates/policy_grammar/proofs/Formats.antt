-- Any format: what is read by it is what stands, by one induction over formats each way; and what is read by one format and then the next.
use Prim.Native.Nat.{ℕ, ◌+◌, ◌-◌, ◌≤◌}
use native.Mathlib.Omega.{arith}
use mathlib.Core.Path.{◌≡◌, refl, ap, sym, ◌∙◌, subst}
use mathlib.Core.Bool.{Bool, true, false, cond, ◌&&◌, and-eq-true_iff}
use mathlib.Core.List.{List, [], ◌∷◌, ◌++◌}
use lib.ListN.{length, take, drop, length-append, length-drop, length-take, take-append-drop}
use lib.Seq.{take_at, drop_at, length-take-le, drop-drop, drop-length}
use lib.Dec.{leb, eqb}
use borrow.Author.Tests.{le-leb, leb-true, eqb-true, eq-eqb}
use Rattle.policy_grammar.specs.Format.{Format, done, field, part, bytes_left, ◌>>=◌}
use Rattle.policy_grammar.specs.Parser.{Read, value, fault, Parser, after, continue, exactly, read}
use Rattle.policy_grammar.specs.Fault.{Stands}

-- WHAT LED TO A VALUE, AND WHAT TO A FAULT

pub value_fault : {A : Type 0} {a : A} {n p : ℕ} → value a n ≡ fault p → ⊥
value_fault e = let z : ◌≡◌ {A = ℕ} 0 1 = cc in omega arith

module _ {A : Type 0} (a : A) (n : ℕ) where
  held : (x : Bool) (g : Read A) (p : ℕ) → cond x g (fault p) ≡ value a n → (x ≡ true) × (g ≡ value a n)
  held true g p h = (refl, h)
  held false g p h = absurd (value_fault (sym h))

  after_value : (k : ℕ) (g : Read A) → after k g ≡ value a n → (j : ℕ) × (g ≡ value a j) × (n ≡ k + j)
  unfolding after
  after_value k (value b j) h = let e : b ≡ a = cc in (j, ap (λ (x : A). value x j) e, cc)
  after_value k (fault p) h = absurd (value_fault (sym h))

  pub exactly_value : (k : ℕ) (g : Read A) → exactly k g ≡ value a n → (g ≡ value a n) × (n ≡ k)
  unfolding exactly
  exactly_value k (value b i) h =
      let (x, e) = held (eqb i k) _ _ h in
      let z : i ≡ n = cc in
      (e, sym z ∙ eqb-true i k x)
  exactly_value k (fault p) h = absurd (value_fault (sym h))

continue_value : {A B : Type 0} (f : B → Parser A) (s : List ℕ) (a : A) (n : ℕ) (g : Read B) → continue f s g ≡ value a n
    → (b : B) × (i : ℕ) × (j : ℕ) × (g ≡ value b i) × (f b (drop i s) ≡ value a j) × (n ≡ i + j)
unfolding continue
continue_value f s a n (value b i) h = let (j, e, q) = after_value a n i (f b (drop i s)) h in (b, i, j, refl, e, q)
continue_value f s a n (fault p) h = absurd (value_fault (sym h))

-- the bytes and the fields of a part
module _ (k : ℕ) (b u s : List ℕ) (e : b ++ u ≡ s) (l : length b ≡ k) where
  front : take k s ≡ b
  front = rw (← e) (take_at b u k l)

  back : drop k s ≡ u
  back = rw (← e) (drop_at b u k l)

  pub long : length s ≡ k + length u
  long = omega (arith, ap length e, length-append b u)

-- WHAT IS READ STANDS

further : {A : Type 0} (F : Format A) (a : A) (s t : List ℕ) (i j n : ℕ) → n ≡ i + j → Stands F a t (drop j (drop i s)) → Stands F a t (drop n s)
further F a s t i j n e h = subst (λ (x : List ℕ). Stands F a t x) (drop-drop j i s ∙ ap (λ (x : ℕ). drop x s) (sym e)) h

pub read_stands : {A : Type 0} (F : Format A) (s : List ℕ) (a : A) (n : ℕ) → read F s ≡ value a n → (n ≤ length s) × Stands F a s (drop n s)
unfolding read Stands
read_stands (done b) s a n h = let z : 0 ≡ n = cc in (omega arith, (cc, rw (← z)))
read_stands (field k rule next) s a n h =
    let (o, g) = held a n (leb k (length s) && rule (length s - k) (take k s)) _ 0 h in
    let (j, q, e) = after_value a n k (read (next (take k s)) (drop k s)) g in
    let (i, w) = read_stands (next (take k s)) (drop k s) a j q in
    let p = (and-eq-true_iff _ _).0 o in
    let l = leb-true k (length s) p.0 in (
      omega (arith, length-drop k s),
      (take k s, drop k s, take-append-drop k s, length-take-le k s l, rw length-drop p.1, further (next (take k s)) a s (drop k s) k j n e w),
    )
read_stands (part m F next) s a n h =
    let (b, i, j, q, r, e) = continue_value (λ b. read (next b)) s a n (exactly m (read F (take m s))) h in
    let (q', z) = exactly_value b i m (read F (take m s)) q in
    let (l, w) = read_stands F (take m s) b i q' in
    let (l₂, w₂) = read_stands (next b) (drop i s) a j r in
    let t : length (take m s) ≡ m = omega (arith, length-take m s) in
    let d : drop i (take m s) ≡ [] = rw (z ∙ sym t) (drop-length (take m s)) in
    let w₃ = further (next b) a s (drop i s) i j n e w₂ in (
      omega (arith, length-drop i s, length-take m s),
      (b, take m s, drop m s, take-append-drop m s, t, subst (Stands F b (take m s)) d w, subst (λ (x : ℕ). Stands (next b) a (drop x s) (drop n s)) z w₃),
    )
read_stands (bytes_left next) s a n h = read_stands (next (length s)) s a n h

-- what follows a field, and a part, that stands
module _ {A : Type 0} (s u : List ℕ) where
  pub field_reads : (k : ℕ) (rule : ℕ → List ℕ → Bool) (next : List ℕ → Format A) (b : List ℕ) → b ++ u ≡ s → length b ≡ k → rule (length u) b ≡ true
      → read (field k rule next) s ≡ after k (read (next b) u)
  unfolding read
  field_reads k rule next b e l o =
      let i : length s - k ≡ length u = omega (arith, long k b u s e l) in
      rw (le-leb k (length s) (omega (arith, long k b u s e l)), i, front k b u s e l, o, back k b u s e l)

  pub part_reads : {B : Type 0} (n : ℕ) (F : Format B) (next : B → Format A) (b : B) (w : List ℕ) → w ++ u ≡ s → length w ≡ n → read F w ≡ value b n
      → read (part n F next) s ≡ after n (read (next b) u)
  unfolding read continue exactly
  part_reads n F next b w e l r = rw (front n w u s e l, r, eq-eqb n n refl, back n w u s e l)

pub stands_read : {A : Type 0} (F : Format A) (s : List ℕ) (a : A) (t : List ℕ) → Stands F a s t
    → (n : ℕ) × (read F s ≡ value a n) × (drop n s ≡ t) × (n + length t ≡ length s)
unfolding read Stands after
stands_read {A = A} (done b) s a t (e, q) = (0, ap (λ (x : A). value x 0) e, q, omega (arith, ap length q))
stands_read (field k rule next) s a t (b, u, e, l, o, h) =
    let (j, r, d, z) = stands_read (next b) u a t h in (
      k + j,
      field_reads s u k rule next b e l o ∙ ap (after k) r,
      sym (drop-drop j k s) ∙ ap (drop j) (back k b u s e l) ∙ d,
      omega (arith, long k b u s e l),
    )
stands_read (part m F next) s a t (b, w, u, e, l, h, g) =
    let (i, r, d, z) = stands_read F w b [] h in
    let (j, r₂, d₂, z₂) = stands_read (next b) u a t g in
    let q : i ≡ m = omega arith in (
      m + j,
      part_reads s u m F next b w e l (r ∙ ap (value b) q) ∙ ap (after m) r₂,
      sym (drop-drop j m s) ∙ ap (drop j) (back m w u s e l) ∙ d₂,
      omega (arith, long m w u s e l),
    )
stands_read (bytes_left next) s a t h = stands_read (next (length s)) s a t h

-- ONE AFTER THE OTHER

pub after_zero : {A : Type 0} (g : Read A) → after 0 g ≡ g
unfolding after
after_zero (value a n) = ap (value a) (omega arith)
after_zero (fault p) = ap fault (omega arith)

pub after_after : {A : Type 0} (m n : ℕ) (g : Read A) → after m (after n g) ≡ after (m + n) g
unfolding after
after_after m n (value a k) = ap (value a) (omega arith)
after_after m n (fault p) = ap fault (omega arith)

module _ {A B : Type 0} (f : A → Parser B) (s : List ℕ) where
  after_continue : (k : ℕ) (g : Read A) → after k (continue f (drop k s) g) ≡ continue f s (after k g)
  unfolding continue after
  after_continue k (value a n) = rw drop-drop (after_after k n (f a (drop (k + n) s)))
  after_continue k (fault p) = refl

  test_continue : (x : Bool) (k : ℕ) (g : Read A) (h : Read B) → h ≡ continue f (drop k s) g → cond x (after k h) (fault 0) ≡ continue f s (cond x (after k g) (fault 0))
  unfolding continue
  test_continue true k g h e = ap (after k) e ∙ after_continue k g
  test_continue false k g h e = refl

  continue_continue : {C : Type 0} (next : C → Parser A) (then : C → Parser B) (g : Read C) → ((c : C) (t : List ℕ) → then c t ≡ continue f t (next c t))
      → continue then s g ≡ continue f s (continue next s g)
  unfolding continue
  continue_continue next then (value c n) e = ap (after n) (e c (drop n s)) ∙ after_continue n (next c (drop n s))
  continue_continue next then (fault p) e = refl

-- a value and then others
abbrev pub row : {A : Type 0} → Format A → Format (List A) → Format (List A)
row m others = m >>= λ a. others >>= λ l. done (a ∷ l)

module _ {A B : Type 0} (f : A → Format B) where
  pub read_then : (m : Format A) (s : List ℕ) → read (m >>= f) s ≡ continue (λ a. read (f a)) s (read m s)
  unfolding read ◌>>=◌ continue
  read_then (done a) s = sym (after_zero (read (f a) s))
  read_then (field k rule next) s =
      test_continue (λ a. read (f a)) s (leb k (length s) && rule (length s - k) (take k s)) k (read (next (take k s)) (drop k s)) _ (read_then (next (take k s)) (drop k s))
  read_then (part n F next) s =
      continue_continue (λ a. read (f a)) s (λ b. read (next b)) (λ b. read (next b >>= f)) (exactly n (read F (take n s))) (λ b t. read_then (next b) t)
  read_then (bytes_left next) s = read_then (next (length s)) s

  pub then_stands : (m : Format A) (a : A) (b : B) (s u t : List ℕ) → Stands m a s u → Stands (f a) b u t → Stands (m >>= f) b s t
  unfolding Stands ◌>>=◌
  then_stands (done c) a b s u t (e, q) h = rw (e, q) h
  then_stands (field k rule next) a b s u t (x, y, e, l, o, g) h = (x, y, e, l, o, then_stands (next x) a b y u t g h)
  then_stands (part n F next) a b s u t (x, w, y, e, l, i, g) h = (x, w, y, e, l, i, then_stands (next x) a b y u t g h)
  then_stands (bytes_left next) a b s u t g h = then_stands (next (length s)) a b s u t g h

  pub stands_then : (m : Format A) (b : B) (s t : List ℕ) → Stands (m >>= f) b s t → (a : A) × (u : List ℕ) × Stands m a s u × Stands (f a) b u t
  unfolding Stands ◌>>=◌
  stands_then (done c) b s t h = (c, s, (refl, refl), h)
  stands_then (field k rule next) b s t (x, y, e, l, o, h) = let (a, u, g, i) = stands_then (next x) b y t h in (a, u, (x, y, e, l, o, g), i)
  stands_then (part n F next) b s t (x, w, y, e, l, j, h) = let (a, u, g, i) = stands_then (next x) b y t h in (a, u, (x, w, y, e, l, j, g), i)
  stands_then (bytes_left next) b s t h = stands_then (next (length s)) b s t h
