-- A fault that is read is the first, for any format: `first_fault`, and for a whole file `fault_exactly`. It is within the string, and no string has two.
use Prim.Native.Nat.{ℕ, ◌+◌, ◌-◌, ◌≤◌}
use native.Mathlib.Omega.{arith}
use mathlib.Core.Path.{◌≡◌, refl, ap, sym, ◌∙◌, subst}
use mathlib.Core.Logic.{◌↔◌, ◌⊎◌, inl, inr, ⊎_elim}
use mathlib.Core.Bool.{Bool, true, false, cond, ◌&&◌, and-eq-true_iff}
use mathlib.Core.List.{List, [], ◌++◌}
use lib.ListN.{length, take, drop, length-drop, length-take, take-append-drop}
use lib.Seq.{length-take-le, drop-length}
use lib.Dec.{leb, eqb}
use borrow.Author.Tests.{leb-true}
use Rattle.policy_grammar.specs.Format.{Format, done, field, part, bytes_left}
use Rattle.policy_grammar.specs.Parser.{Read, value, fault, Parser, after, continue, exactly, read}
use Rattle.policy_grammar.specs.Layout.{whole}
use Rattle.policy_grammar.specs.Decode.{reading}
use Rattle.policy_grammar.specs.Fault.{Stands, Reaches, FirstFault, FaultExactly, OnePlace}
use Rattle.policy_grammar.proofs.Formats.{value_fault, exactly_value, long, read_stands, stands_read, field_reads, part_reads}

-- how far is read
abbrev pub reach : {A : Type 0} → Read A → ℕ
reach (value a n) = n
reach (fault p) = p

reach_after : {A : Type 0} (n : ℕ) (g : Read A) → reach (after n g) ≡ n + reach g
unfolding after
reach_after n (value a k) = refl
reach_after n (fault p) = refl

pub reach_exactly : {A : Type 0} (n : ℕ) (g : Read A) → reach (exactly n g) ≡ reach g
unfolding exactly
reach_exactly n (fault p) = refl
reach_exactly n (value a k) = go (eqb k n)
  where
    go : (x : Bool) → reach (cond x (value a k) (fault k)) ≡ k
    go true = refl
    go false = refl

reach_continue : {A B : Type 0} (f : A → Parser B) (s : List ℕ) (g : Read A) → reach g ≤ reach (continue f s g)
unfolding continue
reach_continue f s (value a n) = omega (arith, reach_after n (f a (drop n s)))
reach_continue f s (fault p) = omega arith

-- nothing past the string is read
pub within : {A : Type 0} (F : Format A) (s : List ℕ) → reach (read F s) ≤ length s
unfolding read continue
within (done a) s = omega arith
within {A = A} (field k rule next) s = go (leb k (length s) && rule (length s - k) (take k s)) refl (within (next (take k s)) (drop k s))
  where
    go : (x : Bool) → (leb k (length s) && rule (length s - k) (take k s)) ≡ x → reach (read (next (take k s)) (drop k s)) ≤ length (drop k s)
        → reach {A = A} (cond x (after k (read (next (take k s)) (drop k s))) (fault 0)) ≤ length s
    go true e h = omega (arith, leb-true k (length s) ((and-eq-true_iff _ _).0 e).0, reach_after k (read (next (take k s)) (drop k s)), length-drop k s)
    go false e h = omega arith
within {A = A} (part {B = B} n F next) s =
    go (exactly n (read F (take n s))) (reach_exactly n (read F (take n s))) (within F (take n s)) (λ b k. within (next b) (drop k s))
  where
    go : (g : Read B) → reach g ≡ reach (read F (take n s)) → reach (read F (take n s)) ≤ length (take n s)
        → ((b : B) (k : ℕ) → reach (read (next b) (drop k s)) ≤ length (drop k s)) → reach (continue (λ b. read (next b)) s g) ≤ length s
    go (value b k) e l h = omega (arith, length-take n s, reach_after k (read (next b) (drop k s)), h b k, length-drop k s)
    go (fault p) e l h = omega (arith, length-take n s)
within (bytes_left next) s = within (next (length s)) s

module _ {A : Type 0} (s u : List ℕ) (q r : ℕ) where
  field_further : (k : ℕ) (rule : ℕ → List ℕ → Bool) (next : List ℕ → Format A) (b : List ℕ) → b ++ u ≡ s → length b ≡ k → rule (length u) b ≡ true
      → r ≤ reach (read (next b) u) → q ≡ k + r → q ≤ reach (read (field k rule next) s)
  field_further k rule next b e l o h d = rw (field_reads s u k rule next b e l o) (omega (arith, reach_after k (read (next b) u)))

  part_further : {B : Type 0} (n : ℕ) (F : Format B) (next : B → Format A) (b : B) (w : List ℕ) → w ++ u ≡ s → length w ≡ n → Stands F b w []
      → r ≤ reach (read (next b) u) → q ≡ n + r → q ≤ reach (read (part n F next) s)
  part_further n F next b w e l g h d =
      let (i, x, y, z) = stands_read F w b [] g in
      let m : i ≡ n = omega arith in
      rw (part_reads s u n F next b w e l (x ∙ ap (value b) m)) (omega (arith, reach_after n (read (next b) u)))

furthest : {A : Type 0} (F : Format A) (s : List ℕ) (q : ℕ) → Reaches F s q → q ≤ reach (read F s)
unfolding Reaches read
furthest (done b) s q h = omega (arith, h)
furthest (field k rule next) s q h =
    ⊎_elim (λ z. omega arith) (λ (b, u, r, e, l, o, w, d). field_further s u q r k rule next b e l o (furthest (next b) u r w) d) h
furthest (part n F next) s q h =
    ⊎_elim
    (λ w. omega (arith, furthest F (take n s) q w, reach_exactly n (read F (take n s)), reach_continue (λ b. read (next b)) s (exactly n (read F (take n s)))))
    (λ (b, w, u, r, e, l, g, h, d). part_further s u q r n F next b w e l g (furthest (next b) u r h) d) h
furthest (bytes_left next) s q h = furthest (next (length s)) s q h

-- where all the fields stand, they do up to their end
stands_reach : {A : Type 0} (F : Format A) (s : List ℕ) (a : A) (t : List ℕ) (p : ℕ) → Stands F a s t → p + length t ≡ length s → Reaches F s p
unfolding Stands Reaches
stands_reach (done b) s a t p (e, q) l = omega (arith, ap length q)
stands_reach (field k rule next) s a t p (b, u, e, l, o, h) z =
    let w = (stands_read (next b) u a t h).3 in
    inr (b, u, p - k, e, l, o, stands_reach (next b) u a t (p - k) h (omega (arith, w, long k b u s e l)), omega (arith, w, long k b u s e l))
stands_reach (part n F next) s a t p (b, x, u, e, l, h, g) z =
    let w = (stands_read (next b) u a t g).3 in
    inr (b, x, u, p - n, e, l, h, stands_reach (next b) u a t (p - n) g (omega (arith, w, long n x u s e l)), omega (arith, w, long n x u s e l))
stands_reach (bytes_left next) s a t p h z = stands_reach (next (length s)) s a t p h z

-- the fields before a fault stand
after_fault : {A : Type 0} (k p : ℕ) (g : Read A) → after k g ≡ fault p → (j : ℕ) × (g ≡ fault j) × (p ≡ k + j)
unfolding after
after_fault k p (value a j) h = absurd (value_fault h)
after_fault k p (fault j) h = (j, refl, cc)

field_stops : (x : Bool) {A : Type 0} (g : Read A) (p : ℕ) → cond x g (fault 0) ≡ fault p → (p ≡ 0) ⊎ ((x ≡ true) × (g ≡ fault p))
field_stops true g p h = inr (refl, h)
field_stops false g p h = let z : 0 ≡ p = cc in inl (sym z)

exactly_stops : {A : Type 0} (n p : ℕ) (g : Read A) → exactly n g ≡ fault p → (g ≡ fault p) ⊎ ((a : A) × (g ≡ value a p))
unfolding exactly
exactly_stops n p (fault q) h = inl h
exactly_stops {A = A} n p (value a k) h = go (eqb k n) h
  where
    go : (x : Bool) → cond x (value a k) (fault k) ≡ fault p → (value a k ≡ fault p) ⊎ ((b : A) × (value a k ≡ value b p))
    go true e = inl e
    go false e = let z : k ≡ p = cc in inr (a, ap (value a) z)

continue_stops : {A B : Type 0} (f : B → Parser A) (s : List ℕ) (p : ℕ) (g : Read B) → continue f s g ≡ fault p
    → (g ≡ fault p) ⊎ ((b : B) × (i : ℕ) × (j : ℕ) × (g ≡ value b i) × (f b (drop i s) ≡ fault j) × (p ≡ i + j))
unfolding continue
continue_stops f s p (fault q) h = let z : q ≡ p = cc in inl (ap fault z)
continue_stops f s p (value b i) h = let (j, e, q) = after_fault i p (f b (drop i s)) h in inr (b, i, j, refl, e, q)

reached : {A : Type 0} (F : Format A) (s : List ℕ) (p : ℕ) → read F s ≡ fault p → Reaches F s p
unfolding read Reaches
reached (done b) s p h = absurd (value_fault h)
reached (field k rule next) s p h =
    ⊎_elim inl
    (λ (o, g).
    let (j, e, q) = after_fault k p (read (next (take k s)) (drop k s)) g in
    let w = (and-eq-true_iff _ _).0 o in
    inr (take k s, drop k s, j, take-append-drop k s, length-take-le k s (leb-true k (length s) w.0), rw length-drop w.1, reached (next (take k s)) (drop k s) j e, q))
    (field_stops (leb k (length s) && rule (length s - k) (take k s)) _ p h)
reached (part n F next) s p h =
    ⊎_elim
    (λ e. inl (⊎_elim (λ w. reached F (take n s) p w)
    (λ (b, w). (let (l, st) = read_stands F (take n s) b p w in stands_reach F (take n s) b (drop p (take n s)) p st (omega (arith, length-drop p (take n s)))))
    (exactly_stops n p (read F (take n s)) e)))
    (λ (b, i, j, e, g, q).
    let (w, z) = exactly_value b i n (read F (take n s)) e in
    let (l, st) = read_stands F (take n s) b i w in
    let t : length (take n s) ≡ n = omega (arith, length-take n s) in
    let d : drop i (take n s) ≡ [] = rw (z ∙ sym t) (drop-length (take n s)) in
    inr (b, take n s, drop n s, j, take-append-drop n s, t, subst (Stands F b (take n s)) d st, reached (next b) (drop n s) j (subst (λ (x : ℕ). read (next b) (drop x s) ≡ fault j) z g), q ∙ ap (λ (x : ℕ). x + j) z))
    (continue_stops (λ b. read (next b)) s p (exactly n (read F (take n s))) h)
reached (bytes_left next) s p h = reached (next (length s)) s p h

pub first_fault : {A : Type 0} (F : Format A) (s : List ℕ) (p : ℕ) → (read F s ≡ fault p) ↔ FirstFault F s p
first_fault {A = A} F s p = (
  λ e.
      record {
        refused = λ a t h. value_fault (sym (stands_read F s a t h).1 ∙ e);
        reached = reached F s p e;
        furthest = λ q h. (let l = furthest F s q h in rw e at l);
      },
  λ h. go (read F s) refl h,
)
  where
    go : (g : Read A) → read F s ≡ g → FirstFault F s p → read F s ≡ fault p
    go (value a n) e h = absurd (h.refused a (drop n s) (read_stands F s a n e).1)
    go (fault q) e h =
        let l : p ≤ q = rw e at (furthest F s p h.reached) in
        let z : q ≡ p = omega (arith, h.furthest q (reached F s q e)) in
        e ∙ ap fault z

pub one_place : OnePlace
one_place s p q f g = omega (arith, f.furthest q g.reached, g.furthest p f.reached)

pub fault_exactly : FaultExactly
unfolding reading
fault_exactly s p = first_fault (whole (length s)) s p
