-- A walk through so many parts, one behind the other. What is left to walk gives what the whole gives: where the walk ends, and the buffer.
use Prim.Native.Nat.{ℕ, suc, ◌+◌, ◌-◌, ◌^◌, ◌≤◌, ◌<◌}
use native.Mathlib.Omega.{arith}
use mathlib.Core.Path.{◌≡◌, refl, ap, sym, subst, ◌∙◌}
use mathlib.Core.List.{List, ◌∷◌, ◌++◌, flat_map}
use mathlib.Core.Option.{Option, some, none, map}
use lib.ListN.{length, drop, length-append, length-drop}
use lib.Seq.{drop-drop}
use borrow.Author.Tests.{lt-ltb, le-ltb}
use Rattle.field.specs.Number.{Bytes}
use Rattle.field.proofs.Laws.{bytes_drop}
use Rattle.policy_writer.specs.declared.Cursor.{Cursor}
use Rattle.policy_writer.specs.Types.{Next}
use Rattle.std.specs.Prelude.{Some, None}
use Rattle.policy_writer.specs.Decode.{Part, row, times}
use Rattle.policy_writer.specs.Inner.{put, part_at, behind, next_of, up_to, put_of, Put}
use Rattle.policy_writer.proofs.Buffer.{put_behind}

-- the numbers and the bodies of a part stand at the front, and what is behind them is left
pub record Front (P : Part) (ns bs : List ℕ) (a : P.Value) : Type 0 where
  pub numbers : P.numbers a ++ drop (length (P.numbers a)) ns ≡ ns
  pub bodies : P.bodies a ++ drop (length (P.bodies a)) bs ≡ bs

-- what is found at the front stands there
abbrev pub Sound : Part → Type 0
Sound P = (ns bs : List ℕ) (a : P.Value) → Bytes bs → P.front ns bs ≡ some a → Front P ns bs a

module _ (P : Part) (ns bs : List ℕ) (c : Cursor) where
  -- what goes on found a part
  pub found : (r : Next) (d : Cursor) → r ≡ next_of P c (part_at P ns bs c) → r ≡ Some d → (a : P.Value) × (part_at P ns bs c ≡ some a) × (behind P c a ≡ d)
  found r d e q = go (part_at P ns bs c) refl (sym e ∙ q)
    where
      go : (o : Option P.Value) → part_at P ns bs c ≡ o → next_of P c o ≡ Some d → (a : P.Value) × (part_at P ns bs c ≡ some a) × (behind P c a ≡ d)
      go none i h = let z : ◌≡◌ {A = ℕ} 0 1 = cc in absurd (omega arith)
      go (some a) i h = (a, i, cc)

  pub found_not : (r : Next) → r ≡ next_of P c (part_at P ns bs c) → r ≡ None → part_at P ns bs c ≡ none
  found_not r e q = go (part_at P ns bs c) (sym e ∙ q)
    where
      go : (o : Option P.Value) → next_of P c o ≡ None → o ≡ none
      go none h = refl
      go (some a) h = let z : ◌≡◌ {A = ℕ} 0 1 = cc in absurd (omega arith)

-- the same cursor by its numbers
pub cursor : (n b z n' b' z' : ℕ) → n ≡ n' → b ≡ b' → z ≡ z' → ◌≡◌ {A = Next} (Some (record { numbers = n; bodies = b; bytes = z })) (Some (record { numbers = n'; bodies = b'; bytes = z' }))
cursor n b z n' b' z' e f g = rw (e, f, g)

module _ (P : Part) (ns bs : List ℕ) (j : ℕ) (c : Cursor) where
  -- one part is passed, and j are left
  module _ (a : P.Value) (e : part_at P ns bs c ≡ some a) where
    abbrev d : Cursor
    d = behind P c a

    rest : part_at (times (suc j) P) ns bs c ≡ map (λ l. a ∷ l) (part_at (times j P) ns bs d)
    unfolding row
    rest = rw (e, drop-drop (length (P.numbers a)) c.numbers ns, drop-drop (length (P.bodies a)) c.bodies bs)

    pub one_next : next_of (times (suc j) P) c (part_at (times (suc j) P) ns bs c) ≡ next_of (times j P) d (part_at (times j P) ns bs d)
    unfolding flat_map
    one_next = ap (next_of (times (suc j) P) c) rest ∙ go (part_at (times j P) ns bs d)
      where
        go : (o : Option (List P.Value)) → next_of (times (suc j) P) c (map (λ l. a ∷ l) o) ≡ next_of (times j P) d o
        go none = refl
        go (some l) =
            cursor _ _ _ _ _ _
            (omega (arith, length-append (P.numbers a) (flat_map P.numbers l)))
            (omega (arith, length-append (P.bodies a) (flat_map P.bodies l)))
            (omega (arith, length-append (P.bytes a) (flat_map P.bytes l)))

    pub one_put : (out later : List ℕ) (w : Cursor) → later ≡ put out c.bytes (P.bytes a) → next_of (times j P) d (part_at (times j P) ns bs d) ≡ Some w
        → put_of (times (suc j) P) out c (part_at (times (suc j) P) ns bs c) ≡ put_of (times j P) later d (part_at (times j P) ns bs d)
    unfolding flat_map
    one_put out later w q h = ap (put_of (times (suc j) P) out c) rest ∙ go (part_at (times j P) ns bs d) h
      where
        go : (o : Option (List P.Value)) → next_of (times j P) d o ≡ Some w → put_of (times (suc j) P) out c (map (λ l. a ∷ l) o) ≡ put_of (times j P) later d o
        go none u = let z : ◌≡◌ {A = ℕ} 0 1 = cc in absurd (omega arith)
        go (some l) u = sym (ap (λ (x : List ℕ). put x d.bytes (flat_map P.bytes l)) q ∙ put_behind out c.bytes (P.bytes a) (flat_map P.bytes l) d.bytes refl)

  -- none is found
  pub none_next : part_at P ns bs c ≡ none → next_of (times (suc j) P) c (part_at (times (suc j) P) ns bs c) ≡ None
  unfolding row
  none_next e = rw e

-- A LOOP: k of so many parts are passed, and the walk stands at c

pub record Going (P : Part) (ns bs : List ℕ) (start : Cursor) (count : ℕ) (before : List ℕ) (c : Cursor) (k : ℕ) (out : List ℕ) : Type 0 where
  pub passed : k ≤ count
  pub numbers : c.numbers ≤ length ns
  pub bodies : c.bodies ≤ length bs
  pub onward : start.bytes ≤ c.bytes
  pub same : length out ≡ length before
  pub next : next_of (times (count - k) P) c (part_at (times (count - k) P) ns bs c) ≡ next_of (times count P) start (part_at (times count P) ns bs start)
  pub put_all : (w : Cursor) → next_of (times count P) start (part_at (times count P) ns bs start) ≡ Some w
      → put_of (times (count - k) P) out c (part_at (times (count - k) P) ns bs c) ≡ put_of (times count P) before start (part_at (times count P) ns bs start)

module _ (P : Part) (ns bs : List ℕ) (start : Cursor) (count : ℕ) (before : List ℕ) where
  pub going_start : start.numbers ≤ length ns → start.bodies ≤ length bs → Going P ns bs start count before start 0 before
  going_start h l =
      let i : count - 0 ≡ count = omega arith in
      record { passed = omega arith; numbers = h; bodies = l; onward = omega arith; same = refl; next = rw i; put_all = λ w e. rw i }

  module _ (c : Cursor) (k : ℕ) (out : List ℕ) (g : Going P ns bs start count before c k out) where
    module _ (h : k < count) (r : Next) (e : r ≡ next_of P c (part_at P ns bs c)) where
      left_is : count - k ≡ suc (count - (k + 1))
      left_is = omega arith

      pub going_stop : r ≡ None → None ≡ next_of (times count P) start (part_at (times count P) ns bs start)
      going_stop q = sym (none_next P ns bs (count - (k + 1)) c (found_not P ns bs c r e q)) ∙ rw left_is at g.next

      module _ (d : Cursor) (q : r ≡ Some d) (later : List ℕ) (p : Put P ns bs c out r later) (l : length later ≡ length out) (sound : Sound P) (b : Bytes bs) where
        pub going_on : Going P ns bs start count before d (k + 1) later
        going_on =
            let (a, i, w) = found P ns bs c r d e q in
            let f = sound (drop c.numbers ns) (drop c.bodies bs) a (bytes_drop c.bodies bs b) i in
            let j : ℕ = count - (k + 1) in
            let n : next_of (times j P) (behind P c a) (part_at (times j P) ns bs (behind P c a)) ≡ next_of (times count P) start (part_at (times count P) ns bs start) =
            sym (one_next P ns bs j c a i) ∙ rw left_is at g.next in
            subst (λ (x : Cursor). Going P ns bs start count before x (k + 1) later) w
            (record {
              passed = omega arith;
              numbers = omega (arith, g.numbers, length-drop c.numbers ns, ap length f.numbers, length-append (P.numbers a) (drop (length (P.numbers a)) (drop c.numbers ns)));
              bodies = omega (arith, g.bodies, length-drop c.bodies bs, ap length f.bodies, length-append (P.bodies a) (drop (length (P.bodies a)) (drop c.bodies bs)));
              onward = omega (arith, g.onward);
              same = l ∙ g.same;
              next = n;
              put_all = λ z u. sym (one_put P ns bs j c a i out later z (p.put_there d q ∙ rw i) (n ∙ u)) ∙ rw left_is at (g.put_all z u);
            })

    module _ (h : count ≤ k) where
      none_left : count - k ≡ 0
      none_left = omega arith

      pub going_end : Some c ≡ next_of (times count P) start (part_at (times count P) ns bs start)
      unfolding row flat_map
      going_end = cursor _ _ _ _ _ _ (omega arith) (omega arith) (omega arith) ∙ rw none_left at g.next

      pub going_put : (r : Next) → r ≡ Some c → Put (times count P) ns bs start before r out
      unfolding row flat_map put
      going_put r q = record { put_there = λ d u. rw none_left at (g.put_all c (sym going_end)) }

-- parts of so many bytes at most
module _ (start : Cursor) (all : Next) where
  pub limit_stop : None ≡ all → None ≡ up_to start all
  limit_stop e = rw (← e)

  pub limit_end : (c : Cursor) → Some c ≡ all → c.bytes - start.bytes ≤ 0xFFFFFFFF → Some c ≡ up_to start all
  limit_end c e h = rw (← e, lt-ltb (c.bytes - start.bytes) (256 ^ 4) (omega arith))

-- where too many are passed, no more make it less
pub limit_over : (P : Part) (ns bs : List ℕ) (start : Cursor) (count : ℕ) (before : List ℕ) (c : Cursor) (k : ℕ) (out : List ℕ) → Going P ns bs start count before c k out
    → 0xFFFFFFFF < c.bytes - start.bytes → None ≡ up_to start (next_of (times count P) start (part_at (times count P) ns bs start))
limit_over P ns bs start count before c k out g h = go (part_at (times (count - k) P) ns bs c) ∙ ap (up_to start) g.next
  where
    go : (o : Option (List P.Value)) → None ≡ up_to start (next_of (times (count - k) P) c o)
    go none = refl
    go (some l) = rw (le-ltb (c.bytes + length (flat_map P.bytes l) - start.bytes) (256 ^ 4) (omega arith))
