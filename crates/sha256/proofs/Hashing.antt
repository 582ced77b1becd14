-- What absorbing a part does to a state, by whether the part fills its block.
use Rattle.std.proofs.Common.{◌≡◌, ℕ, suc, ◌+◌, ◌-◌, ◌*◌, ◌/◌, ◌%◌, ◌^◌, ◌<◌, ◌≤◌, List, ◌++◌, length, take, drop, sym, refl, ap, ◌∙◌, ap₂, le_of_eq, le_refl, arith, length-append, length-drop, length-take-le, take_all, take-take, drop-drop, take_at}
use Rattle.std.proofs.lemmas.Slice.{take-put_mid}
use lib.Seq.{take-append-add, drop-append-add}
use borrow.Rule.Slice.PartMut.{put_mid, same_len_mid}
use Rattle.sha256_block.specs.Block.{hash, hash_blocks}
use Rattle.sha256.specs.declared.Running.{Running}
use Rattle.sha256.specs.State.{pending, remainder, Absorbed}

-- a list keeps its length where n elements from a place on are written, if it has so many
pub kept : {n : ℕ} (a : ℕ) (xs ys : List ℕ) → a + n ≤ length xs → length ys ≡ n → length (put_mid a n xs ys) ≡ length xs
kept {n} a xs ys le e =
    same_len_mid a n xs ys (e ∙ sym (length-take-le n (drop a xs) (omega (arith, length-drop a xs))))

-- ---- a string by its first block
module _ (m : List ℕ) (le : 64 ≤ length m) where
  first_block : (h : List ℕ) → hash_blocks (hash_blocks h (take 64 m)) (drop 64 m) ≡ hash_blocks h m
  unfolding hash
  first_block h =
      let a : length (take 64 m) / 64 ≡ 1 = omega (arith, length-take-le 64 m le) in
      let q : length m / 64 ≡ suc (length (drop 64 m) / 64) = omega (arith, length-drop 64 m) in
      rw (a, q, take-take 64 64 m (le_refl 64))

  first_remainder : remainder (drop 64 m) ≡ remainder m
  first_remainder =
      let e : 64 + length (drop 64 m) / 64 * 64 ≡ length m / 64 * 64 = omega (arith, length-drop 64 m) in
      drop-drop (length (drop 64 m) / 64 * 64) 64 m ∙ ap (λ (j : ℕ). drop j m) e

-- ---- a state, and a part of its message
module _ (s : Running) (p : List ℕ) (t : ℕ) (long : length s.block ≡ 64) (et : t ≡ (s.total + length p) % 2 ^ 64) where
  front : length (pending s) ≡ s.total % 64
  front = length-take-le (s.total % 64) s.block (omega arith)

  whole : length (pending s ++ p) ≡ s.total % 64 + length p
  whole = length-append (pending s) p ∙ ap (λ (n : ℕ). n + length p) front

  -- a part that does not fill the block
  pub small : (k : ℕ) (y : List ℕ) → length p < 64 - s.total % 64 → y ≡ p
      → Absorbed s p (record { words = s.words; block = put_mid (s.total % 64) k s.block y; total = t })
  unfolding hash
  small k y lt ey =
      let q : length (pending s ++ p) / 64 ≡ 0 = omega (arith, whole) in
      let f : t % 64 ≡ s.total % 64 + length y = omega (arith, ap length ey) in
      record {
        words = rw q;
        waits =
            rw q
            (take-put_mid (s.total % 64) k s.block y (t % 64) f (omega arith)
            ∙ ap (λ (x : List ℕ). pending s ++ x) ey);
        total = et;
      }

  -- a part that fills it: the block, then the whole blocks of the part, then what is left of the part
  module _ (le : 64 - s.total % 64 ≤ length p) (y : List ℕ) (ey : y ≡ take (64 - s.total % 64) p) where
    room : ℕ
    room = 64 - s.total % 64

    filled_up : put_mid (s.total % 64) room s.block y ≡ take 64 (pending s ++ p)
    unfolding room
    filled_up =
        let b = put_mid (s.total % 64) room s.block y in
        let l : length y ≡ room = ap length ey ∙ length-take-le room p le in
        let size : length b ≡ 64 = kept (s.total % 64) s.block y (omega arith) l ∙ long in
        let f : 64 ≡ length (pending s) + room = omega (arith, front) in
        sym (take_all 64 b (le_of_eq size))
        ∙ take-put_mid (s.total % 64) room s.block y 64 (omega arith) (omega arith)
        ∙ ap (λ (x : List ℕ). pending s ++ x) ey
        ∙ sym (take-append-add (pending s) p room)
        ∙ ap (λ (n : ℕ). take n (pending s ++ p)) (sym f)

    later : drop room p ≡ drop 64 (pending s ++ p)
    unfolding room
    later =
        let f : length (pending s) + room ≡ 64 = omega (arith, front) in
        sym (drop-append-add (pending s) p room) ∙ ap (λ (i : ℕ). drop i (pending s ++ p)) f

    pub large : (first all behind left z x : List ℕ) → first ≡ hash_blocks s.words (put_mid (s.total % 64) (64 - s.total % 64) s.block y)
        → behind ≡ drop (64 - s.total % 64) p
        → all ≡ hash_blocks first behind
        → left ≡ remainder behind
        → z ≡ left
        → Absorbed s p (record { words = all; block = z ++ x; total = t })
    unfolding room
    large first all behind left z x ef ep ea el ez =
        let m = pending s ++ p in
        let full : 64 ≤ length m = omega (arith, whole) in
        let d : behind ≡ drop 64 m = ep ∙ later in
        let w : length z ≡ length behind - length behind / 64 * 64 = ap length (ez ∙ el) ∙ length-drop (length behind / 64 * 64) behind in
        let n : length behind ≡ length m - 64 = ap length d ∙ length-drop 64 m in
        let r : t % 64 ≡ length z = omega (arith, whole) in
        record {
          words = ea ∙ ap₂ hash_blocks (ef ∙ ap (hash_blocks s.words) filled_up) d ∙ first_block m full s.words;
          waits = ap (λ (k : ℕ). take k (z ++ x)) r ∙ take_at z x (length z) refl ∙ ez ∙ el ∙ ap remainder d ∙ first_remainder m full;
          total = et;
        }
