-- The message schedule in sixteen words: every round adds the word of its own number.
use Rattle.std.proofs.Common.{◌≡◌, ℕ, zero, suc, ◌+◌, ◌-◌, ◌*◌, ◌/◌, ◌%◌, ◌<◌, ◌≤◌, Bool, true, false, ltb, List, [], ◌∷◌, ◌++◌, length, take, drop, set, sym, refl, ap, ◌∙◌, subst, ap₂, add-zero, add-suc, arith, length-append, length-set, get_or-drop, get_or-set_other, get_or-take, get_or-set_same, ltb-false, ltb-true}
use lib.ListN.{get_or-append}
use lib.Seq.{get_or-append_seam}
use Rattle.sha256_block.specs.declared.block.Working.{Working}
use Rattle.sha256_block.specs.Words.{◌⊞◌, σ₀, σ₁}
use Rattle.sha256_block.specs.Constants.{K}
use Rattle.sha256_block.specs.Block.{◌!◌, words_of, next, schedule, variables, round_of, rounds, sum_of, compress_of}
use Rattle.sha256_block.specs.Schedule.{W, following, held, rounds_held, compress_held, OwnWords, EveryRoundAddsItsOwn, Before, GroupHoldsItsOwn}
use Rattle.sha256_block.proofs.BlockWords.{length_words}

-- ---- the schedule
length_schedule : (n : ℕ) (m : List ℕ) → length (schedule n m) ≡ n + length m
unfolding schedule
length_schedule zero m = omega arith
length_schedule (suc n) m = length-append (schedule n m) (next (schedule n m) ∷ []) ∙ omega (arith, length_schedule n m)

-- words stay as more of them are worked out
kept : (n p : ℕ) (m : List ℕ) (i : ℕ) → i < n + length m → schedule (n + p) m ! i ≡ schedule n m ! i
unfolding schedule
kept n zero m i h = ap (λ (j : ℕ). schedule j m ! i) (add-zero n)
kept n (suc p) m i h =
    ap (λ (j : ℕ). schedule j m ! i) (add-suc n p)
    ∙ get_or-append (schedule (n + p) m) (next (schedule (n + p) m) ∷ []) 0 i (omega (arith, length_schedule (n + p) m))
    ∙ kept n p m i h

-- the word that four words make
four : {a b c d a' b' c' d' : ℕ} → a ≡ a' → b ≡ b' → c ≡ c' → d ≡ d' → σ₁ a ⊞ b ⊞ σ₀ c ⊞ d ≡ σ₁ a' ⊞ b' ⊞ σ₀ c' ⊞ d'
four ea eb ec ed = ap₂ (λ (x y : ℕ). x ⊞ y) (ap₂ (λ (x y : ℕ). x ⊞ y) (ap₂ (λ (x y : ℕ). σ₁ x ⊞ y) ea eb) (ap σ₀ ec)) ed

module _ (m : List ℕ) (l : length m ≡ 16) where
  short : (n i : ℕ) → n ≤ 48 → i < n + 16 → W m i ≡ schedule n m ! i
  short n i h lt =
      let e : n + (48 - n) ≡ 48 = omega arith in
      ap (λ (j : ℕ). schedule j m ! i) (sym e) ∙ kept n (48 - n) m i (omega arith)

  first_words : (t : ℕ) → t < 16 → W m t ≡ m ! t
  unfolding schedule
  first_words t lt = short 0 t (omega arith) (omega arith)

  later_words : (t : ℕ) → 16 ≤ t → t < 64 → W m t ≡ σ₁ (W m (t - 2)) ⊞ W m (t - 7) ⊞ σ₀ (W m (t - 15)) ⊞ W m (t - 16)
  unfolding schedule next
  later_words t ge lt =
      let w = schedule (t - 16) m in
      let long : length w ≡ t = omega (arith, length_schedule (t - 16) m) in
      let at : (j : ℕ) → 0 < j → j ≤ 16 → w ! (length w - j) ≡ W m (t - j) =
      λ j p q. ap (λ (i : ℕ). w ! (i - j)) long ∙ sym (short (t - 16) (t - j) (omega arith) (omega arith)) in
      short (suc (t - 16)) t (omega arith) (omega arith)
      ∙ ap (λ (i : ℕ). (w ++ next w ∷ []) ! i) (sym long)
      ∙ get_or-append_seam w (next w) [] 0
      ∙ four (at 2 (omega arith) (omega arith)) (at 7 (omega arith) (omega arith)) (at 15 (omega arith) (omega arith)) (at 16 (omega arith) (omega arith))

  -- ---- sixteen words of it
  length_held : (t : ℕ) → length (held t m) ≡ 16
  unfolding held
  length_held zero = l
  length_held (suc t) = length-set (held t m) (t % 16) _ ∙ length_held t

  -- the word of round i is held at its place before round t
  abbrev At : ℕ → ℕ → Type 0
  At t i = held t m ! (i % 16) ≡ W m i

  -- round t leaves the words of the next fifteen rounds where they are
  others_stay : (t i : ℕ) → t < i → i < t + 16 → At t i → At (suc t) i
  unfolding held
  others_stay t i p q e =
      get_or-set_other (held t m) (t % 16) (i % 16) _ 0 (λ same. absurd (omega arith)) ∙ e

  -- and puts the word of round t + 16 in the place of its own
  next_comes : (t : ℕ) → t + 16 < 64 → ((i : ℕ) → t ≤ i → i < t + 16 → At t i) → At (suc t) (t + 16)
  unfolding held
  next_comes t h all =
      let p : (t + 16) % 16 ≡ t % 16 = omega arith in
      let at : (j k : ℕ) → t + 16 - k ≡ j → 0 < k → k ≤ 16 → held t m ! (j % 16) ≡ W m (t + 16 - k) =
      λ j k e lt le. all j (omega arith) (omega arith) ∙ ap (W m) (sym e) in
      ap (λ (i : ℕ). held (suc t) m ! i) p
      ∙ get_or-set_same (held t m) (t % 16) _ 0 (omega (arith, length_held t))
      ∙ four (at (t + 14) 2 (omega arith) (omega arith) (omega arith)) (at (t + 9) 7 (omega arith) (omega arith) (omega arith))
      (at (t + 1) 15 (omega arith) (omega arith) (omega arith)) (at t 16 (omega arith) (omega arith) (omega arith))
      ∙ sym (later_words (t + 16) (omega arith) h)

  at_place : (t i : ℕ) → t ≤ i → i < t + 16 → i < 64 → At t i
  unfolding held
  at_place zero i p q h = ap (λ (j : ℕ). m ! j) (omega arith) ∙ sym (first_words i (omega arith))
  at_place (suc t) i p q h = by (ltb i (t + 16)) refl (at_place t)
    where
      by : (b : Bool) → ltb i (t + 16) ≡ b → ((k : ℕ) → t ≤ k → k < t + 16 → k < 64 → At t k) → At (suc t) i
      by true e all =
          let lt : i < t + 16 = ltb-true i (t + 16) e in
          others_stay t i (omega arith) lt (all i (omega arith) lt h)
      by false e all =
          let last : t + 16 ≡ i = omega (arith, ltb-false i (t + 16) e) in
          subst (At (suc t)) last (next_comes t (omega arith) (λ k ge lt. all k ge lt (omega arith)))

  own_words : OwnWords m
  own_words =
      record {
        first = first_words;
        later = later_words;
        holds = λ t j p h. at_place t (t + j) (omega arith) (omega arith) h;
        adds = λ t h. at_place (t / 16 * 16) t (omega arith) (omega arith) h;
      }

pub every_round_adds_its_own : EveryRoundAddsItsOwn
every_round_adds_its_own block = own_words (words_of 16 block) (length_words 16 block)

-- ---- the places of sixteen words
pub none : (m : List ℕ) → held 0 m ≡ m
unfolding held
none m = refl

-- one word more in the place of one that is used up
pub renew : (t : ℕ) (m : List ℕ) {w : List ℕ} {x : ℕ} → held t m ≡ w → x ≡ following t w → held (suc t) m ≡ set w (t % 16) x
unfolding held
renew t m {w} {x} e h = ap (λ (v : List ℕ). set v (t % 16) (following t v)) e ∙ ap (set w (t % 16)) (sym h)

-- after whole groups of rounds the places begin anew
held_add : (t n : ℕ) (m : List ℕ) → t % 16 ≡ 0 → held n (held t m) ≡ held (t + n) m
unfolding held
held_add t zero m e = ap (λ (j : ℕ). held j m) (sym (add-zero t))
held_add t (suc n) m e =
    let w = held n (held t m) in
    let p : (t + n) % 16 ≡ n % 16 = omega arith in
    let at : (j : ℕ) → w ! ((t + n + j) % 16) ≡ w ! ((n + j) % 16) = λ j. ap (λ (i : ℕ). w ! i) (omega arith) in
    renew n (held t m) refl (four (at 14) (at 9) (at 1) (ap (λ (i : ℕ). w ! i) p))
    ∙ ap (λ (i : ℕ). set w i (following (t + n) w)) (sym p)
    ∙ sym (renew (t + n) m (sym (held_add t n m e)) refl)
    ∙ ap (λ (j : ℕ). held j m) (sym (add-suc t n))

-- ---- the rounds
-- with sixteen words the rounds are those of FIPS 180-4
module _ (m : List ℕ) (l : length m ≡ 16) where
  same_rounds : (n : ℕ) (s : Working) → n ≤ 64 → rounds_held n s m ≡ rounds n s K (schedule 48 m)
  unfolding rounds rounds_held
  same_rounds zero s h = refl
  same_rounds (suc n) s h =
      ap₂ (λ (x : Working) (w : ℕ). round_of x (K ! n) w) (same_rounds n s (omega arith)) ((own_words m l).adds n (omega arith))

  -- n of the sixteen rounds from t on, each with the word of its number
  group : (t n : ℕ) (s : Working) (w : List ℕ) → t ≤ 48 → n ≤ 16 → ((j : ℕ) → j < 16 → w ! j ≡ W m (t + j))
      → rounds n (rounds_held t s m) (take 16 (drop t K)) w ≡ rounds_held (t + n) s m
  unfolding rounds rounds_held
  group t zero s w h le own = ap (λ (j : ℕ). rounds_held j s m) (sym (add-zero t))
  group t (suc n) s w h le own =
      let k : take 16 (drop t K) ! n ≡ K ! (t + n) = get_or-take 16 (drop t K) n 0 le ∙ get_or-drop t K n 0 in
      ap₂ (λ (x : Working) (y : ℕ). round_of x y (w ! n)) (group t n s w h (omega arith) own) k
      ∙ ap (round_of (rounds_held (t + n) s m) (K ! (t + n))) (own n le ∙ sym ((own_words m l).adds (t + n) (omega arith)))
      ∙ ap (λ (j : ℕ). rounds_held j s m) (sym (add-suc t n))

pub compress_held_lem : (h block : List ℕ) → compress_held h block ≡ compress_of h block
unfolding compress_held compress_of
compress_held_lem h block =
    ap (λ (x : Working). sum_of x h) (same_rounds (words_of 16 block) (length_words 16 block) 64 (variables h) (omega arith))

-- ---- the groups of rounds
pub none_before : (s x : Working) (m w : List ℕ) → x ≡ s → w ≡ m → Before 0 s m x w
unfolding held rounds_held
none_before s x m w p q = record { working = p; words = λ le. q }

-- the words in w are those of the group's rounds
its_own : (t : ℕ) (s : Working) (m : List ℕ) (x : Working) (w : List ℕ) → length m ≡ 16 → t % 16 ≡ 0 → t ≤ 48 → Before t s m x w
    → (j : ℕ) → j < 16 → w ! j ≡ W m (t + j)
its_own t s m x w l d h b j lt =
    let p : j ≡ (t + j) % 16 = omega arith in
    ap (λ (v : List ℕ). v ! j) (b.words h) ∙ ap (λ (i : ℕ). held t m ! i) p ∙ (own_words m l).holds t j lt (omega arith)

pub group_holds_its_own : GroupHoldsItsOwn
group_holds_its_own t s block x w = its_own t s (words_of 16 block) x w (length_words 16 block)

pub sixteen_more : (t : ℕ) (s : Working) (m : List ℕ) (x x' : Working) (w w' k : List ℕ) → length m ≡ 16 → t % 16 ≡ 0 → t < 64 → Before t s m x w
    → x' ≡ rounds 16 x k w → k ≡ take 16 (drop t K) → (t < 48 → w' ≡ held 16 w)
    → Before (t + 16) s m x' w'
sixteen_more t s m x x' w w' k l d h b ex ek ew =
    let le : t ≤ 48 = omega arith in
    record {
      working = ex ∙ rw (b.working, ek) (group m l t 16 s w le (omega arith) (its_own t s m x w l d le b));
      words = λ more. ew (omega arith) ∙ ap (held 16) (b.words le) ∙ held_add t 16 m d;
    }
