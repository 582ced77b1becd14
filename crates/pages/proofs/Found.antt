-- The entries that are present, in turn: of two stretches of numbers, of one number more, of a list; how many there are; and that none has a
-- number past its level.
use Prim.Native.Nat.{ℕ, zero, suc, ◌+◌, ◌-◌, ◌/◌, ◌≤◌, ◌<◌}
use mathlib.Core.Path.{◌≡◌, refl, sym, ◌∙◌}
use mathlib.Core.Bool.{Bool, true, false, true≢false}
use mathlib.Core.List.{List, [], ◌++◌, append-nil, append_assoc}
use native.Mathlib.Omega.{arith}
use borrow.Author.Tests.{ltb-true, ltb-false, le-ltb}
use lib.Dec.{ltb}
use lib.ListN.{length, get_or, get_or-eq_default}
use Rattle.pages.specs.declared.Kind.{Kind}
use Rattle.pages.specs.declared.Kind.TheVariants.{Pointer, Directory, Page}
use Rattle.pages.specs.Entry.{present_of}
use Rattle.pages.specs.Tables.{pointers, entries, read_of, under_of, pointer_at, directory_at, page_at, entry_at, level_size, found_one, found_from}
use Rattle.pages.specs.Meaning.{present_below}

zero_absent : present_of 0 ≡ false
unfolding present_of
zero_absent = refl

module _ (k : Kind) (f : ℕ → ℕ) where
  pub found_append : (l m n : ℕ) → found_from k f l (m + n) ≡ found_from k f l m ++ found_from k f (l + m) n
  unfolding found_from
  found_append l zero n =
      let a : 0 + n ≡ n = omega arith in
      let b : l + 0 ≡ l = omega arith in
      rw (a, b)
  found_append l (suc m) n =
      let a : suc m + n ≡ suc (m + n) = omega arith in
      let b : l + suc m ≡ suc l + m = omega arith in
      rw (a, b, found_append (suc l) m n) (sym (append_assoc (found_one k l (f l)) (found_from k f (suc l) m) (found_from k f (suc l + m) n)))

  found_single : (l : ℕ) → found_from k f l 1 ≡ found_one k l (f l)
  unfolding found_from
  found_single l = append-nil (found_one k l (f l))

  pub found_same : (g : ℕ → ℕ) (l n : ℕ) → ((i : ℕ) → l ≤ i → i < l + n → f i ≡ g i) → found_from k f l n ≡ found_from k g l n
  unfolding found_from
  found_same g l zero h = refl
  found_same g l (suc n) h =
      rw (h l (omega arith) (omega arith), found_same g (suc l) n (λ i x y. h i (omega arith) (omega arith)))

  -- one entry more
  pub found_last : (l n : ℕ) → found_from k f l (n + 1) ≡ found_from k f l n ++ found_one k (l + n) (f (l + n))
  found_last l n = found_append l n 1 ∙ rw (found_single (l + n))

  pub found_none : (l n : ℕ) → ((i : ℕ) → l ≤ i → i < l + n → present_of (f i) ≡ false) → found_from k f l n ≡ []
  unfolding found_from
  found_none l zero h = refl
  found_none l (suc n) h =
      rw (h l (omega arith) (omega arith)) (found_none (suc l) n (λ i a b. h i (omega arith) (omega arith)))

-- entries that a list gives, with 0, which is not present, after them
pub found_listed : (k : Kind) (f : ℕ → ℕ) (es : List ℕ) (n : ℕ) → length es ≤ n → ((i : ℕ) → i < n → f i ≡ get_or es i 0)
    → found_from k f 0 n ≡ found_from k (λ (i : ℕ). get_or es i 0) 0 (length es)
found_listed k f es n h e =
    let split : n ≡ length es + (n - length es) = omega arith in
    found_same k f g 0 n (λ i x y. e i (omega arith))
    ∙ rw (split, found_append k g 0 (length es) (n - length es), found_none k g (0 + length es) (n - length es) after, append-nil)
  where
    g : ℕ → ℕ
    g i = get_or es i 0

    after : (i : ℕ) → 0 + length es ≤ i → i < 0 + length es + (n - length es) → present_of (g i) ≡ false
    after i x y = rw (get_or-eq_default es 0 {n = i} (omega arith)) zero_absent

-- HOW MANY ARE PRESENT

module _ (f : ℕ → ℕ) where
  pub below_none : present_below f 0 ≡ 0
  unfolding present_below
  below_none = refl

  pub below_present : (l : ℕ) → present_of (f l) ≡ true → present_below f (suc l) ≡ present_below f l + 1
  unfolding present_below
  below_present l h = rw h

  pub below_absent : (l : ℕ) → present_of (f l) ≡ false → present_below f (suc l) ≡ present_below f l
  unfolding present_below
  below_absent l h = rw h (omega arith)

  pub below_more : (n l : ℕ) → present_below f l ≤ present_below f (l + n)
  unfolding present_below
  below_more zero l =
      let a : l + 0 ≡ l = omega arith in
      rw a (omega arith)
  below_more (suc n) l =
      let a : l + suc n ≡ suc (l + n) = omega arith in
      rw a (omega (arith, below_more n l))

-- NUMBERS PAST A LEVEL

module _ (w : List ℕ) (base t : ℕ) where
  past : (k : Kind) (l : ℕ) → level_size k ≤ l → present_of (entry_at k w base t l) ≡ false
  unfolding page_at directory_at pointer_at under_of read_of present_of
  past Pointer l h = rw (le-ltb l pointers h)
  past Directory l h =
      let a : pointers ≤ l / entries = omega arith in
      rw (le-ltb (l / entries) pointers a)
  past Page l h =
      let a : pointers ≤ l / entries / entries = omega arith in
      rw (le-ltb (l / entries / entries) pointers a)

  pub in_level_lem : (k : Kind) (l : ℕ) → present_of (entry_at k w base t l) ≡ true → l < level_size k
  in_level_lem k l h = by (ltb l (level_size k)) refl
    where
      by : (b : Bool) → ltb l (level_size k) ≡ b → l < level_size k
      by true e = ltb-true _ _ e
      by false e = absurd (true≢false (sym h ∙ past k l (ltb-false _ _ e)))
