-- The editions of the header: equal ones have equal numbers, what their least lengths are, which one a version picks, and that rule 7 asks for one of them.
use Prim.Native.Nat.{ℕ, ◌+◌, ◌*◌}
use mathlib.Core.Path.{◌≡◌, refl, ap, sym}
use mathlib.Core.Logic.{◌⊎◌, inl, inr, ⊎_elim}
use mathlib.Core.Bool.{Bool, true, false, cond}
use mathlib.Core.List.{List, [], ◌∷◌}
use native.Mathlib.Omega.{arith}
use borrow.Author.Tests.{ne_eqb}
use lib.Dec.{eqb}
use Rattle.rules.specs.Rules.{Every, Some}
use Rattle.rules.proofs.Tests.{some_every}
use Rattle.sinit.specs.declared.header.Edition.{Edition}
use Rattle.sinit.specs.Module.{length_unit, version, table_size, least_length, first, second, editions, row_of, edition_of}
use Rattle.sinit.specs.Editions.{LeastMultiple, LeastLengths, LeastByVersion, ShortRefused, OfEdition, OneEditionExactly}
use Rattle.sinit.proofs.Meaning.{refused_exactly}

pub record Alike (a b : Edition) : Type 0 where
  pub versions : a.version ≡ b.version
  pub words : a.header_len ≡ b.header_len
  pub keys : a.key_size ≡ b.key_size
  pub lengths : a.least_length ≡ b.least_length

pub alike : {a b : Edition} → a ≡ b → Alike a b
alike e =
    record {
      versions = ap (λ (r : Edition). r.version) e;
      words = ap (λ (r : Edition). r.header_len) e;
      keys = ap (λ (r : Edition). r.key_size) e;
      lengths = ap (λ (r : Edition). r.least_length) e;
    }

-- the least length of any header
least_multiple : (words : ℕ) → LeastMultiple length_unit (4 * words + table_size) (least_length words)
least_multiple words = record { in_units = omega arith; holds = omega arith; no_less = λ n u h. omega arith }

pub least_lengths : LeastLengths
least_lengths =
    record {
      of_each = (least_multiple first.header_len, (least_multiple second.header_len, tt));
      of_first = refl;
      of_second = refl;
    }

-- the row that a version picks is the other one, or some row of the table
picked : (P : Edition → Type 0) (v : ℕ) (other : Edition) (rows : List Edition) → P (row_of v other rows) → P other ⊎ Some P rows
unfolding row_of
picked P v other [] h = inl h
picked P v other (row ∷ rows) h = by (eqb row.version v) (picked P v other rows) h
  where
    by : (b : Bool) → (P (row_of v other rows) → P other ⊎ Some P rows) → P (cond b row (row_of v other rows)) → P other ⊎ Some P (row ∷ rows)
    by true rest h = inr (inl h)
    by false rest h = ⊎_elim (λ p. inl p) (λ p. inr (inr p)) (rest h)

-- each row is the one that its own version picks: computed over the whole table
abbrev Own : Edition → Type 0
Own row = row_of row.version first editions ≡ row

each_own : Every Own editions
unfolding row_of
each_own = (refl, (refl, tt))

pub least_by_version : LeastByVersion
unfolding row_of
least_by_version =
    record {
      of_second = λ m e. rw e;
      of_other = λ m n. rw (ne_eqb _ _ (λ e. n (sym e))) (by (eqb 0 (version m)));
    }
  where
    by : (b : Bool) → (cond b first first).least_length ≡ 704
    by true = refl
    by false = refl

pub short_refused : ShortRefused
short_refused m base capacity c os_sinit_data h = (refused_exactly m base capacity c os_sinit_data 6).1 (inl (λ p. omega (arith, p.least), refl))

pub one_edition_exactly : OneEditionExactly
one_edition_exactly m = (
  λ h.
      let of : OfEdition m (edition_of m) = record { same_version = h.right_version; same_header_len = h.header_words; same_key_size = h.key_words } in
      record {
        one_edition = ⊎_elim (λ p. inl p) (λ p. p) (picked (OfEdition m) (version m) first editions of);
        right_type = h.right_type;
        right_vendor = h.right_vendor;
        whole = h.whole;
      },
  λ h.
      let of : OfEdition m (edition_of m) = some_every Own (OfEdition m) (λ row e o. rw (o.same_version, e) o) editions each_own h.one_edition in
      record {
        right_type = h.right_type;
        header_words = of.same_header_len;
        right_version = of.same_version;
        right_vendor = h.right_vendor;
        whole = h.whole;
        key_words = of.same_key_size;
      },
)
