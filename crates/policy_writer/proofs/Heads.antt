-- The bytes that are put before the elements of a list and before the lists of a file.
use Prim.Native.Nat.{ℕ, ◌+◌}
use native.Mathlib.Omega.{arith}
use mathlib.Core.Path.{◌≡◌, refl, ap, ◌∙◌}
use mathlib.Core.List.{List, [], ◌++◌, flat_map, append-nil}
use lib.ListN.{length}
use Rattle.field.specs.Number.{bytes}
use Rattle.field.proofs.Laws.{length_bytes}
use Rattle.policy_grammar.specs.Grammar.{mark_characters, four_zeros, three_zeros, unsigned_algorithm}
use Rattle.policy_writer.specs.Inner.{put, list_head, file_head}
use Rattle.policy_writer.proofs.Buffer.{put_two}

module _ (out a₁ a₂ a₃ : List ℕ) where
  pub list_head_put : (to version size : ℕ) → a₁ ≡ put out to (bytes 2 version) → a₂ ≡ put a₁ (to + 2) (bytes 2 unsigned_algorithm) → a₃ ≡ put a₂ (to + 4) (bytes 4 size)
      → a₃ ≡ put out to (list_head version size)
  unfolding list_head flat_map
  list_head_put to version size e₁ e₂ e₃ =
      let e : a₃ ≡ put a₂ (to + 4) (bytes 4 size ++ []) = rw append-nil e₃ in
      let w = put_two a₁ (to + 2) (bytes 2 unsigned_algorithm) (bytes 4 size ++ []) (to + 4) a₂ a₃ e₂ e (omega (arith, length_bytes 2 unsigned_algorithm)) in
      put_two out to (bytes 2 version) _ (to + 2) a₁ a₃ e₁ w (omega (arith, length_bytes 2 version))

  zeros : (s : List ℕ) → bytes 3 0 ++ s ≡ three_zeros ++ s
  unfolding bytes
  zeros s = refl

  pub file_head_put : (count : ℕ) (mark : List ℕ) → mark ≡ mark_characters ++ four_zeros → a₁ ≡ put out 0 mark → a₂ ≡ put a₁ 32 (bytes 3 0) → a₃ ≡ put a₂ 35 (bytes 1 count)
      → a₃ ≡ put out 0 (file_head count)
  unfolding file_head flat_map mark_characters
  file_head_put count mark e e₁ e₂ e₃ =
      let d : a₃ ≡ put a₂ 35 (bytes 1 count ++ []) = rw append-nil e₃ in
      let w = put_two a₁ 32 (bytes 3 0) (bytes 1 count ++ []) 35 a₂ a₃ e₂ d (omega (arith, length_bytes 3 0)) in
      put_two out 0 mark _ 32 a₁ a₃ e₁ w (omega (arith, ap length e)) ∙ ap (put out 0) (rw (e, zeros (bytes 1 count ++ [])))
