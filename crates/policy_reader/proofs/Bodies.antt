-- Whether a string is a body of an element of a type: it is exactly where what is read of it as one fills it.
use Prim.Native.Nat.{ℕ}
use native.Mathlib.Omega.{arith}
use mathlib.Core.Path.{◌≡◌, refl, ap, ◌∙◌}
use mathlib.Core.Bool.{Bool, true}
use mathlib.Core.List.{List}
use mathlib.Core.Option.{Option, some, none}
use lib.ListN.{get_or}
use mir.Val.{Fits}
use mir.Syntax.{w8}
use Rattle.policy_grammar.specs.Grammar.{Body, body_bytes, ValidBody}
use Rattle.policy_grammar.specs.Parser.{Read, value, fault, value_of, is_some, filling}
use Rattle.policy_grammar.specs.Layout as Layout
use Rattle.policy_grammar.proofs.Decoding.{body_made, body_read}
use Rattle.policy_reader.specs.Bodies.{BodyExactly}
use Rattle.policy_reader.specs.Inner.{Extent, extent_of}
use Rattle.std.specs.Prelude.{is_ok}

module _ (kind : ℕ) (s : List ℕ) (b : (i : ℕ) → Fits w8 (get_or s i 0)) where
  abbrev there : Bool
  there = is_some (value_of (filling (Layout.body kind) s))

  body_exactly : BodyExactly kind s there
  body_exactly = (go (value_of (filling (Layout.body kind) s)) refl, λ (x, v, e). rw (← e) (ap is_some (body_read kind x v)))
    where
      go : (o : Option Body) → value_of (filling (Layout.body kind) s) ≡ o → is_some o ≡ true → (x : Body) × ValidBody kind x × (body_bytes x ≡ s)
      go (some x) e q = let (v, m) = body_made kind s x (λ i. (b i).fits) e in (x, v, m)
      go none e q = let z : ◌≡◌ {A = ℕ} 0 1 = cc in absurd (omega arith)

  is_read : (g : Read Body) → is_ok (extent_of g) ≡ is_some (value_of g)
  is_read (value x n) = refl
  is_read (fault p) = refl

  judged : (r : Bool) → r ≡ there → (r ≡ there) × BodyExactly kind s r
  judged r e = (e, rw e body_exactly)

  -- by what is read of it
  pub fills : (x : Extent) → x ≡ extent_of (filling (Layout.body kind) s) → (r : Bool) → r ≡ is_ok x → (r ≡ there) × BodyExactly kind s r
  fills x e r q = judged r (q ∙ ap is_ok e ∙ is_read (filling (Layout.body kind) s))
