-- The digest of the measures joined, worked out list by list: the state holds the measures of the lists that were passed.
use mathlib.Core.Path.{◌≡◌, refl, ap, sym, ◌∙◌}
use mathlib.Core.Bool.{false}
use mathlib.Core.List.{List, [], ◌∷◌, ◌++◌, flat_map, append_assoc, append-nil}
use Prim.Native.Nat.{ℕ}
use Rattle.sha256.specs.declared.Running.{Running}
use Rattle.sha256.specs.Message.{sha256}
use Rattle.sha256.specs.State.{started, Absorbed, finish_of, Holds}
use Rattle.sha256.proofs.Parts.{start_holds, absorb_holds, finish_holds}
use Rattle.policy_answers.specs.Types.{ListAnswer}
use Rattle.policy_grammar.specs.Grammar.{Signing, PolicyList}
use Rattle.policy_grammar.specs.Grammar as Grammar
use Rattle.policy_answers.specs.Seen.{seen_list, list_part}
use Rattle.policy_reader.proofs.Standing as kinds
use Rattle.policy_reader.proofs.Walk.{Front, list_seen}
use Rattle.decision.specs.Lists.{of_grammar, lists_of, measured_bytes, measure, hash_of}
use Rattle.decision.specs.Inner.{measured_in, measured_seen}
use Rattle.decision.proofs.Walking.{not_accepted}

-- what is measured where a list stands is what is measured of it
measured_is : (l : PolicyList) (g : Signing) → measured_in (list_part l) g ≡ measured_bytes l g
measured_is l Grammar.unsigned = refl
measured_is l (Grammar.signed g) = refl

-- the digest of it is the list's measure
pub measure_is : (s : List ℕ) (at : ℕ) (Kept : List PolicyList → Type 0) (e : ListAnswer) (t : Front kinds.list s at Kept e) (b d : List ℕ)
    → b ≡ measured_seen (seen_list s e) → d ≡ sha256 b → d ≡ measure t.first
unfolding measure
measure_is s at Kept e t b d p q =
    let l = t.first in
    let seen = ap (seen_list s) t.shown ∙ list_seen s at l t.others t.valid t.stand in
    q ∙ ap sha256 (p ∙ ap measured_seen seen ∙ measured_is l l.signing)

-- a file that is not of the grammar has none, and its hash is the digest of no bytes
pub hash_of_none : (s d : List ℕ) → of_grammar s ≡ false → d ≡ sha256 [] → d ≡ hash_of (lists_of s)
unfolding hash_of flat_map
hash_of_none s d h e = rw (not_accepted s h) e

-- the state holds the measures of those that were passed
pub record Hashing (all : List PolicyList) (state : Running) (rest : List PolicyList) : Type 0 where
  pub message : List ℕ
  pub holds : Holds state message
  pub joined : flat_map measure all ≡ message ++ flat_map measure rest

pub hashing_start : (all : List PolicyList) (state : Running) → state ≡ started → Hashing all state all
hashing_start all state e = record { message = []; holds = rw e start_holds; joined = refl }

pub hashing_step : (all : List PolicyList) (state next : Running) (l : PolicyList) (rest : List PolicyList) (d : List ℕ)
    → Hashing all state (l ∷ rest) → d ≡ measure l → Absorbed state d next → Hashing all next rest
unfolding flat_map
hashing_step all state next l rest d h e a =
    record {
      message = h.message ++ d;
      holds = absorb_holds state next h.message d h.holds a;
      joined = rw (e, append_assoc) h.joined;
    }

pub hashing_end : (all : List PolicyList) (state : Running) → Hashing all state [] → finish_of state ≡ hash_of all
unfolding hash_of flat_map
hashing_end all state h = finish_holds state h.message h.holds ∙ ap sha256 (sym (h.joined ∙ append-nil h.message))
