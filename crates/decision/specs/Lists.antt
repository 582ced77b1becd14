-- The policy file: where it stands, the measures of its lists, and which list permits. Rules 26 to 29, of the one reading that the file has.
use Rattle.std.specs.Prelude.{ℕ, suc, ◌-◌, Bool, true, false, cond, not, ◌&&◌, ◌||◌, leb, ltb, eqb, length, take, drop}
use mathlib.Core.List.{List, [], ◌∷◌, flat_map}
use Rattle.field.specs.Field.{same}
use Rattle.range.specs.Range.{inside_of}
use Rattle.rules.specs.Tests.{every, any}
use Rattle.rules.specs.Rules.{all}
use Rattle.answer.specs.Answer.{no_list}
use Rattle.sha256.specs.Message.{sha256}
use Rattle.rsa.specs.Rsa.{verifies}
use Rattle.policy_grammar.specs.Grammar.{Digests, Body, Launch, launch_type, custom_type, stm_type, Element, Signature, Signing, PolicyList, list_bytes}
use Rattle.policy_grammar.specs.Grammar as Grammar
use Rattle.policy_answers.specs.Answers.{lists_in}
use Rattle.policy_grammar.specs.Parser.{is_some}
use Rattle.policy_grammar.specs.Decode.{accepted}
use Rattle.policy_grammar.specs.Sizes.{least_file, largest_file}
use Rattle.policy_record.specs.Record.{policy_hash, sha256_alg}

-- 26. "policy file not wholly in the window, or its size not 36 to 65,536"
-- w is the window, which begins at `window`; the file has `size` bytes at `base`
unfoldable pub file_placed : List ℕ → ℕ → ℕ → ℕ → List Bool
file_placed w window base size =
    leb least_file size
    ∷ leb size largest_file
    ∷ inside_of (record { base = base; size = size }) (record { base = window; size = length w })
    ∷ []

-- the bytes of the file where it stands; none where it is not placed
unfoldable pub file_of : List ℕ → ℕ → ℕ → ℕ → List ℕ
file_of w window base size = cond (all (file_placed w window base size)) (take size (drop (base - window) w)) []

-- 27. "policy file not of the grammar"; a string of a size that is not read is not either
unfoldable pub of_grammar : List ℕ → Bool
of_grammar file = is_some (accepted file)

-- the lists of a file that is of the grammar
abbrev pub lists_of : List ℕ → List PolicyList
lists_of file = lists_in (accepted file)

-- 28. "A list's measure is SHA-256 of the list's bytes, or of the key if signed. PolicyHash is SHA-256 of the measures joined."
abbrev pub measured_bytes : PolicyList → Signing → List ℕ
measured_bytes l Grammar.unsigned = list_bytes l
measured_bytes l (Grammar.signed g) = g.key

unfoldable pub measure : PolicyList → List ℕ
measure l = sha256 (measured_bytes l l.signing)

unfoldable pub hash_of : List PolicyList → List ℕ
hash_of ls = sha256 (flat_map measure ls)

unfoldable pub hash_matches : List ℕ → List ℕ → Bool
hash_matches file r = same (hash_of (lists_of file)) (policy_hash r)

-- 29. What a list is judged by: the digest of the pages, AcmVersion of the module, the STM image, "empty if there is none", and "the record's counter"
-- for each list index
pub record Criteria : Type 0 where
  pub digest : List ℕ
  pub acm_version : ℕ
  pub stm : List ℕ
  pub counter : ℕ → ℕ

-- digests with HashAlg 0x000B name a digest
abbrev pub digests_name : List ℕ → Digests → Bool
digests_name digest d = eqb d.hash_alg sha256_alg && any (same digest) d.digests

-- "A list permits if it .. holds only types 0x10 and 3, and some 0x10 element with HashAlg 0x000B names the digest and has
-- SINITMinVersion at most AcmVersion." "Add 0x14 .. to the permitted types"
abbrev pub judged : Element → Bool
judged e = eqb e.type launch_type || (eqb e.type custom_type || eqb e.type stm_type)

abbrev pub launch_names : Criteria → Launch → Bool
launch_names k b = digests_name k.digest b.digests && leb b.sinit_min_version k.acm_version

abbrev pub body_names : Criteria → Body → Bool
body_names k (Grammar.launch b) = launch_names k b
body_names k (Grammar.stm d) = false
body_names k (Grammar.other b) = false

unfoldable pub names : Criteria → Element → Bool
names k e = body_names k e.body

-- "A list that holds a 0x14 element permits only if some 0x14 element in it with HashAlg 0x000B names the image's SHA-256 digest; with no image it does
-- not permit."
abbrev pub is_stm : Element → Bool
is_stm e = eqb e.type stm_type

abbrev pub body_names_stm : List ℕ → Body → Bool
body_names_stm digest (Grammar.launch b) = false
body_names_stm digest (Grammar.stm d) = digests_name digest d
body_names_stm digest (Grammar.other b) = false

unfoldable pub names_stm : List ℕ → Element → Bool
names_stm digest e = body_names_stm digest e.body

abbrev pub stm_named : List ℕ → List Element → Bool
stm_named image es = ltb 0 (length image) && any (names_stm (sha256 image)) es

abbrev pub elements_permit : Criteria → List Element → Bool
elements_permit k es = every judged es && any (names k) es && (not (any is_stm es) || stm_named k.stm es)

-- all bytes but the last n
abbrev pub without_last : ℕ → List ℕ → List ℕ
without_last n b = take (length b - n) b

-- "the list's bytes up to, but without, the signature"
unfoldable pub signed_bytes : PolicyList → Signature → List ℕ
signed_bytes l g = without_last (length g.signature) (list_bytes l)

-- "A signed list permits like an unsigned one if its signature verifies and its counter is at least the record's counter at the same list index."
abbrev pub signing_holds : Criteria → ℕ → PolicyList → Signing → Bool
signing_holds k i l Grammar.unsigned = true
signing_holds k i l (Grammar.signed g) = verifies g.key g.signature (signed_bytes l g) && leb (k.counter i) g.counter

-- of the list number i
unfoldable pub permits : Criteria → ℕ → PolicyList → Bool
permits k i l = signing_holds k i l l.signing && elements_permit k l.elements

-- "no list permits": a test holds of some list, counted from i
unfoldable pub some_from : ℕ → (ℕ → PolicyList → Bool) → List PolicyList → Bool
some_from i test [] = false
some_from i test (l ∷ ls) = test i l || some_from (suc i) test ls

unfoldable pub some_permits : List ℕ → Criteria → Bool
some_permits file k = some_from 0 (permits k) (lists_of file)

-- "The lowest permitting list is reported." 255 where none permits
unfoldable pub lowest_from : ℕ → (ℕ → PolicyList → Bool) → List PolicyList → ℕ
lowest_from i test [] = no_list
lowest_from i test (l ∷ ls) = cond (test i l) i (lowest_from (suc i) test ls)

unfoldable pub lowest_permitting : List ℕ → Criteria → ℕ
lowest_permitting file k = lowest_from 0 (permits k) (lists_of file)
