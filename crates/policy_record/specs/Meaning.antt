-- What rules 23 to 25 say, as plain propositions, and that the tests say exactly this. Each statement that ends in `Exactly` is proved under the same
-- name in small letters: proofs/Conditions.antt and RecordAnswers.antt.
use Rattle.std.specs.Prelude.{ℕ, ◌/◌, ◌%◌, ◌^◌, ◌≤◌, ◌≡◌, ◌↔◌, ◌⊎◌, true, List, [], ◌∷◌, length, Ok, Err}
use Rattle.rules.specs.Rules.{all, first_failing}
use Rattle.rules.specs.Refusal.{number_of}
use Rattle.rules.specs.Meaning.{Meaning, meaning, AllSay, FirstBroken}
use Rattle.policy_record.specs.declared.PolicyType.TheVariants as types
use Rattle.policy_record.specs.Record.{record_size, version_high, known_version, hash_alg, sha256_alg, policy_type, LIST, ANY, sinit_min_version, control, lcp_hash_alg_mask, sha256_bit, record_tests, worthy_or_allowed, version_reached, record_rules}
use Rattle.policy_record.specs.Answers.{record_of}

-- bit k of a number, 0 the lowest, is 1
abbrev pub Bit : ℕ → ℕ → Type 0
Bit k x = x / 2 ^ k % 2 ≡ 1

-- 23, for LIST and for ANY
pub record Record (r : List ℕ) : Type 0 where
  pub size : length r ≡ record_size
  pub version : version_high r ≡ known_version
  pub algorithm : hash_alg r ≡ sha256_alg
  pub type : (policy_type r ≡ LIST) ⊎ (policy_type r ≡ ANY)
  pub mask : Bit sha256_bit (lcp_hash_alg_mask r)

-- 24
abbrev pub WorthyOrAllowed : ℕ → List ℕ → Type 0
WorthyOrAllowed flags r = (Bit 14 flags) ⊎ (Bit 15 flags) → Bit 1 (control r)

-- 25
abbrev pub Reached : ℕ → List ℕ → Type 0
Reached acm_version r = sinit_min_version r ≤ acm_version

-- the rules of the record, in the order they are tried
abbrev pub record_meanings : List ℕ → ℕ → ℕ → List Meaning
record_meanings r flags acm_version = meaning 23 (Record r) ∷ meaning 24 (WorthyOrAllowed flags r) ∷ meaning 25 (Reached acm_version r) ∷ []

-- THE TESTS SAY THIS

-- the number of the answer for a record is that of the first rule that fails
abbrev pub NumberIsFirst : Type 0
NumberIsFirst = (r : List ℕ) (flags acm_version : ℕ) → number_of (record_of r flags acm_version) ≡ first_failing (record_rules r flags acm_version)

abbrev pub RecordExactly : Type 0
RecordExactly = (r : List ℕ) → (all (record_tests r) ≡ true) ↔ Record r

abbrev pub WorthyOrAllowedExactly : Type 0
WorthyOrAllowedExactly = (flags : ℕ) (r : List ℕ) → (worthy_or_allowed flags r ≡ true) ↔ WorthyOrAllowed flags r

abbrev pub ReachedExactly : Type 0
ReachedExactly = (acm_version : ℕ) (r : List ℕ) → (version_reached acm_version r ≡ true) ↔ Reached acm_version r

-- LIST or ANY is answered exactly where every rule of the record says what is so, and a number exactly where it is that of the first that is broken
abbrev pub AnswerExactly : Type 0
AnswerExactly =
    (r : List ℕ) (flags acm_version : ℕ)
    → ((record_of r flags acm_version ≡ Ok types.List) ↔ (AllSay (record_meanings r flags acm_version) × (policy_type r ≡ LIST)))
    × ((record_of r flags acm_version ≡ Ok types.Any) ↔ (AllSay (record_meanings r flags acm_version) × (policy_type r ≡ ANY)))
    × ((n : ℕ) → (record_of r flags acm_version ≡ Err n) ↔ FirstBroken (record_meanings r flags acm_version) n)
