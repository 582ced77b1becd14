-- `record_holds` meets its contract: its tests are those of the rule.
use mathlib.Core.Logic.{inl, inr, ⊎_elim}
use native.Mathlib.Omega.{arith}
use borrow.Author.Tests.{eqb-true, eqb-false, eq-eqb}
use Rattle.rules.proofs.Tests.{fails, holds, agrees, confirmed, refuted}
use Rattle.policy_record.proofs.Conditions.{record_exactly}
use Rattle.policy_record.proofs.record_holds.Goals as goal

pub returns-then-record-ne-RECORD_SIZE : goal.returns-then-record-ne-RECORD_SIZE
returns-then-record-ne-RECORD_SIZE c = fails (record_exactly _) (λ h. omega arith)

pub returns-then-number_or_zero-ne-KNOWN_VERSION : goal.returns-then-number_or_zero-ne-KNOWN_VERSION
returns-then-number_or_zero-ne-KNOWN_VERSION c = fails (record_exactly _) (λ h. omega arith)

pub returns-then-number_or_zero-ne-SHA256_ALG : goal.returns-then-number_or_zero-ne-SHA256_ALG
returns-then-number_or_zero-ne-SHA256_ALG c = fails (record_exactly _) (λ h. omega arith)

pub returns-then-not-mask_has_sha256 : goal.returns-then-not-mask_has_sha256
returns-then-not-mask_has_sha256 c = fails (record_exactly _) (λ h. refuted _ c.mask_has_sha256.ensures c.if-not-mask_has_sha256.true (eq-eqb _ _ h.mask))

pub returns-then-type_-eq-LIST : goal.returns-then-type_-eq-LIST
returns-then-type_-eq-LIST c =
    let mask = eqb-true _ _ (confirmed _ c.mask_has_sha256.ensures c.if-not-mask_has_sha256.false) in
    holds (record_exactly _)
    (record { size = omega arith; version = omega arith; algorithm = omega arith; type = inl (omega arith); mask = mask })

pub returns : goal.returns
returns c =
    let mask = eqb-true _ _ (confirmed _ c.mask_has_sha256.ensures c.if-not-mask_has_sha256.false) in
    agrees _ (record_exactly _)
    (λ e. record { size = omega arith; version = omega arith; algorithm = omega arith; type = inr (omega (arith, eqb-true)); mask = mask })
    (λ e h. ⊎_elim (λ z. omega arith) (λ z. omega (arith, eqb-false)) h.type)
