-- Each public function of `audit` has one outcome at most.
use mathlib.Core.Path.{refl}
use Rattle.outcome.specs.One.{One}
use Rattle.outcome.proofs.Equations.{both}
use Rattle.audit as audit

pub audit_audit : One audit.specs.contracts.audit.ended audit.proofs.audit.Reads.Learnt
audit_audit _ _ _ _ _ _ p q = (both p q, refl)
