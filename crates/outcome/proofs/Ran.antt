-- Each public function of `ran` has one outcome at most.
use mathlib.Core.Path.{refl}
use Rattle.outcome.specs.One.{One}
use Rattle.outcome.proofs.Equations.{both}
use Rattle.ran as ran

pub refused : One ran.specs.contracts.refused.ended ran.proofs.refused.Reads.Learnt
refused _ _ _ _ _ _ p q = (both p q, refl)

pub counted : One ran.specs.contracts.counted.ended ran.proofs.counted.Reads.Learnt
counted _ _ _ _ _ _ p q = (both p q, refl)
