-- Each public function of `going` has one outcome at most.
use mathlib.Core.Path.{refl}
use Rattle.outcome.specs.One.{One}
use Rattle.outcome.proofs.Equations.{both}
use Rattle.going as going

pub goes_on : One going.specs.contracts.goes_on.ended going.proofs.goes_on.Reads.Learnt
goes_on _ _ _ _ _ _ p q = (both p q, refl)
