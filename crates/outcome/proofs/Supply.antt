-- Each public function of `supply` has one outcome at most.
use mathlib.Core.Path.{refl}
use Rattle.outcome.specs.One.{One}
use Rattle.outcome.proofs.Equations.{both, first}
use Rattle.supply as supply

pub take : One supply.specs.contracts.take.ended supply.proofs.take.Reads.Learnt
take _ _ _ _ _ _ p q = (both p.0 q.0, first (both p.1 q.1))

pub reset : One supply.specs.contracts.reset.ended supply.proofs.reset.Reads.Learnt
reset _ _ _ _ _ _ p q = (refl, first (both p q))
