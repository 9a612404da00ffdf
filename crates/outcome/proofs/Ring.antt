-- Each public function of `ring` has one outcome at most.
use mathlib.Core.Path.{refl}
use Rattle.outcome.specs.One.{One}
use Rattle.outcome.proofs.Equations.{both}
use Rattle.ring as ring

pub new : One ring.specs.contracts.Ring.new.ended ring.proofs.Ring.new.Reads.Learnt
new _ _ _ _ _ _ p q = (both p q, refl)

pub enter : One ring.specs.contracts.Ring.enter.ended ring.proofs.Ring.enter.Reads.Learnt
enter _ _ _ _ _ _ p q = (both p q, refl)

pub pop : One ring.specs.contracts.Ring.pop.ended ring.proofs.Ring.pop.Reads.Learnt
pop _ _ _ _ _ _ p q = (both p q, refl)
