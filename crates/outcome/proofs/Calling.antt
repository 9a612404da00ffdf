-- Each public function of `calling` has one outcome at most.
use mathlib.Core.Path.{refl}
use Rattle.outcome.specs.One.{One}
use Rattle.outcome.proofs.Equations.{both}
use Rattle.calling as calling

pub begun : One calling.specs.contracts.begun.ended calling.proofs.begun.Reads.Learnt
begun _ _ _ _ _ _ p q = (both p q, refl)
