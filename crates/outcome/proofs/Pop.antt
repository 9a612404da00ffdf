-- Each public function of `pop` has one outcome at most.
use mathlib.Core.Path.{refl}
use Rattle.outcome.specs.One.{One}
use Rattle.outcome.proofs.Equations.{both}
use Rattle.pop as pop

pub pop_pop : One pop.specs.contracts.pop.ended pop.proofs.pop.Reads.Learnt
pop_pop _ _ _ _ _ _ p q = (both p q, refl)
