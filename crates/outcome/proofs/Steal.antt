-- Each public function of `steal` has one outcome at most.
use Rattle.outcome.specs.One.{One}
use Rattle.outcome.proofs.Equations.{both, first, later}
use Rattle.steal as steal

pub step : One steal.specs.contracts.step.ended steal.proofs.step.Reads.Learnt
step _ _ _ _ _ _ p q = (both p.0 q.0, later (first (both p.1 q.1)))
