-- Each public function of `step` has one outcome at most.
use Rattle.outcome.specs.One.{One}
use Rattle.outcome.proofs.Equations.{both, first, later}
use Rattle.step as step

pub step_step : One step.specs.contracts.step.ended step.proofs.step.Reads.Learnt
step_step _ _ _ _ _ _ p q = (both p.0 q.0, later (first (both p.1 q.1)))
