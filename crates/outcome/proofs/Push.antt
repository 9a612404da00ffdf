-- Each public function of `push` has one outcome at most.
use Rattle.outcome.specs.One.{One}
use Rattle.outcome.proofs.Equations.{both, first, later}
use Rattle.push as push

pub step : One push.specs.contracts.step.ended push.proofs.step.Reads.Learnt
step _ _ _ _ _ _ p q = (both p.0 q.0, later (first (both p.1 q.1)))
