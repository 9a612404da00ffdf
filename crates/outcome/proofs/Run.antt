-- Each public function of `run` has one outcome at most.
use Rattle.outcome.specs.One.{One}
use Rattle.outcome.proofs.Equations.{both, first, later}
use Rattle.run as run

pub run_run : One run.specs.contracts.run.ended run.proofs.run.Reads.Learnt
run_run _ _ _ _ _ _ p q = (both p.0 q.0, later (first (both p.1 q.1)))
