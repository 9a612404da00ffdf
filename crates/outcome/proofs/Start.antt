-- Each public function of `start` has one outcome at most.
use Rattle.outcome.specs.One.{One}
use Rattle.outcome.proofs.Equations.{both, first, later}
use Rattle.start as start

pub setup : One start.specs.contracts.setup.ended start.proofs.setup.Reads.Learnt
setup _ _ _ _ _ _ p q = (both p.0 q.0, later (later (later (first (both p.1 q.1)))))
