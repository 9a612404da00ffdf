-- The public function of `ending` has one outcome at most.
use Rattle.outcome.specs.One.{One}
use Rattle.outcome.proofs.Equations.{both, first, later}
use Rattle.ending as ending

pub finish : One ending.specs.contracts.finish.ended ending.proofs.finish.Reads.Learnt
finish _ _ _ _ _ _ p q = (both p.1.0 q.1.0, later (first (both p.0 q.0)))
