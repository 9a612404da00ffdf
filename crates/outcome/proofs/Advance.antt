-- Each public function of `advance` has one outcome at most.
use Rattle.outcome.specs.One.{One}
use Rattle.outcome.proofs.Equations.{both, first, later}
use Rattle.advance as advance

pub advance_advance : One advance.specs.contracts.advance.ended advance.proofs.advance.Reads.Learnt
advance_advance _ _ _ _ _ _ p q = (both p.0 q.0, later (first (both p.1 q.1)))
