-- Each public function of `journal` has one outcome at most.
use Rattle.outcome.specs.One.{One}
use Rattle.outcome.proofs.Equations.{both, pair, first, later}
use Rattle.outcome.proofs.Later.{whole}
use Rattle.journal as journal

pub feed : One journal.specs.contracts.feed.ended journal.proofs.feed.Reads.Learnt
feed _ _ _ _ _ _ p q = (
  whole (both p.1.0 q.1.0) (both p.0 q.0) (both p.1.1.1.1.0 q.1.1.1.1.0),
  later (pair (both p.1.1.0 q.1.1.0) (later (first (both p.1.1.1.0 q.1.1.1.0)))),
)
