-- Each public function of `ticket` has one outcome at most.
use mathlib.Core.Path.{refl}
use Rattle.outcome.specs.One.{One}
use Rattle.outcome.proofs.Equations.{both, first, later}
use Rattle.ticket as ticket

pub p3 : One ticket.specs.contracts.p3.ended ticket.proofs.p3.Reads.Learnt
p3 _ _ _ _ _ _ p q = (both p.0 q.0, later (first (both p.1 q.1)))

pub p4 : One ticket.specs.contracts.p4.ended ticket.proofs.p4.Reads.Learnt
p4 _ _ _ _ _ _ p q = (both p q, refl)
