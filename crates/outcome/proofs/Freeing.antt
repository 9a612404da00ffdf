-- Each public function of `freeing` has one outcome at most.
use mathlib.Core.Path.{refl}
use Rattle.outcome.specs.One.{One}
use Rattle.outcome.proofs.Equations.{both, first, later}
use Rattle.freeing as freeing

pub s11 : One freeing.specs.contracts.s11.ended freeing.proofs.s11.Reads.Learnt
s11 _ _ _ _ _ _ p q = (both p.0 q.0, later (first (both p.1 q.1)))

pub s12 : One freeing.specs.contracts.s12.ended freeing.proofs.s12.Reads.Learnt
s12 _ _ _ _ _ _ p q = (both p q, refl)

pub s13 : One freeing.specs.contracts.s13.ended freeing.proofs.s13.Reads.Learnt
s13 _ _ _ _ _ _ p q = (both p.0 q.0, later (first (both p.1 q.1)))

pub s14 : One freeing.specs.contracts.s14.ended freeing.proofs.s14.Reads.Learnt
s14 _ _ _ _ _ _ p q = (both p.0 q.0, later (first (both p.1 q.1)))
