-- Each public function of `deliver` has one outcome at most.
use mathlib.Core.Path.{refl}
use Rattle.outcome.specs.One.{One}
use Rattle.outcome.proofs.Equations.{both, first, later}
use Rattle.deliver as deliver

pub p5 : One deliver.specs.contracts.p5.ended deliver.proofs.p5.Reads.Learnt
p5 _ _ _ _ _ _ p q = (both p q, refl)

pub p6 : One deliver.specs.contracts.p6.ended deliver.proofs.p6.Reads.Learnt
p6 _ _ _ _ _ _ p q = (both p q, refl)

pub p7 : One deliver.specs.contracts.p7.ended deliver.proofs.p7.Reads.Learnt
p7 _ _ _ _ _ _ p q = (both p.0 q.0, later (first (both p.1 q.1)))

pub p8 : One deliver.specs.contracts.p8.ended deliver.proofs.p8.Reads.Learnt
p8 _ _ _ _ _ _ p q = (both p.0 q.0, later (first (both p.1 q.1)))

pub p9 : One deliver.specs.contracts.p9.ended deliver.proofs.p9.Reads.Learnt
p9 _ _ _ _ _ _ p q = (both p.0 q.0, later (first (both p.1 q.1)))

pub p10 : One deliver.specs.contracts.p10.ended deliver.proofs.p10.Reads.Learnt
p10 _ _ _ _ _ _ p q = (both p.0 q.0, later (first (both p.1 q.1)))
