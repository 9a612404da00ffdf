-- Each public function of `marks` has one outcome at most.
use mathlib.Core.Path.{refl}
use Rattle.outcome.specs.One.{One}
use Rattle.outcome.proofs.Equations.{both, first}
use Rattle.marks as marks

pub fetch_or : One marks.specs.contracts.fetch_or.ended marks.proofs.fetch_or.Reads.Learnt
fetch_or _ _ _ _ _ _ p q = (both p.0 q.0, first (both p.1 q.1))

pub has : One marks.specs.contracts.has.ended marks.proofs.has.Reads.Learnt
has _ _ _ _ _ _ p q = (both p q, refl)
