-- Each public function of `reading` has one outcome at most.
use mathlib.Core.Path.{refl}
use Rattle.outcome.specs.One.{One}
use Rattle.outcome.proofs.Equations.{both}
use Rattle.reading as reading

pub s9 : One reading.specs.contracts.s9.ended reading.proofs.s9.Reads.Learnt
s9 _ _ _ _ _ _ p q = (both p q, refl)

pub s10 : One reading.specs.contracts.s10.ended reading.proofs.s10.Reads.Learnt
s10 _ _ _ _ _ _ p q = (both p q, refl)
