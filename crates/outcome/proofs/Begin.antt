-- Each public function of `begin` has one outcome at most.
use mathlib.Core.Path.{refl}
use Rattle.outcome.specs.One.{One}
use Rattle.outcome.proofs.Equations.{both}
use Rattle.begin as begin

pub begin_begin : One begin.specs.contracts.begin.ended begin.proofs.begin.Reads.Learnt
begin_begin _ _ _ _ _ _ p q = (both p q, refl)
