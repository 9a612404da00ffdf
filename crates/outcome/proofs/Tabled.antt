-- Each public function of `tabled` has one outcome at most.
use mathlib.Core.Path.{refl}
use Rattle.outcome.specs.One.{One}
use Rattle.outcome.proofs.Equations.{both}
use Rattle.tabled as tabled

pub table_step_from_ran : One tabled.specs.contracts.TableStepFromRan.from.ended tabled.proofs.TableStepFromRan.from.Reads.Learnt
table_step_from_ran _ _ _ _ _ _ p q = (both p q, refl)

pub refused : One tabled.specs.contracts.refused.ended tabled.proofs.refused.Reads.Learnt
refused _ _ _ _ _ _ p q = (both p q, refl)
