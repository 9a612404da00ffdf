-- Each public function of `whole` has one outcome at most.
use mathlib.Core.Path.{refl}
use Rattle.outcome.specs.One.{One}
use Rattle.outcome.proofs.Equations.{both}
use Rattle.whole as whole

pub new : One whole.specs.contracts.new.ended whole.proofs.new.Reads.Learnt
new _ _ _ _ _ _ p q = (both p q, refl)

pub over : One whole.specs.contracts.over.ended whole.proofs.over.Reads.Learnt
over _ _ _ _ _ _ p q = (both p q, refl)

pub opened : One whole.specs.contracts.opened.ended whole.proofs.opened.Reads.Learnt
opened _ _ _ _ _ _ p q = (both p q, refl)
