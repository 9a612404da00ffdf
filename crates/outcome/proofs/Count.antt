-- Each public function of `count` has one outcome at most.
use mathlib.Core.Path.{refl}
use Rattle.outcome.specs.One.{One}
use Rattle.outcome.proofs.Equations.{both}
use Rattle.count as count

pub length : One count.specs.contracts.length.ended count.proofs.length.Reads.Learnt
length _ _ _ _ _ _ p q = (both p q, refl)

pub empty : One count.specs.contracts.empty.ended count.proofs.empty.Reads.Learnt
empty _ _ _ _ _ _ p q = (both p q, refl)
