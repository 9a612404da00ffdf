-- Each public function of `span` has one outcome at most.
use mathlib.Core.Path.{refl}
use Rattle.outcome.specs.One.{One}
use Rattle.outcome.proofs.Equations.{both}
use Rattle.span as span

pub same_position : One span.specs.contracts.same_position.ended span.proofs.same_position.Reads.Learnt
same_position _ _ _ _ _ _ p q = (both p q, refl)

pub length : One span.specs.contracts.length.ended span.proofs.length.Reads.Learnt
length _ _ _ _ _ _ p q = (both p q, refl)
