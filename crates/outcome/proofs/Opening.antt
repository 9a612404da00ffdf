-- The public function of `opening` has one outcome at most.
use mathlib.Core.Path.{refl}
use Rattle.outcome.specs.One.{One}
use Rattle.outcome.proofs.Equations.{both, pair, first}
use Rattle.opening as opening

pub open_line : One opening.specs.contracts.open_line.ended opening.proofs.open_line.Reads.Learnt
open_line _ _ _ _ _ _ p q = (refl, pair (both p.0 q.0) (pair (both p.1.0 q.1.0) (first (both p.1.1.0.value q.1.1.0.value))))
