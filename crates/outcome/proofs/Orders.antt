-- The public function of `orders` has one outcome at most.
use mathlib.Core.Path.{refl}
use Rattle.outcome.specs.One.{One}
use Rattle.outcome.proofs.Equations.{both, pair, first, later}
use Rattle.orders as orders

pub hear : One orders.specs.contracts.hear.ended orders.proofs.hear.Reads.Learnt
hear _ _ _ _ _ _ p q = (refl, pair (both p.0 q.0) (later (pair (both p.1.0 q.1.0) (first (both p.1.1.0.value q.1.1.0.value)))))
