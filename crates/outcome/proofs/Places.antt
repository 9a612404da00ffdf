-- Each public function of `places` has one outcome at most.
use mathlib.Core.Path.{refl}
use Rattle.outcome.specs.One.{One}
use Rattle.outcome.proofs.Equations.{both}
use Rattle.places as places

pub thread_number : One places.specs.contracts.thread_number.ended places.proofs.thread_number.Reads.Learnt
thread_number _ _ _ _ _ _ p q = (both p q, refl)

pub place_of : One places.specs.contracts.place_of.ended places.proofs.place_of.Reads.Learnt
place_of _ _ _ _ _ _ p q = (both p.0 q.0, refl)
