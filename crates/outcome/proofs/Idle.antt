-- The public function of `idle` has one outcome at most.
use mathlib.Core.Path.{refl}
use Rattle.outcome.specs.One.{One}
use Rattle.outcome.proofs.Equations.{both}
use Rattle.idle as idle

pub idle_thread : One idle.specs.contracts.idle_thread.ended idle.proofs.idle_thread.Reads.Learnt
idle_thread _ _ _ _ _ _ p q = (both p q, refl)
