-- Each public function of `wait` has one outcome at most.
use mathlib.Core.Path.{refl}
use Rattle.outcome.specs.One.{One}
use Rattle.outcome.proofs.Equations.{both}
use Rattle.wait as wait

pub wait_of : One wait.specs.contracts.wait_of.ended wait.proofs.wait_of.Reads.Learnt
wait_of _ _ _ _ _ _ p q = (both p q, refl)

pub waited_call : One wait.specs.contracts.waited_call.ended wait.proofs.waited_call.Reads.Learnt
waited_call _ _ _ _ _ _ p q = (both p q, refl)

pub waits : One wait.specs.contracts.waits.ended wait.proofs.waits.Reads.Learnt
waits _ _ _ _ _ _ p q = (both p q, refl)
