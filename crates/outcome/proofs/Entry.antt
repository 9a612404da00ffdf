-- Each public function of `entry` has one outcome at most.
use mathlib.Core.Path.{refl}
use Rattle.outcome.specs.One.{One}
use Rattle.outcome.proofs.Equations.{both}
use Rattle.entry as entry

pub test : One entry.specs.contracts.test.ended entry.proofs.test.Reads.Learnt
test _ _ _ _ _ _ p q = (both p q, refl)

pub test_open : One entry.specs.contracts.test_open.ended entry.proofs.test_open.Reads.Learnt
test_open _ _ _ _ _ _ p q = (both p q, refl)

pub test_idle : One entry.specs.contracts.test_idle.ended entry.proofs.test_idle.Reads.Learnt
test_idle _ _ _ _ _ _ p q = (both p q, refl)
