-- Each public function of `calls` has one outcome at most.
use mathlib.Core.Path.{refl}
use Rattle.outcome.specs.One.{One}
use Rattle.outcome.proofs.Equations.{both}
use Rattle.calls as calls

pub limit_good : One calls.specs.contracts.limit_good.ended calls.proofs.limit_good.Reads.Learnt
limit_good _ _ _ _ _ _ p q = (both p q, refl)

pub room_good : One calls.specs.contracts.room_good.ended calls.proofs.room_good.Reads.Learnt
room_good _ _ _ _ _ _ p q = (both p q, refl)

pub push_good : One calls.specs.contracts.push_good.ended calls.proofs.push_good.Reads.Learnt
push_good _ _ _ _ _ _ p q = (both p q, refl)

pub steal_good : One calls.specs.contracts.steal_good.ended calls.proofs.steal_good.Reads.Learnt
steal_good _ _ _ _ _ _ p q = (both p q, refl)

pub length_good : One calls.specs.contracts.length_good.ended calls.proofs.length_good.Reads.Learnt
length_good _ _ _ _ _ _ p q = (both p q, refl)

pub empty_good : One calls.specs.contracts.empty_good.ended calls.proofs.empty_good.Reads.Learnt
empty_good _ _ _ _ _ _ p q = (both p q, refl)
