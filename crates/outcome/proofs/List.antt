-- Each public function of `list` has one outcome at most.
use mathlib.Core.Path.{refl}
use Rattle.outcome.specs.One.{One}
use Rattle.outcome.proofs.Equations.{both}
use Rattle.list as list

pub counts_good : One list.specs.contracts.counts_good.ended list.proofs.counts_good.Reads.Learnt
counts_good _ _ _ _ _ _ p q = (both p q, refl)

pub setup_good : One list.specs.contracts.setup_good.ended list.proofs.setup_good.Reads.Learnt
setup_good _ _ _ _ _ _ p q = (both p q, refl)

pub nexts_good : One list.specs.contracts.nexts_good.ended list.proofs.nexts_good.Reads.Learnt
nexts_good _ _ _ _ _ _ p q = (both p q, refl)

pub shared_good : One list.specs.contracts.shared_good.ended list.proofs.shared_good.Reads.Learnt
shared_good _ _ _ _ _ _ p q = (both p q, refl)

pub call_good : One list.specs.contracts.call_good.ended list.proofs.call_good.Reads.Learnt
call_good _ _ _ _ _ _ p q = (both p q, refl)

pub record_good : One list.specs.contracts.record_good.ended list.proofs.record_good.Reads.Learnt
record_good _ _ _ _ _ _ p q = (both p q, refl)

pub state_good : One list.specs.contracts.state_good.ended list.proofs.state_good.Reads.Learnt
state_good _ _ _ _ _ _ p q = (both p q, refl)
