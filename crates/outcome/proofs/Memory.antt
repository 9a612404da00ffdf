-- Each public function of `memory` has one outcome at most.
use mathlib.Core.Path.{refl}
use Rattle.outcome.specs.One.{One}
use Rattle.outcome.proofs.Equations.{both, first}
use Rattle.memory as memory

pub token : One memory.specs.contracts.token.ended memory.proofs.token.Reads.Learnt
token _ _ _ _ _ _ p q = (both p q, refl)

pub write_token : One memory.specs.contracts.write_token.ended memory.proofs.write_token.Reads.Learnt
write_token _ _ _ _ _ _ p q = (refl, first (both p q))

pub state : One memory.specs.contracts.state.ended memory.proofs.state.Reads.Learnt
state _ _ _ _ _ _ p q = (both p q, refl)

pub next : One memory.specs.contracts.next.ended memory.proofs.next.Reads.Learnt
next _ _ _ _ _ _ p q = (both p q, refl)

pub set_next : One memory.specs.contracts.set_next.ended memory.proofs.set_next.Reads.Learnt
set_next _ _ _ _ _ _ p q = (refl, first (both p q))

pub is_free : One memory.specs.contracts.is_free.ended memory.proofs.is_free.Reads.Learnt
is_free _ _ _ _ _ _ p q = (both p q, refl)

pub give_back : One memory.specs.contracts.give_back.ended memory.proofs.give_back.Reads.Learnt
give_back _ _ _ _ _ _ p q = (refl, first (both p q))

pub pool_len : One memory.specs.contracts.pool_len.ended memory.proofs.pool_len.Reads.Learnt
pool_len _ _ _ _ _ _ p q = (both p q, refl)

pub table_len : One memory.specs.contracts.table_len.ended memory.proofs.table_len.Reads.Learnt
table_len _ _ _ _ _ _ p q = (both p q, refl)

pub store : One memory.specs.contracts.store.ended memory.proofs.store.Reads.Learnt
store _ _ _ _ _ _ p q = (refl, first (both p q))
