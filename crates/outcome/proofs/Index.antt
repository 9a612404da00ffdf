-- Each public function of `index` has one outcome at most.
use Prim.Native.Nat.{ℕ}
use mathlib.Core.Path.{ap, refl}
use Rattle.outcome.specs.One.{One}
use Rattle.outcome.proofs.Equations.{both}
use Rattle.index.specs.declared.Index.{Index}
use Rattle.index as index

abbrev made : ℕ → Index
made n = record { raw = n }

pub position : One index.specs.contracts.Index.position.ended index.proofs.Index.position.Reads.Learnt
position _ _ _ _ _ _ p q = (both p q, refl)

pub lap : One index.specs.contracts.Index.lap.ended index.proofs.Index.lap.Reads.Learnt
lap _ _ _ _ _ _ p q = (both p q, refl)

pub offset : One index.specs.contracts.Index.offset.ended index.proofs.Index.offset.Reads.Learnt
offset _ _ _ _ _ _ p q = (both p q, refl)

pub has_next : One index.specs.contracts.Index.has_next.ended index.proofs.Index.has_next.Reads.Learnt
has_next _ _ _ _ _ _ p q = (both p q, refl)

pub advance : One index.specs.contracts.Index.advance.ended index.proofs.Index.advance.Reads.Learnt
advance _ _ _ _ _ _ p q = (ap made (both p q), refl)

pub with_next : One index.specs.contracts.Index.with_next.ended index.proofs.Index.with_next.Reads.Learnt
with_next _ _ _ _ _ _ p q = (ap made (both p q), refl)

pub leave_lap : One index.specs.contracts.Index.leave_lap.ended index.proofs.Index.leave_lap.Reads.Learnt
leave_lap _ _ _ _ _ _ p q = (ap made (both p q), refl)
