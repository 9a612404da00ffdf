-- Each public function of `batch` has one outcome at most.
use mathlib.Core.Path.{refl}
use Rattle.outcome.specs.One.{One}
use Rattle.outcome.proofs.Equations.{both}
use Rattle.batch as batch

pub to_block_end : One batch.specs.contracts.to_block_end.ended batch.proofs.to_block_end.Reads.Learnt
to_block_end _ _ _ _ _ _ p q = (both p q, refl)

pub batch_advance : One batch.specs.contracts.batch_advance.ended batch.proofs.batch_advance.Reads.Learnt
batch_advance _ _ _ _ _ _ p q = (both p q, refl)
