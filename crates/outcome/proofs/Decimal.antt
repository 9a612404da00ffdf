-- Each public function of `decimal` has one outcome at most.
use mathlib.Core.Path.{refl}
use Rattle.outcome.specs.One.{One}
use Rattle.outcome.proofs.Equations.{both}
use Rattle.decimal as decimal

pub read_number : One decimal.specs.contracts.read_number.ended decimal.proofs.read_number.Reads.Learnt
read_number _ _ _ _ _ _ p q = (both p q, refl)
