-- Each public function of `parse` has one outcome at most.
use mathlib.Core.Path.{refl}
use Rattle.outcome.specs.One.{One}
use Rattle.outcome.proofs.Equations.{both}
use Rattle.parse as parse

pub parse_parse : One parse.specs.contracts.parse.ended parse.proofs.parse.Reads.Learnt
parse_parse _ _ _ _ _ _ p q = (both p q, refl)
