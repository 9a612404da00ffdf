-- Each public function of `say` has one outcome at most: it answers nothing, and is lent nothing to change.
use mathlib.Core.Path.{refl}
use Rattle.outcome.specs.One.{One}
use Rattle.say as say

pub text : One say.specs.contracts.text.ended say.proofs.text.Reads.Learnt
text _ _ _ _ _ _ p q = (refl, refl)
