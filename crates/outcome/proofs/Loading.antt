-- Each public function of `loading` has one outcome at most.
use mathlib.Core.Path.{refl}
use Rattle.outcome.specs.One.{One}
use Rattle.outcome.proofs.Equations.{both}
use Rattle.loading as loading

pub p1 : One loading.specs.contracts.p1.ended loading.proofs.p1.Reads.Learnt
p1 _ _ _ _ _ _ p q = (both p q, refl)

pub p2 : One loading.specs.contracts.p2.ended loading.proofs.p2.Reads.Learnt
p2 _ _ _ _ _ _ p q = (both p q, refl)
