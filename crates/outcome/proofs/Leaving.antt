-- Each public function of `leaving` has one outcome at most.
use mathlib.Core.Path.{refl}
use Rattle.outcome.specs.One.{One}
use Rattle.outcome.proofs.Equations.{both}
use Rattle.leaving as leaving

pub s5 : One leaving.specs.contracts.s5.ended leaving.proofs.s5.Reads.Learnt
s5 _ _ _ _ _ _ p q = (both p q, refl)

pub s6 : One leaving.specs.contracts.s6.ended leaving.proofs.s6.Reads.Learnt
s6 _ _ _ _ _ _ p q = (both p q, refl)

pub s7 : One leaving.specs.contracts.s7.ended leaving.proofs.s7.Reads.Learnt
s7 _ _ _ _ _ _ p q = (both p q, refl)

pub s8 : One leaving.specs.contracts.s8.ended leaving.proofs.s8.Reads.Learnt
s8 _ _ _ _ _ _ p q = (both p q, refl)
