-- Each public function of `claims` has one outcome at most.
use mathlib.Core.Path.{refl}
use Rattle.outcome.specs.One.{One}
use Rattle.outcome.proofs.Equations.{both}
use Rattle.claims as claims

pub s1 : One claims.specs.contracts.s1.ended claims.proofs.s1.Reads.Learnt
s1 _ _ _ _ _ _ p q = (both p q, refl)

pub s2 : One claims.specs.contracts.s2.ended claims.proofs.s2.Reads.Learnt
s2 _ _ _ _ _ _ p q = (both p q, refl)

pub s3 : One claims.specs.contracts.s3.ended claims.proofs.s3.Reads.Learnt
s3 _ _ _ _ _ _ p q = (both p q, refl)

pub s4 : One claims.specs.contracts.s4.ended claims.proofs.s4.Reads.Learnt
s4 _ _ _ _ _ _ p q = (both p q, refl)
