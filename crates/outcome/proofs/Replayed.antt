-- What `replayed` converts has one outcome.
use mathlib.Core.Path.{refl}
use Rattle.outcome.specs.One.{One}
use Rattle.outcome.proofs.Equations.{both}
use Rattle.replayed as replayed

pub said_from_refusal : One replayed.specs.contracts.SaidFromRefusal.from.ended replayed.proofs.SaidFromRefusal.from.Reads.Learnt
said_from_refusal _ _ _ _ _ _ p q = (both p q, refl)
