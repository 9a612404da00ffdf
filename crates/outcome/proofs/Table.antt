-- The public function of `table` has one outcome at most. `says` is what its contract says, and `says_is` has that it says just
-- that, in every model.
use mathlib.Core.Path.{◌≡◌, refl}
use seplogic.Ra.Ura.{Ura}
use prog.Memory.{Memory}
use prog.Routine.{Routine}
use types.Logic.{Logic}
use base.Logic.{SProp}
use contract.Lifetimes.{Lfts}
use contract.Monad.{Fun, fact}
use denote.Triple.Clauses.{AtExit}
use denote.Triple.Entry.{Args, Res}
use Rattle.outcome.specs.One.{One, Says}
use Rattle.outcome.proofs.Equations.{both, pair, first, later}
use Rattle.tabled.specs.Table.{TableAfter, table_entry}
use Rattle.table as table
use Rattle.table.specs.contracts.step_table as promised

abbrev entry : (κs : Lfts 2) → Args promised.signature κs → TableAfter
entry κs a = table_entry a.0 a.1.0.now a.1.1.0.now a.1.1.1.0

abbrev says : Says promised.ended
says κs a r e = (r ≡ (entry κs a).stepped) × ((e.1.0.now ≡ (entry κs a).table) × (e.1.1.0.now ≡ (entry κs a).pool))

pub says_is : {M : Type 1} {𝓤 : Ura M} (𝓛 : Logic 𝓤) (mem : Memory → SProp 𝓤) (run : Routine → Fun 𝓤)
    (κs : Lfts 2) (a : Args promised.signature κs) (r : Res promised.signature κs) (e : AtExit promised.ended κs) →
    (promised.clauses 𝓛 mem run κs a).ensures tt r e ≡ fact 𝓤 (says κs a r e)
says_is 𝓛 mem run κs a r e = refl

pub step_table : One table.specs.contracts.step_table.ended table.proofs.step_table.Reads.Learnt
step_table _ _ _ _ _ _ p q = (both p.0 q.0, later (pair (both p.1.0 q.1.0) (first (both p.1.1 q.1.1))))
