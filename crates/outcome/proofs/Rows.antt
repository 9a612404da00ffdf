-- Each public function of `rows` has one outcome at most. `says` is what the contract of `all_good` says, and `says_is` has that
-- it says just that, in every model.
use mathlib.Core.Path.{◌≡◌, refl}
use seplogic.Ra.Ura.{Ura}
use prog.Memory.{Memory}
use prog.Routine.{Routine}
use types.Logic.{Logic}
use base.Logic.{SProp}
use contract.Lifetimes.{Lfts}
use contract.Monad.{Fun, fact}
use denote.Triple.Clauses.{AtExit}
use denote.Triple.Entry.{Args, Res}
use lib.ListN.{drop}
use Rattle.outcome.specs.One.{One, Says}
use Rattle.outcome.proofs.Equations.{both}
use Rattle.rows.specs.Rows.{all_good as good_rows}
use Rattle.rows as rows
use Rattle.rows.specs.contracts.all_good as promised

pub sizes_good : One rows.specs.contracts.sizes_good.ended rows.proofs.sizes_good.Reads.Learnt
sizes_good _ _ _ _ _ _ p q = (both p q, refl)

pub shared_good : One rows.specs.contracts.shared_good.ended rows.proofs.shared_good.Reads.Learnt
shared_good _ _ _ _ _ _ p q = (both p q, refl)

pub has_thread : One rows.specs.contracts.has_thread.ended rows.proofs.has_thread.Reads.Learnt
has_thread _ _ _ _ _ _ p q = (both p q, refl)

abbrev says : Says promised.ended
says κs a r e = r ≡ good_rows a.0 (drop a.1.1.0 a.1.0.now)

pub says_is : {M : Type 1} {𝓤 : Ura M} (𝓛 : Logic 𝓤) (mem : Memory → SProp 𝓤) (run : Routine → Fun 𝓤)
    (κs : Lfts 1) (a : Args promised.signature κs) (r : Res promised.signature κs) (e : AtExit promised.ended κs) →
    (promised.clauses 𝓛 mem run κs a).ensures tt r e ≡ fact 𝓤 (says κs a r e)
says_is 𝓛 mem run κs a r e = refl

pub all_good : One rows.specs.contracts.all_good.ended rows.proofs.all_good.Reads.Learnt
all_good _ _ _ _ _ _ p q = (both p q, refl)
