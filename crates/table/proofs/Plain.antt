-- Nothing cites this now; it stands, since docs/PORT.md names it.
-- The records that a walk by hand through the table's entry would read, write, pass and return, as plain data (`tables`' `Data`).
use Rattle.tables.proofs.Walk.{Data, Ok, struct_data, enum_data}
use Rattle.tables.proofs.Fields.{variant_made}
use Rattle.state.specs.contracts.Refusal as Refusal
use Rattle.state.proofs.Refusal.TheLaws as Refusal'
use Rattle.state.specs.declared.Refusal.TheVariants.{BadSetup, BadState, NoThread}
use Rattle.machine.specs.contracts.Ran as Ran
use Rattle.machine.proofs.Ran.TheLaws as Ran'
use Rattle.tabled.specs.contracts.TableStep as TableStep
use Rattle.tabled.proofs.TableStep.TheLaws as TableStep'

abbrev pub refusal_data : Data Refusal.the_row Refusal'.mir
refusal_data = enum_data Refusal.the_type tt Refusal'.the_laws Refusal'.the_plain Refusal'.the_copy Refusal'.lowers

abbrev pub ran_data : Data Ran.the_row Ran'.mir
ran_data = struct_data Ran.the_type Ran'.the_laws Ran'.the_plain Ran'.the_copy Ran'.lowers

abbrev pub table-step_data : Data TableStep.the_row TableStep'.mir
table-step_data = struct_data TableStep.the_type TableStep'.the_laws TableStep'.the_plain TableStep'.the_copy TableStep'.lowers

-- the refusals that the entry makes itself
pub bad-setup-ok : Ok refusal_data BadSetup
bad-setup-ok = variant_made Refusal.enum Refusal'.the_laws BadSetup tt

pub bad-state-ok : Ok refusal_data BadState
bad-state-ok = variant_made Refusal.enum Refusal'.the_laws BadState tt

pub no-thread-ok : Ok refusal_data NoThread
no-thread-ok = variant_made Refusal.enum Refusal'.the_laws NoThread tt
