-- Nothing cites this now; it stands, since docs/PORT.md names it.
-- The records that a walk by hand over the table would read and pass, as plain data (`tables`' `Data`).
use Rattle.tables.proofs.Walk.{Data, struct_data}
use Rattle.state.specs.contracts.Queue as Queue
use Rattle.state.proofs.Queue.TheLaws as Queue'
use Rattle.state.specs.contracts.Thread as Thread
use Rattle.state.proofs.Thread.TheLaws as Thread'

abbrev pub queue_data : Data Queue.the_row Queue'.mir
queue_data = struct_data Queue.the_type Queue'.the_laws Queue'.the_plain Queue'.the_copy Queue'.lowers

abbrev pub thread_data : Data Thread.the_row Thread'.mir
thread_data = struct_data Thread.the_type Thread'.the_laws Thread'.the_plain Thread'.the_copy Thread'.lowers
