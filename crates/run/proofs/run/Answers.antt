-- Without these answers their goals stay open, or are open to a check at half its limits.
use Rattle.std.proofs.Common.{refl, sym}
use Rattle.entry.specs.Standing.{is_open, run-not_open}
use Rattle.machine.specs.TestLaws.{passed}
use Rattle.run.proofs.Going.{run-made}
use Rattle.run.proofs.run.Goals as goal

pub returns-in-Err : goal.returns-in-Err
returns-in-Err c =
    rw (run-not_open _ _ _ _ _ (sym c.in-Err.ensures))
    (record { value = c.refused.ensures; pool_after = refl })

pub go-requires : goal.go-requires
go-requires c =
    let open_call = is_open _ _ _ _ (sym c.in_default.ensures) in
    let p = passed _ _ _ _ open_call.passes in
    record { pool_value = p.setup; thread_value = p.state }

pub returns : goal.returns
returns c =
    let open_call = is_open _ _ _ _ (sym c.in_default.ensures) in
    rw (run-made _ _ _ _ _ open_call.passes open_call.begun) c.go.ensures
