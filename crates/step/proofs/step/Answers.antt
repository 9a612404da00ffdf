-- Without these answers their goals stay open, or are open to a check at half its limits.
use Rattle.std.proofs.Common.{refl, sym}
use Rattle.entry.specs.Standing.{is_open, step-not_open}
use Rattle.machine.specs.EntryLaws.{step-made}
use Rattle.machine.specs.TestLaws.{passed, good_record, good-shared, good-tail}
use Rattle.step.proofs.step.Goals as goal

pub returns-in-Err : goal.returns-in-Err
returns-in-Err c =
    rw (step-not_open _ _ _ _ (sym c.in-Err.ensures))
    (record { value = c.refused.ensures; pool_after = refl })

-- what the step asks is of the list, which the tests that passed have looked through
pub advance-requires : goal.advance-requires
advance-requires c =
    let open_call = is_open _ _ _ _ (sym c.in_default.ensures) in
    let p = passed _ _ _ _ open_call.passes in
    record {
      thread_value = good_record _ _ _ p.state;
      raw_bound = good-tail _ _ p.setup (good-shared _ _ _ p.state);
    }

pub returns : goal.returns
returns c =
    let open_call = is_open _ _ _ _ (sym c.in_default.ensures) in
    let made = c.advance.ensures in
    rw (step-made _ _ _ _ open_call.passes open_call.begun)
    (record { value = rw (c.counted.ensures, made.value); pool_after = made.pool_after })
