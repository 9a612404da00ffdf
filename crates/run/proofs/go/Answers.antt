-- Without these answers their goals stay open, or are open to a check at half its limits.
use Rattle.std.proofs.Common.{◌≡◌, refl, sym, ◌∙◌, arith}
use Rattle.machine.specs.TestLaws.{good-shared, good-tail}
use Rattle.run.proofs.Going.{used_up, waited-out, stopped, goes_on}
use Rattle.run.proofs.go.Goals as goal

pub returns-then-waits : goal.returns-then-waits
returns-then-waits c =
    rw (waited-out _ _ _ _ _ _ c.loop-used.invariant _ (sym c.wait_of-wait.ensures) (sym c.waits.ensures ∙ c.if-waits.true))
    (record { value = rw c.waited_call-call.ensures; pool_after = refl })

pub advance-stepped-requires-clause-raw_bound : goal.advance-stepped-requires-clause-raw_bound
advance-stepped-requires-clause-raw_bound c =
    let g = c.loop-used.invariant in
    good-tail _ _ g.setup (good-shared _ _ _ g.state)

pub returns-then-not-goes_on : goal.returns-then-not-goes_on
returns-then-not-goes_on c =
    let made = c.advance-stepped.ensures in
    let test = sym c.goes_on.ensures ∙ c.if-not-goes_on.true in
    rw (stopped _ _ _ _ _ _ c.loop-used.invariant c.loop-used-test.true _ _ made.value made.pool_after test)
    (record { value = refl; pool_after = refl })

pub loop-used-preserved : goal.loop-used-preserved
loop-used-preserved c =
    let made = c.advance-stepped.ensures in
    let test = sym c.goes_on.ensures ∙ c.if-not-goes_on.false in
    goes_on _ _ _ _ _ _ c.loop-used.invariant c.loop-used-test.true _ _ made.value made.pool_after test

pub returns : goal.returns
returns c =
    let all : c.loop-used.used ≡ c.args.budget = omega (arith, c.loop-used.invariant.within) in
    rw (used_up _ _ _ _ _ _ c.loop-used.invariant c.loop-used-test.false, all)
    (record { value = refl; pool_after = refl })
