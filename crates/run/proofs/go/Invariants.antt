-- What a loop keeps, or how it ends, is said here: the check finds no such thing by itself.
-- What is left of the budget runs from where the thread stands now.
use Rattle.machine.specs.Step.{run_from}
use Rattle.run.proofs.Going.{Going}
use Rattle.run.proofs.go.Given as goal

abbrev pub invariant-loop-used : goal.invariant-loop-used
invariant-loop-used l = Going (run_from l.budget l.fn.q l.fn.pool l.fn.thread) l.budget l.used l.q l.pool l.thread
