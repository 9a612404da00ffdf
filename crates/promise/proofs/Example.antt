-- The notes of document 01's whole example, a push and two steals on a fresh queue of 1 thread, 2 blocks and L 1.
use mathlib.Core.Path.{◌≡◌, refl}
use mathlib.Core.List.{List, [], ◌∷◌}
use Rattle.memory.specs.Touch.{cleared}
use Rattle.memory.specs.Pool.{freed, free_from, pick}
use Rattle.ring.specs.Ring.{entered}
use Rattle.ring.specs.declared.Flavor.TheVariants.{Fifo}
use Rattle.state.specs.List.{setup_good, nexts_good, shared_good, push_good, steal_good, record_good}
use Rattle.state.specs.declared.Kind.TheVariants.{Steal}
use Rattle.state.specs.declared.Answer.TheVariants.{Pushed, Task, Empty}
use Rattle.machine.specs.Push.{p2, p3, p4, p9}
use Rattle.machine.specs.Steal.{s2, s3, s4, s9, s10, s11}
use Rattle.machine.specs.Step.{step_of, run_from}
use Rattle.machine.specs.Entry.{tested, run_entry, begin_entry}
use Rattle.machine.specs.declared.Request.{Request}
use Rattle.history.specs.Board.{Ask, begins, runs, start}
use Rattle.history.specs.Log.{pushes, claims, hands, ends, notes_of}
use Rattle.history.specs.History.{run_notes, notes}

abbrev asks : List Ask
asks = runs 0 100 ∷ begins 0 Request.Steal ∷ runs 0 100 ∷ begins 0 Request.Steal ∷ runs 0 100 ∷ begins 0 (Request.Push 17) ∷ []

pub noted : notes (start (Fifo ∷ []) 2 1) asks
    ≡ pushes (record { ticket = 0; token = 17 })
    ∷ ends (record { thread = 0; answer = Pushed })
    ∷ claims (record { thread = 0; first = 0; count = 1 })
    ∷ hands (record { thread = 0; kind = Steal; before = []; after = [] })
    ∷ ends (record { thread = 0; answer = Task 17 })
    ∷ ends (record { thread = 0; answer = Empty })
    ∷ []
unfolding cleared freed free_from pick entered setup_good nexts_good shared_good push_good steal_good record_good p2 p3 p4 p9 s2 s3 s4 s9 s10 s11 step_of run_from tested run_entry begin_entry notes_of run_notes
noted = refl
