-- A history: a fresh start, then any entries on any threads in any order, with what the observer noted.
use Rattle.std.specs.Prelude.{ℕ, zero, suc, cond, List, [], ◌∷◌, ◌++◌, Result, Ok, Err}
use Rattle.state.specs.declared.Refusal.{Refusal}
use Rattle.memory.specs.Touch.{after}
use Rattle.state.specs.List.{state_good}
use Rattle.state.specs.declared.Queue.{Queue}
use Rattle.state.specs.declared.Thread.{Thread}
use Rattle.machine.specs.Step.{step_of, is_idle, is_open}
use Rattle.machine.specs.Entry.{tested}
use Rattle.history.specs.Board.{Board, Ask, begins, pops, steps, runs, thread_at, asked}
use Rattle.history.specs.Log.{Note, notes_of}

-- the notes of a run: those of each of its steps
unfoldable pub run_notes : ℕ → Queue → List ℕ → ℕ → Thread → List Note
run_notes zero q m n t = []
run_notes (suc budget) q m n t =
    notes_of q n t (step_of q m t).stepped
    ++ cond (is_open (step_of q m t).stepped.answer)
    (cond (state_good (step_of q m t).stepped.queue (after m (step_of q m t).touch) (step_of q m t).stepped.thread)
    (run_notes budget (step_of q m t).stepped.queue (after m (step_of q m t).touch) n (step_of q m t).stepped.thread)
    [])
    []

-- a refused entry makes no step, and so no note
abbrev pub unless_refused : Result Unit Refusal → List Note → List Note
unless_refused (Ok tt) l = l
unless_refused (Err r) l = []

abbrev pub step_notes : Board → ℕ → ℕ → List Note
step_notes w n budget =
    unless_refused (tested w.queue w.pool (thread_at w n) n)
    (cond (is_idle (thread_at w n).call) [] (run_notes budget w.queue w.pool n (thread_at w n)))

abbrev pub asked_notes : Board → Ask → List Note
asked_notes w (begins n what) = []
asked_notes w (pops n) = []
asked_notes w (steps n) = step_notes w n 1
asked_notes w (runs n budget) = step_notes w n budget

-- the board and the notes after some asks, the last ask first
abbrev pub board : Board → List Ask → Board
board w [] = w
board w (ask ∷ before) = asked (board w before) ask

abbrev pub notes : Board → List Ask → List Note
notes w [] = []
notes w (ask ∷ before) = notes w before ++ asked_notes (board w before) ask
