-- What one line keeps: the shared conjuncts, its own thread's next line, and what the others lean on.
use Rattle.std.specs.Prelude.{ℕ, ◌≡◌, List}
use Rattle.memory.specs.Touch.{after}
use Rattle.state.specs.Move.{Move, Step}
use Rattle.invariant.specs.Ghost.{Ghost}
use Rattle.invariant.specs.State.{State}
use Rattle.invariant.specs.Shared.{Shared}
use Rattle.invariant.specs.Lines.{CallOk, ThreadOk}
use Rattle.invariant.specs.Rely.{Rely}

-- the state after a line, with the ghost that is chosen for it
abbrev pub moved : State → Move → Ghost → State
moved s move g = record { queue = move.made.queue; pool = after s.pool move.touch; ghost = g }

pub record Kept (s : State) (i count : ℕ) (taken : List ℕ) (move : Move) : Type 0 where
  pub ghost : Ghost
  pub shared : Shared (moved s move ghost)
  pub call : CallOk (moved s move ghost) i count taken move.made.call
  pub others : (j : ℕ) → (j ≡ i → ⊥) → Rely j s (moved s move ghost)

-- the same of a whole step
abbrev pub stepped : State → Step → Ghost → State
stepped s step g = record { queue = step.stepped.queue; pool = after s.pool step.touch; ghost = g }

pub record StepKept (s : State) (i : ℕ) (step : Step) : Type 0 where
  pub ghost : Ghost
  pub shared : Shared (stepped s step ghost)
  pub thread : ThreadOk (stepped s step ghost) i step.stepped.thread
  pub others : (j : ℕ) → (j ≡ i → ⊥) → Rely j s (stepped s step ghost)
