-- All that holds of a board of a history: a ghost, the shared conjuncts, every thread's line, and what is owed.
use Rattle.std.specs.Prelude.{ℕ}
use Rattle.invariant.specs.Ghost.{Ghost}
use Rattle.invariant.specs.State.{State}
use Rattle.invariant.specs.Shared.{Shared}
use Rattle.invariant.specs.Lines.{ThreadOk}
use Rattle.history.specs.Board.{Board, thread_at}
use Rattle.settle.specs.Owed.{Owed}

abbrev pub state_of : Board → Ghost → State
state_of w g = record { queue = w.queue; pool = w.pool; ghost = g }

pub record Whole (w : Board) : Type 0 where
  pub ghost : Ghost
  pub shared : Shared (state_of w ghost)
  pub threads : (n : ℕ) → ThreadOk (state_of w ghost) n (thread_at w n)
  pub owed : Owed (state_of w ghost) (λ n. (thread_at w n).call)
