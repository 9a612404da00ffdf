-- One step of a thread's open call, by the line where it stands; and a run of them.
use Rattle.std.specs.Prelude.{ℕ, zero, suc, ◌+◌, Bool, true, false, cond, List}
use Rattle.memory.specs.Touch.{leaves, after}
use Rattle.state.specs.Move.{Step, settled}
use Rattle.state.specs.List.{state_good}
use Rattle.state.specs.declared.Queue.{Queue}
use Rattle.state.specs.declared.Call.{Call}
use Rattle.state.specs.declared.Call.TheVariants.{Idle, Push, Steal, Length, Empty}
use Rattle.state.specs.declared.Answer.{Answer}
use Rattle.state.specs.declared.Answer.TheVariants.{Open, Pushed, Task, Moved, Retry, Len, Yes, No, Refused}
use Rattle.state.specs.declared.Thread.{Thread}
use Rattle.machine.specs.Push.{push}
use Rattle.machine.specs.Steal.{steal}
use Rattle.machine.specs.Count.{length, empty}
use Rattle.machine.specs.declared.Ran.{Ran}

abbrev pub is_idle : Call → Bool
is_idle Idle = true
is_idle (Push line) = false
is_idle (Steal line) = false
is_idle (Length line) = false
is_idle (Empty line) = false

abbrev pub is_open : Answer → Bool
is_open Open = true
is_open Pushed = false
is_open (Task token) = false
is_open Moved = false
is_open Rattle.state.specs.declared.Answer.TheVariants.Empty = false
is_open Retry = false
is_open (Len n) = false
is_open Yes = false
is_open No = false
is_open (Refused r) = false

-- the line of the step table at which the call stands; with no call open nothing is done, and nobody asks
abbrev pub step_at : Queue → List ℕ → Thread → Call → Step
step_at q m t Idle = record { stepped = record { queue = q; thread = t; answer = Open }; touch = leaves }
step_at q m t (Push line) = settled t (push q m line)
step_at q m t (Steal line) = steal q m t line
step_at q m t (Length line) = settled t (length q line)
step_at q m t (Empty line) = settled t (empty q line)

unfoldable pub step_of : Queue → List ℕ → Thread → Step
step_of q m t = step_at q m t t.call

-- what an entry that may step gives back, and the lent words at its exit
pub record After : Type 0 where
  pub ran : Ran
  pub pool : List ℕ

abbrev pub done : Queue → List ℕ → Thread → Answer → ℕ → After
done q m t answer steps = record { ran = record { queue = q; thread = t; answer = answer; steps = steps }; pool = m }

-- one step made
abbrev pub once : List ℕ → Step → After
once m s = done s.stepped.queue (after m s.touch) s.stepped.thread s.stepped.answer 1

-- one step more than a run made
abbrev pub counted : After → After
counted a =
    record {
      ran =
          record { queue = a.ran.queue; thread = a.ran.thread; answer = a.ran.answer; steps = a.ran.steps + 1 };
      pool = a.pool;
    }

-- Steps the thread until its call ends or the budget is used, or its own step left a state on the list:
-- it then answers as if the budget were used.
unfoldable pub run_from : ℕ → Queue → List ℕ → Thread → After
run_from zero q m t = done q m t Open 0
run_from (suc budget) q m t =
    cond (is_open (step_of q m t).stepped.answer)
    (cond (state_good (step_of q m t).stepped.queue (after m (step_of q m t).touch) (step_of q m t).stepped.thread)
    (counted (run_from budget (step_of q m t).stepped.queue (after m (step_of q m t).touch) (step_of q m t).stepped.thread))
    (once m (step_of q m t)))
    (once m (step_of q m t))
