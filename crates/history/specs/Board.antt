-- The board: the queue's shared words, the lent words, and a record for each thread; and what may be asked of it.
use Rattle.std.specs.Prelude.{ℕ, List, map, length, get_or, set}
use Rattle.memory.specs.Pool.{fresh, pool_len}
use Rattle.ring.specs.declared.Flavor.{Flavor}
use Rattle.ring.specs.declared.Flavor.TheVariants.{Fifo}
use Rattle.state.specs.declared.Queue.{Queue}
use Rattle.state.specs.declared.Thread.{Thread}
use Rattle.machine.specs.declared.Request.{Request}
use Rattle.machine.specs.Step.{After}
use Rattle.machine.specs.Entry.{at_start, idle_thread, step_entry, run_entry, begin_entry, pop_entry}

pub record Board : Type 0 where
  pub queue : Queue
  pub pool : List ℕ
  pub threads : List Thread

-- a fresh start: what setup leaves, and one idle thread for each flavour asked for
abbrev pub start : List Flavor → ℕ → ℕ → Board
start flavors blocks ceiling =
    record {
      queue = at_start (length flavors) blocks ceiling;
      pool = fresh (pool_len (length flavors) blocks) blocks;
      threads = map idle_thread flavors;
    }

-- the record of thread n; past the last thread an idle one, which every entry refuses by its number
abbrev pub thread_at : Board → ℕ → Thread
thread_at w n = get_or w.threads n (idle_thread Fifo)

-- what may be asked: the entries, of any thread number
pub data Ask : Type 0 where
  begins : (thread : ℕ) (what : Request) → Ask
  pops : (thread : ℕ) → Ask
  steps : (thread : ℕ) → Ask
  runs : (thread budget : ℕ) → Ask

-- the board after an entry: each is the very definition that the entry's contract cites
abbrev pub ran : Board → ℕ → After → Board
ran w n a = record { queue = a.ran.queue; pool = a.pool; threads = set w.threads n a.ran.thread }

abbrev pub with_thread : Board → ℕ → Thread → Board
with_thread w n t = record { queue = w.queue; pool = w.pool; threads = set w.threads n t }

abbrev pub asked : Board → Ask → Board
asked w (begins n what) = with_thread w n (begin_entry w.queue w.pool (thread_at w n) n what).thread
asked w (pops n) = with_thread w n (pop_entry w.queue w.pool (thread_at w n) n).thread
asked w (steps n) = ran w n (step_entry w.queue w.pool (thread_at w n) n)
asked w (runs n budget) = ran w n (run_entry w.queue w.pool (thread_at w n) n budget)
