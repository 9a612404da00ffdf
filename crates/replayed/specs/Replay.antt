-- The whole replay, from the input's bytes to the output's bytes: a machine that takes one byte after another, so
-- that no cut of the text can matter.
use Rattle.std.specs.Prelude.{ℕ, ◌+◌, min, cond, List, [], ◌∷◌, ◌++◌, length, get_or, set, take, drop, replicate, ltb, leb, eqb, Option, Some, None}
use Rattle.ring.specs.declared.Flavor.TheVariants.{Fifo}
use Rattle.memory.specs.Pool.{fresh, pool_len}
use Rattle.state.specs.List.{counts_good}
use Rattle.state.specs.declared.Queue.{Queue}
use Rattle.state.specs.declared.Thread.{Thread}
use Rattle.machine.specs.Entry.{at_start, idle_thread}
use Rattle.machine.specs.declared.Request.{Request}
use Rattle.text.specs.Line.{parsed}
use Rattle.text.specs.Print.{bad_bytes, refused_bytes, end_bytes, queue_bytes}
use Rattle.text.specs.declared.Command.{Command}
use Rattle.replayed.specs.declared.Stage.{Stage}
use Rattle.replayed.specs.declared.Stage.TheVariants.{First, Open, Over}
use Rattle.replayed.specs.declared.Replay.{Replay}
use Rattle.replayed.specs.Command.{Ordered, begins, pops, steps_one, runs, thread_number, order_of, said_bytes}

-- line numbers and the count of steps stop at the largest 64-bit number
abbrev pub most : ℕ
most = 18446744073709551615

-- before anything was read: line 1 is to come
abbrev pub at_first : Replay
at_first =
    record {
      queue = at_start 0 0 0;
      threads = replicate 8 (idle_thread Fifo);
      line = replicate 80 0;
      held = 0;
      number = 1;
      steps = 0;
      stage = First;
    }

-- the replay and the lent words after some input, and the bytes written for it
pub record Told : Type 0 where
  pub replay : Replay
  pub pool : List ℕ
  pub out : List ℕ

-- nothing more is read or run
abbrev pub over : Replay → Replay
over r =
    record {
      queue = r.queue;
      threads = r.threads;
      line = r.line;
      held = 0;
      number = r.number;
      steps = r.steps;
      stage = Over;
    }

-- a malformed line ends the replay with its number and `bad`, then the end line
abbrev pub bad : Replay → List ℕ → Told
bad r m = record { replay = over r; pool = m; out = bad_bytes r.number ++ end_bytes r.steps }

-- the next line is to come
abbrev pub next_line : Replay → Replay
next_line r =
    record {
      queue = r.queue;
      threads = r.threads;
      line = r.line;
      held = 0;
      number = min (r.number + 1) most;
      steps = r.steps;
      stage = Open;
    }

-- line 1, well-formed: counts out of range are echoed and refused; else the queue is set up, all rings Fifo. The lent
-- words are as many as the largest pool needs, and the queue uses the first of them.
abbrev pub pool_of : Replay → List ℕ → List ℕ
pool_of r m = take (pool_len r.queue.threads r.queue.blocks) m

abbrev pub pool_back : List ℕ → List ℕ → List ℕ
pool_back p m = p ++ drop (length p) m

abbrev pub opens : Replay → Queue → Replay
opens r q =
    record {
      queue = q;
      threads = replicate 8 (idle_thread Fifo);
      line = r.line;
      held = 0;
      number = 2;
      steps = 0;
      stage = Open;
    }

abbrev pub echo : ℕ → ℕ → ℕ → List ℕ
echo threads blocks ceiling = queue_bytes threads blocks ceiling ++ (10 ∷ [])

abbrev pub queue_line : Replay → List ℕ → ℕ → ℕ → ℕ → Told
queue_line r m threads blocks ceiling =
    cond (counts_good threads blocks ceiling)
    (record {
      replay = opens r (at_start threads blocks ceiling);
      pool = pool_back (fresh (pool_len threads blocks) blocks) m;
      out = echo threads blocks ceiling;
    })
    (record { replay = over r; pool = m; out = echo threads blocks ceiling ++ (refused_bytes 1 1 ++ end_bytes 0) })

abbrev pub first_command : Replay → List ℕ → Command → Told
first_command r m (Command.Queue threads blocks ceiling) = queue_line r m threads blocks ceiling
first_command r m (Command.Push n token) = bad r m
first_command r m (Command.Steal n) = bad r m
first_command r m (Command.Batch n limit) = bad r m
first_command r m (Command.Take n limit) = bad r m
first_command r m (Command.Len n) = bad r m
first_command r m (Command.Empty n) = bad r m
first_command r m (Command.Pop n) = bad r m
first_command r m (Command.Step n) = bad r m
first_command r m (Command.Run n budget) = bad r m

-- a later line: the record of the thread is taken out, and stored back. A number past the eighth names no record: the
-- first is handed over, and the entry refuses the number.
abbrev pub place_of : ℕ → ℕ
place_of n = cond (ltb n 8) n 0

abbrev pub thread_of : Replay → ℕ → Thread
thread_of r n = get_or r.threads (place_of n) (idle_thread Fifo)

abbrev pub ordered : Replay → List ℕ → ℕ → Ordered → Told
ordered r m n o =
    record {
      replay =
          next_line
          (record {
            queue = o.done.queue;
            threads = set r.threads (place_of n) o.done.thread;
            line = r.line;
            held = r.held;
            number = r.number;
            steps = min (r.steps + o.done.steps) most;
            stage = r.stage;
          });
      pool = pool_back o.pool m;
      out = said_bytes r.number n o.done.said;
    }

-- what a command of a thread makes: of that thread's record, and of the words that the queue uses
abbrev pub ordered_by : Replay → List ℕ → Command → Told
ordered_by r m c = ordered r m (thread_number c) (order_of r.queue (pool_of r m) (thread_of r (thread_number c)) c)

abbrev pub later_command : Replay → List ℕ → Command → Told
later_command r m (Command.Queue threads blocks ceiling) = bad r m
later_command r m (Command.Push n token) = ordered r m n (begins r.queue (pool_of r m) (thread_of r n) n (Request.Push token))
later_command r m (Command.Steal n) = ordered r m n (begins r.queue (pool_of r m) (thread_of r n) n Request.Steal)
later_command r m (Command.Batch n limit) = ordered r m n (begins r.queue (pool_of r m) (thread_of r n) n (Request.Batch limit))
later_command r m (Command.Take n limit) = ordered r m n (begins r.queue (pool_of r m) (thread_of r n) n (Request.Take limit))
later_command r m (Command.Len n) = ordered r m n (begins r.queue (pool_of r m) (thread_of r n) n Request.Len)
later_command r m (Command.Empty n) = ordered r m n (begins r.queue (pool_of r m) (thread_of r n) n Request.Empty)
later_command r m (Command.Pop n) = ordered r m n (pops r.queue (pool_of r m) (thread_of r n) n)
later_command r m (Command.Step n) = ordered r m n (steps_one r.queue (pool_of r m) (thread_of r n) n)
later_command r m (Command.Run n budget) = ordered r m n (runs r.queue (pool_of r m) (thread_of r n) n budget)

abbrev pub first_line : Replay → List ℕ → Option Command → Told
first_line r m (Some c) = first_command r m c
first_line r m None = bad r m

abbrev pub later_line : Replay → List ℕ → Option Command → Told
later_line r m (Some c) = later_command r m c
later_line r m None = bad r m

-- the line that was held, of at most 80 bytes
abbrev pub line_as : List ℕ → ℕ → Option Command
line_as line held = cond (leb held 80) (parsed (take held line)) None

abbrev pub line_of : Replay → Option Command
line_of r = line_as r.line r.held

-- a line feed
abbrev pub line_feed : Stage → Replay → List ℕ → Told
line_feed First r m = first_line r m (line_of r)
line_feed Open r m = later_line r m (line_of r)
line_feed Over r m = record { replay = r; pool = m; out = [] }

-- any other byte is held, of a line that is too long no more than that it is
abbrev pub holds : Replay → ℕ → Replay
holds r byte =
    record {
      queue = r.queue;
      threads = r.threads;
      line = set r.line r.held byte;
      held = min (r.held + 1) 81;
      number = r.number;
      steps = r.steps;
      stage = r.stage;
    }

abbrev pub other_byte : Stage → Replay → List ℕ → ℕ → Told
other_byte First r m byte = record { replay = holds r byte; pool = m; out = [] }
other_byte Open r m byte = record { replay = holds r byte; pool = m; out = [] }
other_byte Over r m byte = record { replay = r; pool = m; out = [] }

unfoldable pub byte_told : Replay → List ℕ → ℕ → Told
byte_told r m byte = cond (eqb byte 10) (line_feed r.stage r m) (other_byte r.stage r m byte)

-- some bytes, one after another
unfoldable pub told : Replay → List ℕ → List ℕ → Told
told r m [] = record { replay = r; pool = m; out = [] }
told r m (byte ∷ bytes) =
    record {
      replay = (told (byte_told r m byte).replay (byte_told r m byte).pool bytes).replay;
      pool = (told (byte_told r m byte).replay (byte_told r m byte).pool bytes).pool;
      out = (byte_told r m byte).out ++ (told (byte_told r m byte).replay (byte_told r m byte).pool bytes).out;
    }

-- the end of the input: a last line without its line feed is malformed, and so is an empty line 1
abbrev pub unended : Replay → List ℕ
unended r = bad_bytes r.number ++ end_bytes r.steps

abbrev pub at_end : Stage → Replay → List ℕ
at_end First r = unended r
at_end Open r = cond (eqb r.held 0) (end_bytes r.steps) (unended r)
at_end Over r = []

-- the whole replay over lent words m, which hold anything
unfoldable pub replayed : List ℕ → List ℕ → List ℕ
replayed m input = (told at_first m input).out ++ at_end (told at_first m input).replay.stage (told at_first m input).replay
