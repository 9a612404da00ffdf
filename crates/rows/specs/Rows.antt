-- The records of a lent table, and what is tested of them.
use Rattle.std.specs.Prelude.{ℕ, Bool, true, ◌&&◌, List, [], ◌∷◌, eqb, get_or}
use Rattle.memory.specs.Pool.{table_len}
use Rattle.ring.specs.declared.Flavor.TheVariants.{Fifo}
use Rattle.state.specs.List.{setup_good, record_good}
use Rattle.state.specs.declared.Queue.{Queue}
use Rattle.state.specs.declared.Thread.{Thread}
use Rattle.machine.specs.Entry.{idle_thread}

-- 1: the counts, and both lent parts as long as published
unfoldable pub sizes_good : Queue → ℕ → ℕ → Bool
sizes_good q records words = setup_good q words && eqb records (table_len q.threads q.blocks)

-- 2: the list over every record, the one that is stepped and all others
unfoldable pub all_good : Queue → List Thread → Bool
all_good q [] = true
all_good q (t ∷ ts) = record_good q t && all_good q ts

-- the record with number n; past the table's end, where nobody asks, a thread as at setup
unfoldable pub blank : Thread
blank = idle_thread Fifo

abbrev pub record_at : List Thread → ℕ → Thread
record_at ts n = get_or ts n blank
