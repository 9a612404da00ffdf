-- The public entries, with document 01's refusals 1 to 7 in their order. A refused entry changes nothing.
use Rattle.std.specs.Prelude.{Option, ℕ, cond, List, length, replicate, ltb, None, Result, Ok, Err}
use Rattle.memory.specs.Pool.{fresh}
use Rattle.ring.specs.Ring.{empty_ring, popped}
use Rattle.ring.specs.declared.Flavor.{Flavor}
use Rattle.ring.specs.declared.RingPop.{RingPop}
use Rattle.state.specs.List.{setup_good, state_good, limit_good, room_good}
use Rattle.state.specs.declared.Queue.{Queue}
use Rattle.state.specs.declared.Kind.{Kind}
use Rattle.state.specs.declared.Kind.TheVariants.{Steal, Batch, Take}
use Rattle.state.specs.declared.PushLine.TheVariants.{P1}
use Rattle.state.specs.declared.StealLine.TheVariants.{S1}
use Rattle.state.specs.declared.LengthLine.TheVariants.{L1}
use Rattle.state.specs.declared.EmptyLine.TheVariants.{E1}
use Rattle.state.specs.declared.Call.{Call}
use Rattle.state.specs.declared.Call.TheVariants.{Idle, Push, Length, Empty}
use Rattle.state.specs.declared.Answer.TheVariants.{Refused}
use Rattle.state.specs.declared.Refusal.{Refusal}
use Rattle.state.specs.declared.Refusal.TheVariants.{BadSetup, BadState, NoThread, Busy, NoLimit, NoRoom}
use Rattle.state.specs.declared.Thread.{Thread}
use Rattle.machine.specs.declared.Request.{Request}
use Rattle.machine.specs.declared.Given.{Given}
use Rattle.machine.specs.declared.Started.{Started}
use Rattle.machine.specs.Step.{After, done, once, step_of, run_from, is_idle}

-- setup: block 0 taken, head and tail at index 0 on it, all other blocks free; refused as every entry refuses BAD_SETUP
abbrev pub at_start : ℕ → ℕ → ℕ → Queue
at_start threads blocks ceiling =
    record {
      head = record { raw = 0 };
      head_block = 0;
      tail = record { raw = 0 };
      tail_block = 0;
      ceiling = ceiling;
      threads = threads;
      blocks = blocks;
    }

abbrev pub set_up : ℕ → ℕ → ℕ → ℕ → Started
set_up threads blocks ceiling len =
    record {
      queue = at_start threads blocks ceiling;
      answer = cond (setup_good (at_start threads blocks ceiling) len) (Ok tt) (Err BadSetup);
    }

abbrev pub set_up_pool : ℕ → ℕ → ℕ → List ℕ → List ℕ
set_up_pool threads blocks ceiling m =
    cond (setup_good (at_start threads blocks ceiling) (length m)) (fresh (length m) blocks) m

-- a thread at setup: idle, with an empty ring
abbrev pub idle_thread : Flavor → Thread
idle_thread f = record { ring = empty_ring f; call = Idle; taken = replicate 63 0 }

-- 1, 2 and 3, of what the entry is handed and the thread number n: which refusal comes first, if any
unfoldable pub tested : Queue → List ℕ → Thread → ℕ → Result Unit Refusal
tested q m t n =
    cond (setup_good q (length m))
    (cond (state_good q m t) (cond (ltb n q.threads) (Ok tt) (Err NoThread)) (Err BadState))
    (Err BadSetup)

-- step: 1, 2, 3, then IDLE
abbrev pub refused_after : Queue → List ℕ → Thread → Refusal → After
refused_after q m t r = done q m t (Refused r) 0

abbrev pub step_tested : Queue → List ℕ → Thread → Result Unit Refusal → After
step_tested q m t (Err r) = refused_after q m t r
step_tested q m t (Ok tt) =
    cond (is_idle t.call) (refused_after q m t Rattle.state.specs.declared.Refusal.TheVariants.Idle) (once m (step_of q m t))

unfoldable pub step_entry : Queue → List ℕ → Thread → ℕ → After
step_entry q m t n = step_tested q m t (tested q m t n)

-- run: as step
abbrev pub run_tested : Queue → List ℕ → Thread → ℕ → Result Unit Refusal → After
run_tested q m t budget (Err r) = refused_after q m t r
run_tested q m t budget (Ok tt) =
    cond (is_idle t.call) (refused_after q m t Rattle.state.specs.declared.Refusal.TheVariants.Idle) (run_from budget q m t)

unfoldable pub run_entry : Queue → List ℕ → Thread → ℕ → ℕ → After
run_entry q m t n budget = run_tested q m t budget (tested q m t n)

-- begin: 1, 2, 3, then BUSY, NO_LIMIT, NO_ROOM; an accepted begin opens the call at its first line
abbrev pub opened : Request → Call
opened (Request.Push token) = Push (P1 token None)
opened Request.Steal = Rattle.state.specs.declared.Call.TheVariants.Steal (S1 Steal)
opened (Request.Batch limit) = Rattle.state.specs.declared.Call.TheVariants.Steal (S1 (Batch limit))
opened (Request.Take limit) = Rattle.state.specs.declared.Call.TheVariants.Steal (S1 (Take limit))
opened Request.Len = Length L1
opened Request.Empty = Empty E1

-- the kind whose limit and room begin tests; a call that is no batch is tested as a steal, which has neither
abbrev pub tested_as : Request → Kind
tested_as (Request.Push token) = Steal
tested_as Request.Steal = Steal
tested_as (Request.Batch limit) = Batch limit
tested_as (Request.Take limit) = Take limit
tested_as Request.Len = Steal
tested_as Request.Empty = Steal

abbrev pub not_given : {T : Type 0} → Thread → Refusal → Given T
not_given t r = record { thread = t; answer = Err r }

abbrev pub begun : Thread → Request → Given Unit
begun t what = record { thread = record { ring = t.ring; call = opened what; taken = t.taken }; answer = Ok tt }

abbrev pub begin_tested : Thread → Request → Result Unit Refusal → Given Unit
begin_tested t what (Err r) = not_given t r
begin_tested t what (Ok tt) =
    cond (is_idle t.call)
    (cond (limit_good (tested_as what))
    (cond (room_good (tested_as what) t.ring.count) (begun t what) (not_given t NoRoom))
    (not_given t NoLimit))
    (not_given t Busy)

unfoldable pub begin_entry : Queue → List ℕ → Thread → ℕ → Request → Given Unit
begin_entry q m t n what = begin_tested t what (tested q m t n)

-- ring pop: 1, 2, 3, then BUSY
abbrev pub after_pop : Thread → RingPop → Given (Option ℕ)
after_pop t p = record { thread = record { ring = p.ring; call = t.call; taken = t.taken }; answer = Ok p.token }

abbrev pub pop_tested : Thread → Result Unit Refusal → Given (Option ℕ)
pop_tested t (Err r) = not_given t r
pop_tested t (Ok tt) = cond (is_idle t.call) (after_pop t (popped t.ring)) (not_given t Busy)

unfoldable pub pop_entry : Queue → List ℕ → Thread → ℕ → Given (Option ℕ)
pop_entry q m t n = pop_tested t (tested q m t n)
