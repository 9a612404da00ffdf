-- What a step does to a whole board: an open call's step is never refused, it changes the shared words, the pool and
-- its own thread's record as `step_of` says, and nothing else.
use Rattle.std.specs.Prelude.{Result, Ok, Err}
use Prim.Native.Nat.{ℕ, ◌≤◌, ◌<◌}
use mathlib.Core.Path.{◌≡◌, refl, ap, ◌∙◌}
use mathlib.Core.Bool.{Bool, true, false, not, cond}
use mathlib.Core.Logic.{⊎_elim}
use mathlib.Core.List.{List}
use native.Mathlib.Omega.{arith}
use lib.ListN.{length, get_or-eq_default}
use lib.Seq.{get_or-set_same, get_or-set_other, set-get_or}
use lib.Dec.{ltb}
use borrow.Author.Tests.{eq-eqb, lt-ltb, ltb-true, ltb-false}
use Rattle.memory.specs.Pool.{pool_len}
use Rattle.ring.specs.declared.Flavor.TheVariants.{Fifo}
use Rattle.state.specs.List.{counts_good, setup_good}
use Rattle.state.specs.declared.Call.{Call}
use Rattle.state.specs.declared.Call.TheVariants.{Idle, Push, Steal, Length, Empty}
use Rattle.state.specs.declared.Refusal.{Refusal}
use Rattle.state.specs.declared.Thread.{Thread}
use Rattle.machine.specs.Step.{step_of, once, is_idle}
use Rattle.machine.specs.Entry.{idle_thread, tested, refused_after, step_tested, step_entry}
use Rattle.history.specs.Board.{Board, steps, thread_at, ran, with_thread, asked}
use Rattle.invariant.proofs.Facts.{clash, true-or-false}
use Rattle.invariant.proofs.Good.{both, good}
use Rattle.settle.specs.Whole.{Whole, state_of}
use Rattle.settle.specs.Rounds.{is_open_at}

-- the board after thread n's step, by the step table alone
abbrev pub step_board : Board → ℕ → Board
step_board w n = ran w n (once w.pool (step_of w.queue w.pool (thread_at w n)))

idle_of : (b : Bool) → not b ≡ true → b ≡ false
idle_of true e = clash false e refl
idle_of false e = refl

idle_if : (b : Bool) → not b ≡ false → b ≡ true
idle_if true e = refl
idle_if false e = clash true refl e

pub idle-is : (call : Call) → is_idle call ≡ true → call ≡ Idle
idle-is Idle e = refl
idle-is (Push line) e = clash false e refl
idle-is (Steal line) e = clash false e refl
idle-is (Length line) e = clash false e refl
idle-is (Empty line) e = clash false e refl

pub open_call : (w : Board) (n : ℕ) → is_open_at w n ≡ true → is_idle (thread_at w n).call ≡ false
open_call w n e = idle_of (is_idle (thread_at w n).call) e

pub idle-call : (w : Board) (n : ℕ) → is_open_at w n ≡ false → is_idle (thread_at w n).call ≡ true
idle-call w n e = idle_if (is_idle (thread_at w n).call) e

-- nobody past the records has a call open
pub open_record : (w : Board) (n : ℕ) → is_open_at w n ≡ true → n < length w.threads
open_record w n e = by (ltb n (length w.threads)) refl
  where
    by : (b : Bool) → ltb n (length w.threads) ≡ b → n < length w.threads
    by true f = ltb-true n (length w.threads) f
    by false f =
        clash (is_open_at w n) e
        (ap (λ (t : Thread). not (is_idle t.call))
        (get_or-eq_default w.threads (idle_thread Fifo) {n = n} (ltb-false n (length w.threads) f)))

-- counts in their ranges, and a record for each thread
pub record Fit (w : Board) : Type 0 where
  pub counts : counts_good w.queue.threads w.queue.blocks w.queue.ceiling ≡ true
  pub records : length w.threads ≡ w.queue.threads

pub open_thread : (w : Board) (n : ℕ) → Fit w → is_open_at w n ≡ true → n < w.queue.threads
open_thread w n f e =
    let r : length w.threads ≡ w.queue.threads = f.records in
    let b = open_record w n e in
    omega arith

pub past-idle : (w : Board) (n : ℕ) → Fit w → w.queue.threads ≤ n → is_open_at w n ≡ false
past-idle w n f b =
    ⊎_elim (λ (e : is_open_at w n ≡ true). let c = open_thread w n f e in absurd (omega arith)) (λ (e : is_open_at w n ≡ false). e)
    (true-or-false (is_open_at w n))

-- ---- an entry for one of the threads passes its tests

pub passes : (w : Board) (n : ℕ) → Whole w → Fit w → n < w.queue.threads → tested w.queue w.pool (thread_at w n) n ≡ Ok tt
unfolding tested setup_good
passes w n h f b =
    let setup = both f.counts (eq-eqb (length w.pool) (pool_len w.queue.threads w.queue.blocks) h.shared.sized) in
    let state = good (state_of w h.ghost) n (thread_at w n) h.shared (h.threads n) in
    rw (setup, state, lt-ltb n w.queue.threads b)

pub step_moves : (w : Board) (n : ℕ) → Whole w → Fit w → n < w.queue.threads → is_open_at w n ≡ true → asked w (steps n) ≡ step_board w n
unfolding step_entry
step_moves w n h f b e =
    ap (λ (r : Result Unit Refusal). ran w n (step_tested w.queue w.pool (thread_at w n) r)) (passes w n h f b)
    ∙ ap (λ (i : Bool). ran w n (cond i (refused_after w.queue w.pool (thread_at w n) Refusal.Idle) (once w.pool (step_of w.queue w.pool (thread_at w n))))) (open_call w n e)

-- a thread stored back as it was
pub same-board : (w : Board) (n : ℕ) → with_thread w n (thread_at w n) ≡ w
same-board w n =
    ap (λ (l : List Thread). record { queue = w.queue; pool = w.pool; threads = l }) (set-get_or w.threads n (idle_thread Fifo))

-- with no call open a step changes nothing
pub idle-step : (w : Board) (n : ℕ) → is_open_at w n ≡ false → asked w (steps n) ≡ w
unfolding step_entry
idle-step w n e = by (tested w.queue w.pool (thread_at w n) n)
  where
    by : (r : Result Unit Refusal) → ran w n (step_tested w.queue w.pool (thread_at w n) r) ≡ w
    by (Err r) = same-board w n
    by (Ok tt) =
        ap (λ (i : Bool). ran w n (cond i (refused_after w.queue w.pool (thread_at w n) Refusal.Idle) (once w.pool (step_of w.queue w.pool (thread_at w n))))) (idle-call w n e)
        ∙ same-board w n

-- ---- the threads' records after a step

pub step_other : (w : Board) (n j : ℕ) → (j ≡ n → ⊥) → thread_at (asked w (steps n)) j ≡ thread_at w j
step_other w n j o = get_or-set_other w.threads n j _ (idle_thread Fifo) o

pub step-own : (w : Board) (n : ℕ) → Whole w → Fit w → is_open_at w n ≡ true
    → thread_at (asked w (steps n)) n ≡ (step_of w.queue w.pool (thread_at w n)).stepped.thread
step-own w n h f e =
    ap (λ (x : Board). thread_at x n) (step_moves w n h f (open_thread w n f e) e)
    ∙ get_or-set_same w.threads n (step_of w.queue w.pool (thread_at w n)).stepped.thread (idle_thread Fifo) (open_record w n e)
