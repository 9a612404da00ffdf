-- Every board of a history is whole: a fresh start is, and whatever may be asked keeps it.
use Rattle.std.specs.Prelude.{Option, Result, Ok, Err}
use Rattle.state.specs.declared.Refusal.{Refusal}
use Prim.Native.Nat.{ℕ, zero, suc, ◌≤◌, ◌<◌}
use mathlib.Core.Path.{◌≡◌, refl, sym, ap, subst, ◌∙◌}
use mathlib.Core.Bool.{Bool, true, false, cond}
use mathlib.Core.List.{List, [], ◌∷◌}
use native.Mathlib.Decide.{ℕ_discrete}
use lib.ListN.{length, get_or, set, get_or-map}
use lib.Seq.{get_or-set_same, get_or-set_other, set_out}
use lib.Dec.{ltb}
use borrow.Author.Tests.{ltb-true, ltb-false}
use Rattle.ring.specs.Ring.{popped}
use Rattle.ring.specs.declared.Flavor.{Flavor}
use Rattle.ring.specs.declared.Flavor.TheVariants.{Fifo}
use Rattle.state.specs.List.{counts_good, state_good, limit_good, room_good}
use Rattle.state.specs.declared.Queue.{Queue}
use Rattle.state.specs.declared.Thread.{Thread}
use Rattle.machine.specs.Step.{After, step_of, once, counted, run_from, is_idle, is_open}
use Rattle.machine.specs.Entry.{idle_thread, tested, step_tested, step_entry, run_tested, run_entry}
use Rattle.machine.specs.Entry.{tested_as, begun, begin_tested, begin_entry, after_pop, pop_tested, pop_entry}
use Rattle.machine.specs.declared.Request.{Request}
use Rattle.machine.specs.declared.Given.{Given}
use Rattle.history.specs.Board.{Board, Ask, begins, pops, steps, runs, start, thread_at, ran, with_thread, asked}
use Rattle.history.specs.History.{board}
use Rattle.invariant.specs.Ghost.{Ghost}
use Rattle.invariant.specs.State.{State}
use Rattle.invariant.specs.Shared.{Shared}
use Rattle.invariant.specs.Lines.{ThreadOk}
use Rattle.invariant.specs.Kept.{stepped}
use Rattle.invariant.proofs.Facts.{cond_elim, put, put_same, put_other, two_blocks}
use Rattle.invariant.proofs.Idle.{begun_ok, popped-ok}
use Rattle.invariant.proofs.Stable.{stable}
use Rattle.invariant.proofs.Steps.{step_kept}
use Rattle.promise.proofs.Start.{first_ghost, first, start-shared, idle-ok}
use Rattle.settle.specs.Owed.{Owed}
use Rattle.settle.specs.Whole.{Whole}
use Rattle.settle.specs.Rounds.{step_all, after}
use Rattle.settle.proofs.OwedStart.{same-calls, put-call, begun-owed, popped-owed, step-owed}
use Rattle.settle.proofs.OwedFirst.{start-owed}
use Rattle.settle.proofs.Moves.{idle-is, open_record, same-board}

abbrev state_at : Queue → List ℕ → Ghost → State
state_at q m g = record { queue = q; pool = m; ghost = g }

-- the same with the records as a function: a run has one thread's in hand
record Sound (q : Queue) (m : List ℕ) (threads : ℕ → Thread) : Type 0 where
  ghost : Ghost
  shared : Shared (state_at q m ghost)
  lines : (n : ℕ) → ThreadOk (state_at q m ghost) n (threads n)
  owed : Owed (state_at q m ghost) (λ n. (threads n).call)

-- it is the records that count, place by place
same-threads : (q : Queue) (m : List ℕ) (threads other : ℕ → Thread) → ((j : ℕ) → other j ≡ threads j) → Sound q m threads → Sound q m other
same-threads q m threads other e h =
    record {
      ghost = h.ghost;
      shared = h.shared;
      lines = λ j. subst (λ (t : Thread). ThreadOk (state_at q m h.ghost) j t) (sym (e j)) (h.lines j);
      owed = same-calls (state_at q m h.ghost) (λ j. (threads j).call) (λ j. (other j).call) (λ j. ap (λ (t : Thread). t.call) (e j)) h.owed;
    }

put-put : (threads : ℕ → Thread) (n : ℕ) (t u : Thread) (j : ℕ) → put threads n u j ≡ put (put threads n t) n u j
put-put threads n t u j = by (ℕ_discrete j n)
  where
    by : Dec (j ≡ n) → put threads n u j ≡ put (put threads n t) n u j
    by (yes e) = rw e (put_same threads n u ∙ sym (put_same (put threads n t) n u))
    by (no o) = put_other threads n u j o ∙ sym (put_other threads n t j o) ∙ sym (put_other (put threads n t) n u j o)

-- one record changed
each : (s : State) (threads : ℕ → Thread) (n : ℕ) (t : Thread) → ThreadOk s n t → ((j : ℕ) → (j ≡ n → ⊥) → ThreadOk s j (threads j)) → (j : ℕ)
    → ThreadOk s j (put threads n t j)
each s threads n t mine theirs j = by (ℕ_discrete j n)
  where
    by : Dec (j ≡ n) → ThreadOk s j (put threads n t j)
    by (yes e) = rw (e, put_same threads n t) mine
    by (no o) = subst (λ (u : Thread). ThreadOk s j u) (sym (put_other threads n t j o)) (theirs j o)

-- after an entry that had thread n's record in hand
abbrev SoundAfter : (ℕ → Thread) → ℕ → After → Type 0
SoundAfter threads n a = Sound a.ran.queue a.pool (put threads n a.ran.thread)

step-own_sound : (q : Queue) (m : List ℕ) (threads : ℕ → Thread) (n : ℕ) → Sound q m threads → SoundAfter threads n (once m (step_of q m (threads n)))
step-own_sound q m threads n h =
    let s : State = state_at q m h.ghost in
    let k = step_kept s n (threads n) h.shared (h.lines n) in
    record {
      ghost = k.ghost;
      shared = k.shared;
      lines =
          each (stepped s (step_of q m (threads n)) k.ghost) threads n (step_of q m (threads n)).stepped.thread k.thread
          (λ j o. stable j s (stepped s (step_of q m (threads n)) k.ghost) (threads j) h.shared (k.others j o) (h.lines j));
      owed = step-owed s n threads h.shared h.lines h.owed;
    }

step_sound : (q : Queue) (m : List ℕ) (threads : ℕ → Thread) (n : ℕ) (t : Thread) → threads n ≡ t → Sound q m threads
    → SoundAfter threads n (once m (step_of q m t))
step_sound q m threads n t e h = subst (λ (u : Thread). SoundAfter threads n (once m (step_of q m u))) e (step-own_sound q m threads n h)

same-put : (threads : ℕ → Thread) (n : ℕ) (t : Thread) → threads n ≡ t → (j : ℕ) → put threads n t j ≡ threads j
same-put threads n t e j = by (ℕ_discrete j n)
  where
    by : Dec (j ≡ n) → put threads n t j ≡ threads j
    by (yes f) = rw f (put_same threads n t ∙ sym e)
    by (no o) = put_other threads n t j o

run_sound : (budget : ℕ) (q : Queue) (m : List ℕ) (threads : ℕ → Thread) (n : ℕ) (t : Thread) → threads n ≡ t → Sound q m threads
    → SoundAfter threads n (run_from budget q m t)
unfolding run_from
run_sound zero q m threads n t e h = same-threads q m threads (put threads n t) (same-put threads n t e) h
run_sound (suc budget) q m threads n t e h =
    let u : Thread = (step_of q m t).stepped.thread in
    go
    (run_from budget (step_of q m t).stepped.queue (Rattle.memory.specs.Touch.after m (step_of q m t).touch) u)
    (run_sound budget (step_of q m t).stepped.queue (Rattle.memory.specs.Touch.after m (step_of q m t).touch) (put threads n u) n u (put_same threads n u) (step_sound q m threads n t e h))
    (is_open (step_of q m t).stepped.answer)
    (state_good (step_of q m t).stepped.queue (Rattle.memory.specs.Touch.after m (step_of q m t).touch) u)
  where
    go : (a : After) → SoundAfter (put threads n (step_of q m t).stepped.thread) n a → (b d : Bool)
        → SoundAfter threads n (cond b (cond d (counted a) (once m (step_of q m t))) (once m (step_of q m t)))
    go a s true true =
        same-threads a.ran.queue a.pool _ _ (put-put threads n (step_of q m t).stepped.thread a.ran.thread) s
    go a s true false = step_sound q m threads n t e h
    go a s false d = step_sound q m threads n t e h

-- ---- the board

in_hand : (w : Board) → Whole w → Sound w.queue w.pool (thread_at w)
in_hand w h = record { ghost = h.ghost; shared = h.shared; lines = h.threads; owed = h.owed }

abbrev stored : Board → ℕ → Queue → List ℕ → Thread → Board
stored w n q m t = record { queue = q; pool = m; threads = set w.threads n t }

stored_at : (w : Board) (n : ℕ) (t : Thread) → n < length w.threads → (j : ℕ) → get_or (set w.threads n t) j (idle_thread Fifo) ≡ put (thread_at w) n t j
stored_at w n t b j = by (ℕ_discrete j n)
  where
    by : Dec (j ≡ n) → get_or (set w.threads n t) j (idle_thread Fifo) ≡ put (thread_at w) n t j
    by (yes e) = rw e (get_or-set_same w.threads n t (idle_thread Fifo) b ∙ sym (put_same (thread_at w) n t))
    by (no o) = get_or-set_other w.threads n j t (idle_thread Fifo) o ∙ sym (put_other (thread_at w) n t j o)

put_back : (w : Board) (n : ℕ) (q : Queue) (m : List ℕ) (t : Thread) → n < length w.threads → Sound q m (put (thread_at w) n t) → Whole (stored w n q m t)
put_back w n q m t b h =
    let k = same-threads q m (put (thread_at w) n t) (thread_at (stored w n q m t)) (stored_at w n t b) h in
    record { ghost = k.ghost; shared = k.shared; threads = k.lines; owed = k.owed }

-- a thread stored where no record is
out-board : (w : Board) (n : ℕ) (t : Thread) → length w.threads ≤ n → with_thread w n t ≡ w
out-board w n t b =
    ap (λ (l : List Thread). record { queue = w.queue; pool = w.pool; threads = l }) (set_out w.threads n t b)

module _ (w : Board) (h : Whole w) (n : ℕ) where
  abbrev q : Queue
  q = w.queue

  abbrev m : List ℕ
  m = w.pool

  abbrev t : Thread
  t = thread_at w n

  refused : Whole (with_thread w n t)
  refused = subst Whole (sym (same-board w n)) h

  opens : is_idle t.call ≡ false → n < length w.threads
  opens e = open_record w n (rw e)

  step_by : (r : Result Unit Refusal) → Whole (ran w n (step_tested q m t r))
  step_by (Err r) = refused
  step_by (Ok tt) =
      cond_elim (λ (a : After). Whole (ran w n a)) (is_idle t.call) _ _
      (λ e. refused)
      (λ e. put_back w n _ _ _ (opens e) (step_sound q m (thread_at w) n t refl (in_hand w h)))

  run_by : (budget : ℕ) (r : Result Unit Refusal) → Whole (ran w n (run_tested q m t budget r))
  run_by budget (Err r) = refused
  run_by budget (Ok tt) =
      cond_elim (λ (a : After). Whole (ran w n a)) (is_idle t.call) _ _
      (λ e. refused)
      (λ e. put_back w n _ _ _ (opens e) (run_sound budget q m (thread_at w) n t refl (in_hand w h)))

  -- begin and pop: an idle thread's record is changed
  changed : (u : Thread) → ThreadOk (state_at q m h.ghost) n u → Owed (state_at q m h.ghost) (put (λ j. (thread_at w j).call) n u.call)
      → Whole (with_thread w n u)
  changed u ok owed = by (ltb n (length w.threads)) refl
    where
      sound : Sound q m (put (thread_at w) n u)
      sound =
          record {
            ghost = h.ghost;
            shared = h.shared;
            lines = each (state_at q m h.ghost) (thread_at w) n u ok (λ j o. h.threads j);
            owed = same-calls (state_at q m h.ghost) _ _ (put-call (thread_at w) n u) owed;
          }

      by : (b : Bool) → ltb n (length w.threads) ≡ b → Whole (with_thread w n u)
      by true f = put_back w n q m u (ltb-true n (length w.threads) f) sound
      by false f = subst Whole (sym (out-board w n u (ltb-false n (length w.threads) f))) h

  begin_by : (what : Request) (r : Result Unit Refusal) → Whole (with_thread w n (begin_tested t what r).thread)
  begin_by what (Err r) = refused
  begin_by what (Ok tt) =
      cond_elim (λ (b : Given Unit). Whole (with_thread w n b.thread)) (is_idle t.call) _ _
      (λ idle.
      cond_elim (λ (b : Given Unit). Whole (with_thread w n b.thread)) (limit_good (tested_as what)) _ _
      (λ limit.
      cond_elim (λ (b : Given Unit). Whole (with_thread w n b.thread)) (room_good (tested_as what) t.ring.count) _ _
      (λ room.
      changed (begun t what).thread (begun_ok (state_at q m h.ghost) n t what (h.threads n) limit room)
      (begun-owed (state_at q m h.ghost) n (λ j. (thread_at w j).call) t what (idle-is t.call idle) h.owed))
      (λ room. refused))
      (λ limit. refused))
      (λ idle. refused)

  pop-by : (r : Result Unit Refusal) → Whole (with_thread w n (pop_tested t r).thread)
  pop-by (Err r) = refused
  pop-by (Ok tt) =
      cond_elim (λ (p : Given (Option ℕ)). Whole (with_thread w n p.thread)) (is_idle t.call) _ _
      (λ idle.
      changed (after_pop t (popped t.ring)).thread (popped-ok (state_at q m h.ghost) n t (h.threads n) (idle-is t.call idle))
      (popped-owed (state_at q m h.ghost) n (λ j. (thread_at w j).call) t (popped t.ring) refl h.owed))
      (λ idle. refused)

pub whole_ask : (w : Board) (ask : Ask) → Whole w → Whole (asked w ask)
unfolding begin_entry pop_entry step_entry run_entry
whole_ask w (begins n what) h = begin_by w h n what (tested w.queue w.pool (thread_at w n) n)
whole_ask w (pops n) h = pop-by w h n (tested w.queue w.pool (thread_at w n) n)
whole_ask w (steps n) h = step_by w h n (tested w.queue w.pool (thread_at w n) n)
whole_ask w (runs n budget) h = run_by w h n budget (tested w.queue w.pool (thread_at w n) n)

pub whole-step : (w : Board) (n : ℕ) → Whole w → Whole (asked w (steps n))
whole-step w n h = whole_ask w (steps n) h

pub whole-all : (w : Board) (order : List ℕ) → Whole w → Whole (step_all w order)
whole-all w [] h = h
whole-all w (n ∷ order) h = whole-all (asked w (steps n)) order (whole-step w n h)

pub whole-after : (w : Board) (rounds : List (List ℕ)) → Whole w → Whole (after w rounds)
whole-after w [] h = h
whole-after w (order ∷ rounds) h = whole-after (step_all w order) rounds (whole-all w order h)

-- ---- the start

pub whole-start : (flavors : List Flavor) (blocks ceiling : ℕ) → 2 ≤ blocks → Whole (start flavors blocks ceiling)
whole-start flavors blocks ceiling two =
    record {
      ghost = first_ghost;
      shared = start-shared (length flavors) blocks ceiling two;
      threads =
          λ n.
          subst (λ (u : Thread). ThreadOk (first (length flavors) blocks ceiling two) n u)
          (sym (get_or-map idle_thread flavors n Fifo))
          (idle-ok (length flavors) blocks ceiling two n (get_or flavors n Fifo));
      owed = start-owed (length flavors) blocks ceiling two (λ n. (thread_at (start flavors blocks ceiling) n).call);
    }

pub whole : (flavors : List Flavor) (blocks ceiling : ℕ) → counts_good (length flavors) blocks ceiling ≡ true → (asks : List Ask)
    → Whole (board (start flavors blocks ceiling) asks)
whole flavors blocks ceiling good [] = whole-start flavors blocks ceiling (two_blocks (length flavors) blocks ceiling good)
whole flavors blocks ceiling good (ask ∷ before) =
    whole_ask (board (start flavors blocks ceiling) before) ask (whole flavors blocks ceiling good before)
