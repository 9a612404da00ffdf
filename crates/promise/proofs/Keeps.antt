-- What may be asked keeps the board tied to the ghost and the notes; a refused entry changes nothing.
use Rattle.std.specs.Prelude.{Option, Result, Ok, Err}
use Prim.Native.Nat.{ℕ, ◌<◌}
use mathlib.Core.Path.{◌≡◌, refl, sym, ap, subst, ◌∙◌}
use mathlib.Core.Bool.{Bool, true, false, cond}
use mathlib.Core.List.{List, [], ◌++◌}
use native.Mathlib.Omega.{arith}
use native.Mathlib.Decide.{ℕ_discrete}
use lib.ListN.{length, get_or, set, length-set}
use lib.Seq.{get_or-set_same, get_or-set_other, set-get_or}
use lib.Dec.{ltb}
use borrow.Author.Tests.{ltb-true}
use Rattle.memory.specs.Touch.{after}
use Rattle.ring.specs.Ring.{popped}
use Rattle.ring.specs.Laws.{popped-less}
use Rattle.ring.specs.declared.Flavor.{Flavor}
use Rattle.ring.specs.declared.Flavor.TheVariants.{Fifo}
use Rattle.state.specs.List.{setup_good, state_good, limit_good, room_good}
use Rattle.state.specs.declared.Queue.{Queue}
use Rattle.state.specs.declared.Refusal.{Refusal}
use Rattle.state.specs.declared.Refusal.TheVariants.{BadSetup, BadState, NoThread}
use Rattle.state.specs.declared.Call.{Call}
use Rattle.state.specs.declared.Call.TheVariants.{Idle, Push, Steal, Length, Empty}
use Rattle.state.specs.declared.Thread.{Thread}
use Rattle.machine.specs.Step.{After, step_of, once, run_from, is_idle, is_open}
use Rattle.machine.specs.Entry.{tested, idle_thread, refused_after, step_tested, step_entry, run_tested, run_entry}
use Rattle.machine.specs.Entry.{opened, tested_as, begun, begin_tested, begin_entry, after_pop, pop_tested, pop_entry}
use Rattle.machine.specs.declared.Request.{Request}
use Rattle.machine.specs.declared.Given.{Given}
use Rattle.history.specs.Board.{Board, Ask, begins, pops, steps, runs, thread_at, ran, with_thread, asked}
use Rattle.history.specs.Log.{Note, notes_of}
use Rattle.history.specs.History.{run_notes, unless_refused, asked_notes}
use Rattle.invariant.proofs.Facts.{cond_elim, clash}
use Rattle.invariant.proofs.Idle.{begun_ok, popped-ok}
use Rattle.promise.specs.Promise.{nothing}
use Rattle.promise.proofs.Tally.{Tally, tallied, FairFrom}
use Rattle.promise.proofs.Stage.{At, place_of}
use Rattle.promise.proofs.World.{state_of, Mine, Hand, World}
use Rattle.promise.proofs.Run.{OutOf, stop_out, run_out}

idle-call : (call : Call) → is_idle call ≡ true → call ≡ Idle
idle-call Idle e = refl
idle-call (Push line) e = clash false e refl
idle-call (Steal line) e = clash false e refl
idle-call (Length line) e = clash false e refl
idle-call (Empty line) e = clash false e refl

-- an entry that passes its tests has one of the threads
passes-thread : (q : Queue) (m : List ℕ) (t : Thread) (n : ℕ) → tested q m t n ≡ Ok tt → n < q.threads
unfolding tested
passes-thread q m t n e = go (setup_good q (length m)) (state_good q m t) (ltb n q.threads) refl e
  where
    go : (a b d : Bool) → ltb n q.threads ≡ d
        → cond a (cond b (cond d (Ok (tt {0})) (Err NoThread)) (Err BadState)) (Err BadSetup) ≡ Ok tt
        → n < q.threads
    go true true true f h = ltb-true n q.threads f
    go true true false f h = cc
    go true false d f h = cc
    go false b d f h = cc

-- a thread stored back as it was
pub same-board : (w : Board) (n : ℕ) → with_thread w n (thread_at w n) ≡ w
same-board w n =
    ap (λ (l : List Thread). record { queue = w.queue; pool = w.pool; threads = l }) (set-get_or w.threads n (idle_thread Fifo))

module _ (flavors : List Flavor) (blocks ceiling : ℕ) where
  in_hand : (w : Board) (c : Tally) (n : ℕ) → World flavors blocks ceiling w c
      → Hand flavors blocks ceiling n (thread_at w) w.queue w.pool (thread_at w n) c
  in_hand w c n h =
      record {
        ghost = h.ghost;
        sound = h.sound;
        mine = h.threads n;
        theirs = λ j o. h.threads j;
        counts = h.counts;
      }

  abbrev stored : Board → ℕ → Queue → List ℕ → Thread → Board
  stored w n q m t = record { queue = q; pool = m; threads = set w.threads n t }

  put_back : (w : Board) (c : Tally) (n : ℕ) (q : Queue) (m : List ℕ) (t : Thread) → n < length w.threads
      → length w.threads ≡ length flavors
      → Hand flavors blocks ceiling n (thread_at w) q m t c → World flavors blocks ceiling (stored w n q m t) c
  put_back w c n q m t b sized h =
      record {
        ghost = h.ghost;
        sound = h.sound;
        threads = λ j. each j (ℕ_discrete j n);
        counts = h.counts;
        sized = length-set w.threads n t ∙ sized;
      }
    where
      each : (j : ℕ) → Dec (j ≡ n) → Mine flavors (state_of q m h.ghost) c j (get_or (set w.threads n t) j (idle_thread Fifo))
      each j (yes e) =
          rw (e, get_or-set_same w.threads n t (idle_thread Fifo) b) h.mine
      each j (no o) =
          subst (λ (u : Thread). Mine flavors (state_of q m h.ghost) c j u) (sym (get_or-set_other w.threads n j t (idle_thread Fifo) o)) (h.theirs j o)

  -- after an entry with the notes l
  pub record Kept (w : Board) (c : Tally) (l : List Note) : Type 0 where
    pub fair : FairFrom flavors c l
    pub world : World flavors blocks ceiling w (tallied c l)

  module _ (w : Board) (c : Tally) (h : World flavors blocks ceiling w c) (n : ℕ) where
    abbrev q : Queue
    q = w.queue

    abbrev m : List ℕ
    m = w.pool

    abbrev t : Thread
    t = thread_at w n

    hand : Hand flavors blocks ceiling n (thread_at w) q m t c
    hand = in_hand w c n h

    refused : Kept (with_thread w n t) c []
    refused = record { fair = tt; world = subst (λ (x : Board). World flavors blocks ceiling x c) (sym (same-board w n)) h }

    numbered : tested q m t n ≡ Ok tt → n < length w.threads
    numbered e =
        let b : n < q.threads = passes-thread q m t n e in
        let a : q.threads ≡ length flavors = h.counts.same-threads in
        let d : length w.threads ≡ length flavors = h.sized in
        omega arith

    moved : (a : After) (l : List Note) → tested q m t n ≡ Ok tt → OutOf flavors blocks ceiling n (thread_at w) c a l → Kept (ran w n a) c l
    moved a l e o =
        record {
          fair = o.fair;
          world = put_back w (tallied c l) n a.ran.queue a.pool a.ran.thread (numbered e) h.sized o.hand;
        }

    -- ---- step and run

    -- a step's notes are those of a run with budget 1
    once-out : OutOf flavors blocks ceiling n (thread_at w) c (once m (step_of q m t)) (run_notes 1 q m n t)
    unfolding run_notes
    once-out =
        go (is_open (step_of q m t).stepped.answer)
        (state_good (step_of q m t).stepped.queue (after m (step_of q m t).touch) (step_of q m t).stepped.thread)
      where
        go : (b d : Bool)
            → OutOf flavors blocks ceiling n (thread_at w) c (once m (step_of q m t))
            (notes_of q n t (step_of q m t).stepped ++ cond b (cond d [] []) [])
        go true true = stop_out flavors blocks ceiling n (thread_at w) q m t c hand
        go true false = stop_out flavors blocks ceiling n (thread_at w) q m t c hand
        go false d = stop_out flavors blocks ceiling n (thread_at w) q m t c hand

    step_by : (r : Result Unit Refusal) → tested q m t n ≡ r
        → Kept (ran w n (step_tested q m t r)) c (unless_refused r (cond (is_idle t.call) [] (run_notes 1 q m n t)))
    step_by (Err r) e = refused
    step_by (Ok tt) e = go (is_idle t.call)
      where
        go : (b : Bool)
            → Kept (ran w n (cond b (refused_after q m t Refusal.Idle) (once m (step_of q m t)))) c (cond b [] (run_notes 1 q m n t))
        go true = refused
        go false = moved (once m (step_of q m t)) (run_notes 1 q m n t) e once-out

    run_by : (budget : ℕ) (r : Result Unit Refusal) → tested q m t n ≡ r
        → Kept (ran w n (run_tested q m t budget r)) c (unless_refused r (cond (is_idle t.call) [] (run_notes budget q m n t)))
    run_by budget (Err r) e = refused
    run_by budget (Ok tt) e = go (is_idle t.call)
      where
        go : (b : Bool)
            → Kept (ran w n (cond b (refused_after q m t Refusal.Idle) (run_from budget q m t))) c (cond b [] (run_notes budget q m n t))
        go true = refused
        go false = moved (run_from budget q m t) (run_notes budget q m n t) e (run_out flavors blocks ceiling n (thread_at w) budget q m t c hand)

    -- ---- begin and pop: an idle thread's record is changed

    changed : (u : Thread) → tested q m t n ≡ Ok tt → Mine flavors (state_of q m h.ghost) c n u → Kept (with_thread w n u) c []
    changed u e p =
        record {
          fair = tt;
          world =
              put_back w c n q m u (numbered e) h.sized
              (record { ghost = h.ghost; sound = h.sound; mine = p; theirs = λ j o. h.threads j; counts = h.counts });
        }

    idle-stage : is_idle t.call ≡ true → c.stages n ≡ nothing
    idle-stage e = subst (λ (call : Call). At c.tokens (c.stages n) (place_of call)) (idle-call t.call e) (h.threads n).stage

    opened-early : (what : Request) → c.stages n ≡ nothing → At c.tokens (c.stages n) (place_of (opened what))
    opened-early (Request.Push token) e = e
    opened-early Request.Steal e = e
    opened-early (Request.Batch limit) e = e
    opened-early (Request.Take limit) e = e
    opened-early Request.Len e = e
    opened-early Request.Empty e = e

    begin_by : (what : Request) (r : Result Unit Refusal) → tested q m t n ≡ r → Kept (with_thread w n (begin_tested t what r).thread) c []
    begin_by what (Err r) e = refused
    begin_by what (Ok tt) e =
        cond_elim (λ (b : Given Unit). Kept (with_thread w n b.thread) c []) (is_idle t.call) _ _
        (λ idle.
        cond_elim (λ (b : Given Unit). Kept (with_thread w n b.thread) c []) (limit_good (tested_as what)) _ _
        (λ limit.
        cond_elim (λ (b : Given Unit). Kept (with_thread w n b.thread) c []) (room_good (tested_as what) t.ring.count) _ _
        (λ room.
        changed (begun t what).thread e
        (record {
          ok = begun_ok (state_of q m h.ghost) n t what (h.threads n).ok limit room;
          stage = opened-early what (idle-stage idle);
          flavor = (h.threads n).flavor;
        }))
        (λ room. refused))
        (λ limit. refused))
        (λ idle. refused)

    pop-by : (r : Result Unit Refusal) → tested q m t n ≡ r → Kept (with_thread w n (pop_tested t r).thread) c []
    pop-by (Err r) e = refused
    pop-by (Ok tt) e =
        cond_elim (λ (p : Given (Option ℕ)). Kept (with_thread w n p.thread) c []) (is_idle t.call) _ _
        (λ idle.
        changed (after_pop t (popped t.ring)).thread e
        (record {
          ok = popped-ok (state_of q m h.ghost) n t (h.threads n).ok (idle-call t.call idle);
          stage = (h.threads n).stage;
          flavor = (popped-less t.ring).same ∙ (h.threads n).flavor;
        }))
        (λ idle. refused)

  pub keeps : (w : Board) (c : Tally) (ask : Ask) → World flavors blocks ceiling w c → Kept (asked w ask) c (asked_notes w ask)
  unfolding begin_entry pop_entry step_entry run_entry
  keeps w c (begins n what) h = begin_by w c h n what (tested w.queue w.pool (thread_at w n) n) refl
  keeps w c (pops n) h = pop-by w c h n (tested w.queue w.pool (thread_at w n) n) refl
  keeps w c (steps n) h = step_by w c h n (tested w.queue w.pool (thread_at w n) n) refl
  keeps w c (runs n budget) h = run_by w c h n budget (tested w.queue w.pool (thread_at w n) n) refl
