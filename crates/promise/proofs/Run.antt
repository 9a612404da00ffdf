-- Steps and runs with a thread in hand: their notes are fair, and the board stays tied to the ghost and the notes.
use Prim.Native.Nat.{ℕ, zero, suc, ◌<◌}
use mathlib.Core.Path.{◌≡◌, refl, sym, subst, subst₂, ◌∙◌}
use mathlib.Core.Bool.{Bool, true, false, cond}
use mathlib.Core.List.{List, [], ◌++◌}
use native.Mathlib.Omega.{arith}
use lib.ListN.{length, get_or}
use Rattle.memory.specs.Touch.{after}
use Rattle.ring.specs.declared.Flavor.{Flavor}
use Rattle.state.specs.List.{state_good}
use Rattle.state.specs.Move.{Step}
use Rattle.state.specs.declared.Queue.{Queue}
use Rattle.state.specs.declared.Thread.{Thread}
use Rattle.machine.specs.Step.{After, step_of, once, counted, run_from, is_open}
use Rattle.history.specs.Log.{Note, line_notes, notes_of}
use Rattle.history.specs.History.{run_notes}
use Rattle.invariant.specs.State.{State}
use Rattle.invariant.specs.Kept.{StepKept, stepped}
use Rattle.invariant.proofs.Stable.{stable}
use Rattle.promise.specs.Promise.{Stage}
use Rattle.promise.proofs.Tally.{Tally, tallied, FairFrom, fair_append, tallied_append}
use Rattle.promise.proofs.Stage.{Place, At, place_of, at-grows, closes, end_notes, Closed}
use Rattle.promise.proofs.World.{state_of, Sound, Mine, Counts, Hand}
use Rattle.promise.proofs.Seen.{Seen}
use Rattle.promise.proofs.Step.{line_seen}
use Rattle.invariant.proofs.Steps.{step_kept}

-- the same stage among the same tokens
at_same : (a b : List ℕ) (x y : Stage) (place : Place) → a ≡ b → x ≡ y → At b y place → At a x place
at_same a b x y place p q h = subst₂ (λ (l : List ℕ) (z : Stage). At l z place) (sym p) (sym q) h

module _ (flavors : List Flavor) (s : State) (n : ℕ) (t : Thread) (c : Tally) (h : Sound s c) (step : Step) (k : StepKept s n step)
    (l : List Note) (seen : Seen flavors s n t c l step.stepped k.ghost) where
  abbrev noted : Tally
  noted = tallied c l

  abbrev all : Tally
  all = tallied noted (end_notes n step.stepped.answer)

  abbrev next : State
  next = stepped s step k.ghost

  closed : Closed flavors noted n step.stepped.thread.call (end_notes n step.stepped.answer)
  closed = closes flavors noted n step.stepped.thread.call step.stepped.answer seen.goes

  all_fair : FairFrom flavors c (l ++ end_notes n step.stepped.answer)
  all_fair = fair_append flavors c l (end_notes n step.stepped.answer) seen.fair closed.fair

  sound_after : Sound next all
  sound_after =
      record {
        shared = k.shared;
        size = rw closed.tokens seen.size;
        log = subst (λ (tokens : List ℕ). (i : ℕ) → i < length tokens → get_or tokens i 0 ≡ k.ghost.pushed i) (sym closed.tokens) seen.log;
        done = closed.done ∙ seen.done;
      }

  mine-after : Mine flavors s c n t → Mine flavors next all n step.stepped.thread
  mine-after m =
      record {
        ok = k.thread;
        stage = at_same all.tokens noted.tokens _ _ (place_of step.stepped.thread.call) closed.tokens refl closed.mine;
        flavor = seen.flavor ∙ m.flavor;
      }

  -- another thread's record is as it was
  theirs_after : (j : ℕ) → (j ≡ n → ⊥) → (u : Thread) → Mine flavors s c j u → Mine flavors next all j u
  theirs_after j o u m =
      record {
        ok = stable j s next u h.shared (k.others j o) m.ok;
        stage =
            at_same all.tokens noted.tokens (all.stages j) (c.stages j) (place_of u.call) closed.tokens
            (closed.others j o ∙ seen.others j o)
            (at-grows c.tokens noted.tokens (c.stages j) (place_of u.call) seen.grows m.stage);
        flavor = m.flavor;
      }

  counts-after : (threads blocks ceiling : ℕ) → Counts threads blocks ceiling s.queue → Counts threads blocks ceiling step.stepped.queue
  counts-after threads blocks ceiling p =
      let r = k.others (suc n) (λ e. omega arith) in
      record {
        same-threads = seen.threads ∙ p.same-threads;
        same_blocks = r.blocks ∙ p.same_blocks;
        same-ceiling = r.ceiling ∙ p.same-ceiling;
      }

module _ (flavors : List Flavor) (blocks ceiling n : ℕ) (others : ℕ → Thread) where
  -- from the tally c: what an entry leaves, with its notes
  pub record Out (c : Tally) (q : Queue) (m : List ℕ) (t : Thread) (l : List Note) : Type 0 where
    pub fair : FairFrom flavors c l
    pub hand : Hand flavors blocks ceiling n others q m t (tallied c l)

  pub step-out : (q : Queue) (m : List ℕ) (t : Thread) (c : Tally) → Hand flavors blocks ceiling n others q m t c
      → Out c (step_of q m t).stepped.queue (after m (step_of q m t).touch) (step_of q m t).stepped.thread (notes_of q n t (step_of q m t).stepped)
  unfolding notes_of
  step-out q m t c h =
      let s : State = state_of q m h.ghost in
      let k : StepKept s n (step_of q m t) = step_kept s n t h.sound.shared h.mine.ok in
      let l : List Note = line_notes q n t (step_of q m t).stepped.thread t.call in
      let e : List Note = end_notes n (step_of q m t).stepped.answer in
      let seen : Seen flavors s n t c l (step_of q m t).stepped k.ghost = line_seen flavors s n t c h.sound h.mine k in
      record {
        fair = all_fair flavors s n t c h.sound (step_of q m t) k l seen;
        hand =
            subst
            (λ (x : Tally). Hand flavors blocks ceiling n others (step_of q m t).stepped.queue (after m (step_of q m t).touch) (step_of q m t).stepped.thread x)
            (sym (tallied_append c l e))
            (record {
              ghost = k.ghost;
              sound = sound_after flavors s n t c h.sound (step_of q m t) k l seen;
              mine = mine-after flavors s n t c h.sound (step_of q m t) k l seen h.mine;
              theirs = λ j o. theirs_after flavors s n t c h.sound (step_of q m t) k l seen j o (others j) (h.theirs j o);
              counts = counts-after flavors s n t c h.sound (step_of q m t) k l seen (length flavors) blocks ceiling h.counts;
            });
      }

  abbrev pub OutOf : Tally → After → List Note → Type 0
  OutOf c a l = Out c a.ran.queue a.pool a.ran.thread l

  -- one after the other
  then : (c : Tally) (q : Queue) (m : List ℕ) (t : Thread) (l : List Note) (a : After) (more : List Note) → Out c q m t l → OutOf (tallied c l) a more
      → OutOf c a (l ++ more)
  then c q m t l a more p r =
      record {
        fair = fair_append flavors c l more p.fair r.fair;
        hand =
            subst (λ (x : Tally). Hand flavors blocks ceiling n others a.ran.queue a.pool a.ran.thread x)
            (sym (tallied_append c l more))
            r.hand;
      }

  -- nothing more
  rest : (q : Queue) (m : List ℕ) (t : Thread) (c : Tally) → Hand flavors blocks ceiling n others q m t c → Out c q m t []
  rest q m t c h = record { fair = tt; hand = h }

  abbrev StepOut : Queue → List ℕ → Thread → Tally → List Note → Type 0
  StepOut q m t c l = OutOf c (once m (step_of q m t)) l

  module _ (q : Queue) (m : List ℕ) (t : Thread) (c : Tally) (p : StepOut q m t c (notes_of q n t (step_of q m t).stepped)) where
    abbrev step-tally : Tally
    step-tally = tallied c (notes_of q n t (step_of q m t).stepped)

    stop : StepOut q m t c (notes_of q n t (step_of q m t).stepped ++ [])
    stop = then c _ _ _ _ (once m (step_of q m t)) [] p (rest _ _ _ _ p.hand)

    -- by the two tests after the step: whether the call is still open, and the list
    go : (a : After) (l : List Note) → OutOf step-tally a l → (b d : Bool)
        → OutOf c (cond b (cond d (counted a) (once m (step_of q m t))) (once m (step_of q m t)))
        (notes_of q n t (step_of q m t).stepped ++ cond b (cond d l []) [])
    go a l r true true = then c _ _ _ _ (counted a) l p r
    go a l r true false = stop
    go a l r false d = stop

  pub stop_out : (q : Queue) (m : List ℕ) (t : Thread) (c : Tally) → Hand flavors blocks ceiling n others q m t c
      → OutOf c (once m (step_of q m t)) (notes_of q n t (step_of q m t).stepped ++ [])
  stop_out q m t c h = stop q m t c (step-out q m t c h)

  pub run_out : (budget : ℕ) (q : Queue) (m : List ℕ) (t : Thread) (c : Tally) → Hand flavors blocks ceiling n others q m t c
      → OutOf c (run_from budget q m t) (run_notes budget q m n t)
  unfolding run_from run_notes
  run_out zero q m t c h = rest q m t c h
  run_out (suc budget) q m t c h =
      let p = step-out q m t c h in
      go q m t c p (run_from budget (step_of q m t).stepped.queue (after m (step_of q m t).touch) (step_of q m t).stepped.thread)
      (run_notes budget (step_of q m t).stepped.queue (after m (step_of q m t).touch) n (step_of q m t).stepped.thread)
      (run_out budget (step_of q m t).stepped.queue (after m (step_of q m t).touch) (step_of q m t).stepped.thread _ p.hand)
      (is_open (step_of q m t).stepped.answer)
      (state_good (step_of q m t).stepped.queue (after m (step_of q m t).touch) (step_of q m t).stepped.thread)
