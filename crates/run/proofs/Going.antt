-- The loop of a run: `used` steps are made, and what is left of the budget runs from where the thread stands now.
use Rattle.std.specs.Prelude.{Ok}
use Prim.Native.Nat.{ℕ, suc, ◌+◌, ◌-◌, ◌<◌, ◌≤◌}
use mathlib.Core.Path.{◌≡◌, refl, sym, ap, ◌∙◌}
use mathlib.Core.Bool.{Bool, true, false, ◌&&◌}
use mathlib.Core.List.{List}
use native.Mathlib.Omega.{arith}
use native.Mathlib.Nat.{add-zero}
use lib.ListN.{length}
use Rattle.memory.specs.Touch.{after}
use Rattle.state.specs.Move.{with_call}
use Rattle.state.specs.List.{setup_good, shared_good, nexts_good, record_good, state_good}
use Rattle.state.specs.ListLaws.{both}
use Rattle.state.specs.declared.Queue.{Queue}
use Rattle.state.specs.declared.Answer.TheVariants.{Open}
use Rattle.state.specs.declared.Thread.{Thread}
use Rattle.state.specs.declared.Stepped.{Stepped}
use Rattle.wait.specs.declared.Wait.{Wait}
use Rattle.machine.specs.Entry.{tested, run_entry}
use Rattle.machine.specs.Step.{After, is_idle, is_open, step_of, done, counted, run_from}
use Rattle.wait.specs.Wait.{wait_of, waits, waited_call}
use Rattle.run.proofs.Keeps.{Kept, kept}
use Rattle.machine.specs.TestLaws.{good_record}
use Rattle.run.proofs.Waits.{run_on, run-stops, run-waits}

-- some steps more than a run made
abbrev added : ℕ → After → After
added k a =
    record {
      ran =
          record { queue = a.ran.queue; thread = a.ran.thread; answer = a.ran.answer; steps = a.ran.steps + k };
      pool = a.pool;
    }

abbrev with_steps : After → ℕ → After
with_steps a n = record { ran = record { queue = a.ran.queue; thread = a.ran.thread; answer = a.ran.answer; steps = n }; pool = a.pool }

added_none : (a : After) → a ≡ added 0 a
added_none a = ap (with_steps a) (sym (add-zero a.ran.steps))

added-counted : (k : ℕ) (a : After) → added k (counted a) ≡ added (k + 1) a
added-counted k a = let n = a.ran.steps in ap (with_steps a) (omega arith)

-- the loop's invariant, but for the length of the lent words: `all` is what the whole run gives back
pub record Going (all : After) (budget used : ℕ) (q : Queue) (m : List ℕ) (t : Thread) : Type 0 where
  pub within : used ≤ budget
  pub rest : all ≡ added used (run_from (budget - used) q m t)
  pub setup : setup_good q (length m) ≡ true
  pub state : state_good q m t ≡ true

pub going : (q : Queue) (m : List ℕ) (t : Thread) (budget : ℕ) → setup_good q (length m) ≡ true → state_good q m t ≡ true → Going (run_from budget q m t) budget 0 q m t
going q m t budget setup state =
    record {
      within = omega arith;
      rest =
          let e : budget ≡ budget - 0 = omega arith in
          ap (λ (n : ℕ). run_from n q m t) e ∙ added_none (run_from (budget - 0) q m t);
      setup = setup;
      state = state;
    }

-- no scan of the pool: where the nexts are good, the list is as the rest of it
no_scan : (a n b : Bool) → n ≡ true → (a && n && b) ≡ (a && b)
no_scan true true b e = refl
no_scan true false b e = cc
no_scan false n b e = refl

module _ (all : After) (budget used : ℕ) (q : Queue) (m : List ℕ) (t : Thread) (g : Going all budget used q m t) where
  -- the budget is used
  pub used_up : budget ≤ used → all ≡ done q m t Open used
  unfolding run_from
  used_up h =
      let e : budget - used ≡ 0 = omega (arith, g.within) in
      let z : 0 + used ≡ used = omega arith in
      g.rest ∙ ap (λ (n : ℕ). added used (run_from n q m t)) e ∙ ap (done q m t Open) z

  -- the rest of it is waiting
  pub waited-out : (w : Wait) → wait_of q m t.call ≡ w → waits w ≡ true → all ≡ done q m (with_call t (waited_call t.call w (budget - used))) Open budget
  waited-out w e h =
      let z : budget - used + used ≡ budget = omega (arith, g.within) in
      g.rest
      ∙ ap (added used) (run-waits q m t g.state w e h (budget - used))
      ∙ ap (done q m (with_call t (waited_call t.call w (budget - used))) Open) z

  left : used < budget → budget - used ≡ suc (budget - (used + 1))
  left h = omega arith

  more : used < budget → all ≡ added used (run_from (suc (budget - (used + 1))) q m t)
  more h = g.rest ∙ ap (λ (n : ℕ). added used (run_from n q m t)) (left h)

  stepped : Kept q m t
  stepped =
      let nexts = nexts_good m q.blocks q.blocks in
      let shared = (both (shared_good q && nexts) (record_good q t) g.state).0 in
      kept q m t g.setup (both (shared_good q) nexts shared).1 (good_record q m t g.state)

  module _ (h : used < budget) (s : Stepped) (n : List ℕ) (is : s ≡ (step_of q m t).stepped) (touches : n ≡ after m (step_of q m t).touch) where
    -- the test that a run makes of its own step, and what it stands for
    abbrev Test : Bool → Type 0
    Test b = (is_open s.answer && (shared_good s.queue && record_good s.queue s.thread)) ≡ b

    tells : (b : Bool) → Test b → (is_open s.answer && state_good s.queue n s.thread) ≡ b
    tells b e =
        let nexts : nexts_good n s.queue.blocks s.queue.blocks ≡ true = rw (is, touches) stepped.nexts in
        ap (λ (x : Bool). is_open s.answer && x)
        (no_scan (shared_good s.queue) (nexts_good n s.queue.blocks s.queue.blocks) (record_good s.queue s.thread) nexts)
        ∙ e

    -- the step ended the call, or left a state on the list
    pub stopped : Test false → all ≡ done s.queue n s.thread s.answer (used + 1)
    stopped e =
        let z : 1 + used ≡ used + 1 = omega arith in
        more h
        ∙ ap (added used) (run-stops (budget - (used + 1)) q m t (step_of q m t) refl (rw (is, touches) at (tells false e)))
        ∙ rw (is, touches, z)

    pub goes_on : Test true → Going all budget (used + 1) s.queue n s.thread
    goes_on e =
        let good = tells true e in
        record {
          within = omega arith;
          rest =
              more h
              ∙ ap (added used) (run_on (budget - (used + 1)) q m t (step_of q m t) refl (rw (is, touches) at good))
              ∙ added-counted used (run_from (budget - (used + 1)) (step_of q m t).stepped.queue (after m (step_of q m t).touch) (step_of q m t).stepped.thread)
              ∙ rw (is, touches);
          setup = rw (is, touches) stepped.setup;
          state = (both (is_open s.answer) (state_good s.queue n s.thread) good).1;
        }

-- ---- what run gives back, once its tests passed

module _ (q : Queue) (m : List ℕ) (t : Thread) (n budget : ℕ) where
  pub run-made : tested q m t n ≡ Ok tt → is_idle t.call ≡ false → run_entry q m t n budget ≡ run_from budget q m t
  unfolding run_entry
  run-made passes i = rw (passes, i)
