-- The tests of an entry that goes on with a call, and of one that wants none open: the first three, then IDLE or BUSY.
-- Below them, that the entries are defined so.
use Rattle.std.specs.Prelude.{Option, ℕ, ◌≡◌, refl, Bool, true, false, cond, List, Result, Ok, Err}
use Rattle.std.proofs.Common.{ap}
use Rattle.ring.specs.Ring.{popped}
use Rattle.state.specs.declared.Queue.{Queue}
use Rattle.state.specs.declared.Thread.{Thread}
use Rattle.state.specs.declared.Refusal.{Refusal}
use Rattle.state.specs.declared.Refusal.TheVariants.{Idle, Busy}
use Rattle.machine.specs.declared.Given.{Given}
use Rattle.machine.specs.Step.{After, is_idle, once, step_of, run_from}
use Rattle.machine.specs.Entry.{tested, refused_after, step_tested, step_entry, run_tested, run_entry, after_pop, not_given, pop_tested, pop_entry}

abbrev pub or_idle : Thread → Result Unit Refusal → Result Unit Refusal
or_idle t (Err r) = Err r
or_idle t (Ok tt) = cond (is_idle t.call) (Err Idle) (Ok tt)

abbrev pub or_busy : Thread → Result Unit Refusal → Result Unit Refusal
or_busy t (Err r) = Err r
or_busy t (Ok tt) = cond (is_idle t.call) (Ok tt) (Err Busy)

unfoldable pub tested_open : Queue → List ℕ → Thread → ℕ → Result Unit Refusal
tested_open q m t n = or_idle t (tested q m t n)

unfoldable pub tested_idle : Queue → List ℕ → Thread → ℕ → Result Unit Refusal
tested_idle q m t n = or_busy t (tested q m t n)

-- ---- a test that refuses, in two parts: b and then nothing more

passes-left : (b : Bool) (r : Refusal) → cond b (Err r) (Ok (tt {0})) ≡ Ok tt → b ≡ false
passes-left true r e = cc
passes-left false r e = refl

passes_right : (b : Bool) (r : Refusal) → cond b (Ok (tt {0})) (Err r) ≡ Ok tt → b ≡ true
passes_right true r e = refl
passes_right false r e = cc

module _ {A : Type 0} (f : Refusal → A) (y : A) where
  refuses_left : (b : Bool) (r s : Refusal) → cond b (Err s) (Ok (tt {0})) ≡ Err r → cond b (f s) y ≡ f r
  refuses_left true r s e = let z : s ≡ r = cc in ap f z
  refuses_left false r s e = cc

  refuses_right : (b : Bool) (r s : Refusal) → cond b (Ok (tt {0})) (Err s) ≡ Err r → cond b y (f s) ≡ f r
  refuses_right true r s e = cc
  refuses_right false r s e = let z : s ≡ r = cc in ap f z

-- ---- what passed

pub record Open (q : Queue) (m : List ℕ) (t : Thread) (n : ℕ) : Type 0 where
  pub passes : tested q m t n ≡ Ok tt
  pub begun : is_idle t.call ≡ false

pub record Vacant (q : Queue) (m : List ℕ) (t : Thread) (n : ℕ) : Type 0 where
  pub passes : tested q m t n ≡ Ok tt
  pub idle : is_idle t.call ≡ true

both_open : (t : Thread) (x : Result Unit Refusal) → or_idle t x ≡ Ok tt → (x ≡ Ok tt) × (is_idle t.call ≡ false)
both_open t (Err r) e = cc
both_open t (Ok tt) e = (refl, passes-left (is_idle t.call) Idle e)

both-idle : (t : Thread) (x : Result Unit Refusal) → or_busy t x ≡ Ok tt → (x ≡ Ok tt) × (is_idle t.call ≡ true)
both-idle t (Err r) e = cc
both-idle t (Ok tt) e = (refl, passes_right (is_idle t.call) Busy e)

module _ (q : Queue) (m : List ℕ) (t : Thread) (n : ℕ) where
  pub is_open : tested_open q m t n ≡ Ok tt → Open q m t n
  unfolding tested_open
  is_open e =
      let p = both_open t (tested q m t n) e in
      record { passes = p.0; begun = p.1 }

  pub is_vacant : tested_idle q m t n ≡ Ok tt → Vacant q m t n
  unfolding tested_idle
  is_vacant e =
      let p = both-idle t (tested q m t n) e in
      record { passes = p.0; idle = p.1 }

-- ---- what was refused

module _ (q : Queue) (m : List ℕ) (t : Thread) (r : Refusal) where
  step_by : (x : Result Unit Refusal) → or_idle t x ≡ Err r → step_tested q m t x ≡ refused_after q m t r
  step_by (Err s) e = let z : s ≡ r = cc in ap (refused_after q m t) z
  step_by (Ok tt) e = refuses_left {A = After} (refused_after q m t) (once m (step_of q m t)) (is_idle t.call) r Idle e

  run_by : (budget : ℕ) (x : Result Unit Refusal) → or_idle t x ≡ Err r → run_tested q m t budget x ≡ refused_after q m t r
  run_by budget (Err s) e = let z : s ≡ r = cc in ap (refused_after q m t) z
  run_by budget (Ok tt) e = refuses_left {A = After} (refused_after q m t) (run_from budget q m t) (is_idle t.call) r Idle e

  pop-by : (x : Result Unit Refusal) → or_busy t x ≡ Err r → pop_tested t x ≡ not_given t r
  pop-by (Err s) e = let z : s ≡ r = cc in ap (not_given t) z
  pop-by (Ok tt) e = refuses_right {A = Given (Option ℕ)} (not_given t) (after_pop t (popped t.ring)) (is_idle t.call) r Busy e

module _ (q : Queue) (m : List ℕ) (t : Thread) (n : ℕ) {r : Refusal} where
  pub step-not_open : tested_open q m t n ≡ Err r → step_entry q m t n ≡ refused_after q m t r
  unfolding tested_open step_entry
  step-not_open e = step_by q m t r (tested q m t n) e

  pub run-not_open : (budget : ℕ) → tested_open q m t n ≡ Err r → run_entry q m t n budget ≡ refused_after q m t r
  unfolding tested_open run_entry
  run-not_open budget e = run_by q m t r budget (tested q m t n) e

  pub pop-not-idle : tested_idle q m t n ≡ Err r → pop_entry q m t n ≡ not_given t r
  unfolding tested_idle pop_entry
  pop-not-idle e = pop-by q m t r (tested q m t n) e
