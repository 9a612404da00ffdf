-- What each entry that is handed a thread gives back, case by case, in the order of its tests.
use Rattle.std.specs.Prelude.{ℕ, ◌≡◌, true, false, List, Ok, Err}
use Rattle.ring.specs.Ring.{popped}
use Rattle.state.specs.List.{limit_good, room_good}
use Rattle.state.specs.declared.Queue.{Queue}
use Rattle.state.specs.declared.Thread.{Thread}
use Rattle.state.specs.declared.Refusal.{Refusal}
use Rattle.state.specs.declared.Refusal.TheVariants.{Idle, Busy, NoLimit, NoRoom}
use Rattle.machine.specs.declared.Request.{Request}
use Rattle.machine.specs.Step.{is_idle, once, step_of}
use Rattle.machine.specs.Entry.{tested, refused_after, step_entry, tested_as, not_given, begun, begin_entry, after_pop, pop_entry}

module _ (q : Queue) (m : List ℕ) (t : Thread) (n : ℕ) where
  pub step-refused : {r : Refusal} → tested q m t n ≡ Err r → step_entry q m t n ≡ refused_after q m t r
  unfolding step_entry
  step-refused e = rw e

  pub begin_refused : {r : Refusal} (what : Request) → tested q m t n ≡ Err r → begin_entry q m t n what ≡ not_given t r
  unfolding begin_entry
  begin_refused what e = rw e

  pub pop-refused : {r : Refusal} → tested q m t n ≡ Err r → pop_entry q m t n ≡ not_given t r
  unfolding pop_entry
  pop-refused e = rw e

  module _ (passes : tested q m t n ≡ Ok tt) where
    pub step-idle : is_idle t.call ≡ true → step_entry q m t n ≡ refused_after q m t Idle
    unfolding step_entry
    step-idle i = rw (passes, i)

    pub step-made : is_idle t.call ≡ false → step_entry q m t n ≡ once m (step_of q m t)
    unfolding step_entry
    step-made i = rw (passes, i)

    pub pop-busy : is_idle t.call ≡ false → pop_entry q m t n ≡ not_given t Busy
    unfolding pop_entry
    pop-busy i = rw (passes, i)

    pub pop-made : is_idle t.call ≡ true → pop_entry q m t n ≡ after_pop t (popped t.ring)
    unfolding pop_entry
    pop-made i = rw (passes, i)

    pub begin-busy : (what : Request) → is_idle t.call ≡ false → begin_entry q m t n what ≡ not_given t Busy
    unfolding begin_entry
    begin-busy what i = rw (passes, i)

    module _ (what : Request) (idle : is_idle t.call ≡ true) where
      pub begin-no-limit : limit_good (tested_as what) ≡ false → begin_entry q m t n what ≡ not_given t NoLimit
      unfolding begin_entry
      begin-no-limit l = rw (passes, idle, l)

      pub begin-no-room : limit_good (tested_as what) ≡ true → room_good (tested_as what) t.ring.count ≡ false → begin_entry q m t n what ≡ not_given t NoRoom
      unfolding begin_entry
      begin-no-room l r = rw (passes, idle, l, r)

      pub begin-made : limit_good (tested_as what) ≡ true → room_good (tested_as what) t.ring.count ≡ true → begin_entry q m t n what ≡ begun t what
      unfolding begin_entry
      begin-made l r = rw (passes, idle, l, r)
