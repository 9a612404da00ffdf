-- Where nothing is owed yet, and what changes no call: the start, begin and ring pop; and the step, by threads.
use Prim.Native.Nat.{ℕ}
use mathlib.Core.Path.{◌≡◌, refl}
use native.Mathlib.Omega.{arith}
use lib.Dec.{eqb}
use Rattle.ring.specs.declared.RingPop.{RingPop}
use Rattle.state.specs.declared.Call.{Call}
use Rattle.state.specs.declared.Call.TheVariants.{Idle}
use Rattle.state.specs.declared.Thread.{Thread}
use Rattle.machine.specs.Step.{step_of}
use Rattle.machine.specs.Entry.{opened, begun, after_pop}
use Rattle.machine.specs.declared.Request.{Request}
use Rattle.invariant.specs.Ghost.{Held, Back}
use Rattle.invariant.specs.State.{State, T, H, own}
use Rattle.invariant.specs.Shared.{Shared}
use Rattle.invariant.specs.Lines.{ThreadOk}
use Rattle.invariant.specs.Kept.{stepped}
use Rattle.invariant.proofs.Facts.{put, cond_pair}
use Rattle.invariant.proofs.Steps.{step_kept}
use Rattle.settle.specs.Owed.{Owed}
use Rattle.settle.proofs.OwedFrame.{PushViews, TakeViews, same-push, same-take}
use Rattle.settle.proofs.OwedLocal.{stays}
use Rattle.settle.proofs.OwedKept.{owed-kept}

-- with no ticket pushed, no block held and none on its way back nobody owes anything, whatever the calls
pub nothing-owed : (s : State) (calls : ℕ → Call) → T s ≡ 0 → H s ≡ 0 → ((b j : ℕ) → own s b ≡ Held j → ⊥)
    → ((b l f j : ℕ) → own s b ≡ Back l f j → ⊥) → Owed s calls
nothing-owed s calls t h held back =
    record {
      installer = λ e. absurd (omega arith);
      mover = λ e. absurd (omega arith);
      held = λ b j e. absurd (held b j e);
      write = λ b l o p q r u. absurd (omega arith);
      link = λ b l p n r. absurd (omega arith);
      read = λ b l o p q f r u. absurd (omega arith);
      back = λ b l f j e. absurd (back b l f j e);
    }

-- it is the calls that count, place by place
pub same-calls : (s : State) (calls other : ℕ → Call) → ((j : ℕ) → other j ≡ calls j) → Owed s calls → Owed s other
same-calls s calls other e owed =
    record {
      installer = λ w. rw (e _) (owed.installer w);
      mover = λ w. rw (e _) (owed.mover w);
      held = λ b j w. rw (e j) (owed.held b j w);
      write = λ b l o p q r u. rw (e _) (owed.write b l o p q r u);
      link = λ b l p n r. rw (e _) (owed.link b l p n r);
      read = λ b l o p q f r u. rw (e _) (owed.read b l o p q f r u);
      back = λ b l f j w. rw (e j) (owed.back b l f j w);
    }

-- ---- begin and ring pop: an idle thread's record is changed

opened_views : (s : State) (what : Request) → PushViews Idle (opened what) × TakeViews s Idle (opened what)
opened_views s (Request.Push token) = (same-push Idle, same-take s Idle)
opened_views s Request.Steal = (same-push Idle, same-take s Idle)
opened_views s (Request.Batch limit) = (same-push Idle, same-take s Idle)
opened_views s (Request.Take limit) = (same-push Idle, same-take s Idle)
opened_views s Request.Len = (same-push Idle, same-take s Idle)
opened_views s Request.Empty = (same-push Idle, same-take s Idle)

pub begun-owed : (s : State) (i : ℕ) (calls : ℕ → Call) (t : Thread) (what : Request) → calls i ≡ Idle → Owed s calls
    → Owed s (put calls i (begun t what).thread.call)
begun-owed s i calls t what at owed =
    let v = opened_views s what in
    stays s calls i owed Idle (opened what) at v.0 v.1

pub popped-owed : (s : State) (i : ℕ) (calls : ℕ → Call) (t : Thread) (p : RingPop) → calls i ≡ t.call → Owed s calls
    → Owed s (put calls i (after_pop t p).thread.call)
popped-owed s i calls t p at owed = stays s calls i owed t.call t.call at (same-push t.call) (same-take s t.call)

-- ---- by threads

pub put-call : (threads : ℕ → Thread) (i : ℕ) (t : Thread) (j : ℕ) → (put threads i t j).call ≡ put (λ n. (threads n).call) i t.call j
put-call threads i t j =
    cond_pair (λ (u : Thread) (call : Call). u.call ≡ call) (eqb j i) t (threads j) t.call (threads j).call (λ e. refl) (λ e. refl)

pub step-owed : (s : State) (i : ℕ) (threads : ℕ → Thread) (h : Shared s) (ok : (j : ℕ) → ThreadOk s j (threads j))
    → Owed s (λ j. (threads j).call)
    → Owed (stepped s (step_of s.queue s.pool (threads i)) (step_kept s i (threads i) h (ok i)).ghost)
    (λ j. (put threads i (step_of s.queue s.pool (threads i)).stepped.thread j).call)
step-owed s i threads h ok owed =
    same-calls _ _ _ (put-call threads i (step_of s.queue s.pool (threads i)).stepped.thread)
    (owed-kept s i (λ j. (threads j).call) (threads i) h (ok i) refl
    (λ j. record { count = (threads j).ring.count; taken = (threads j).taken; ok = (ok j).call })
    owed)
