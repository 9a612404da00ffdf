-- The entries that step no call: begin opens one at its first line, and a ring pop shortens an idle thread's ring.
use Prim.Native.Nat.{ℕ, ◌-◌, ◌≤◌}
use mathlib.Core.Path.{◌≡◌, sym, subst}
use mathlib.Core.Bool.{true}
use mathlib.Core.List.{List}
use native.Mathlib.Omega.{arith}
use Rattle.ring.specs.Ring.{popped}
use Rattle.ring.specs.Laws.{popped-less}
use Rattle.state.specs.List.{limit_good, room_good}
use Rattle.state.specs.declared.Call.{Call}
use Rattle.state.specs.declared.Call.TheVariants.{Idle}
use Rattle.state.specs.declared.Thread.{Thread}
use Rattle.machine.specs.Entry.{opened, tested_as, begun, after_pop}
use Rattle.machine.specs.declared.Request.{Request}
use Rattle.invariant.specs.State.{State}
use Rattle.invariant.specs.Lines.{CallOk, ThreadOk}
use Rattle.invariant.proofs.Good.{both}

-- begin's own tests are what its first line keeps
opened-ok : (s : State) (i count : ℕ) (taken : List ℕ) (what : Request) → limit_good (tested_as what) ≡ true
    → room_good (tested_as what) count ≡ true → CallOk s i count taken (opened what)
opened-ok s i count taken (Request.Push token) l r = tt
opened-ok s i count taken Request.Steal l r = both l r
opened-ok s i count taken (Request.Batch limit) l r = both l r
opened-ok s i count taken (Request.Take limit) l r = both l r
opened-ok s i count taken Request.Len l r = tt
opened-ok s i count taken Request.Empty l r = tt

pub begun_ok : (s : State) (i : ℕ) (t : Thread) (what : Request) → ThreadOk s i t → limit_good (tested_as what) ≡ true
    → room_good (tested_as what) t.ring.count ≡ true → ThreadOk s i (begun t what).thread
begun_ok s i t what p l r =
    record {
      tokens = p.tokens;
      count = p.count;
      taken = p.taken;
      call = opened-ok s i t.ring.count t.taken what l r;
    }

pub popped-ok : (s : State) (i : ℕ) (t : Thread) → ThreadOk s i t → t.call ≡ Idle
    → ThreadOk s i (after_pop t (popped t.ring)).thread
popped-ok s i t p idle =
    let less = popped-less t.ring in
    let held : t.ring.count ≤ 64 = p.count in
    let fewer : (popped t.ring).ring.count ≡ t.ring.count - 1 = less.fewer in
    record {
      tokens = less.sized p.tokens;
      count = omega arith;
      taken = p.taken;
      call =
          subst (λ (c : Call). CallOk s i (popped t.ring).ring.count t.taken c) (sym idle) tt;
    }
