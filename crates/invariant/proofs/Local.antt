-- Lines that change neither the shared state nor the ghost.
use Prim.Native.Nat.{ℕ}
use mathlib.Core.Path.{refl}
use mathlib.Core.List.{List}
use native.Mathlib.Nat.{le_refl}
use Rattle.memory.specs.Touch.{leaves}
use Rattle.state.specs.Move.{on, ends}
use Rattle.state.specs.declared.Call.{Call}
use Rattle.state.specs.declared.Answer.{Answer}
use Rattle.invariant.specs.State.{State}
use Rattle.invariant.specs.Shared.{Shared}
use Rattle.invariant.specs.Lines.{CallOk}
use Rattle.invariant.specs.Rely.{Rely}
use Rattle.invariant.specs.Kept.{Kept}

pub rely_refl : (j : ℕ) (s : State) → Rely j s s
rely_refl j s =
    record {
      blocks = refl;
      ceiling = refl;
      tail = le_refl _;
      head = le_refl _;
      tail-block = λ e h. refl;
      head-block = λ e h. refl;
      installing = λ e h. (refl, refl);
      leaving = λ e h. (refl, refl);
      pushed = λ k h. refl;
      pusher = λ k h. refl;
      claimer = λ k h. refl;
      chain = λ l h. refl;
      first = refl;
      held = λ b h. h;
      walk = λ b h. refl;
      owed-serves = λ b l o h1 h2 h3 h4 h5. h1;
      owed-unwritten = λ b l o h1 h2 h3 h4 h5. h5;
      owed-token = λ b l o h1 h2 h3 h4 h5. refl;
      claim = λ b l o h1 h2 h3 h4 h5 h6 h7. (h1, h5, h6, h7);
      wrote = λ b l o h1 h2 h3. h3;
    }

unfoldable pub goes_on : (s : State) (i count : ℕ) (taken : List ℕ) (call : Call) → Shared s → CallOk s i count taken call → Kept s i count taken (on s.queue call leaves)
goes_on s i count taken call h c = record { ghost = s.ghost; shared = h; call = c; others = λ j n. rely_refl j s }

unfoldable pub stops : (s : State) (i count : ℕ) (taken : List ℕ) (answer : Answer) → Shared s → Kept s i count taken (ends s.queue answer leaves)
stops s i count taken answer h = record { ghost = s.ghost; shared = h; call = tt; others = λ j n. rely_refl j s }
