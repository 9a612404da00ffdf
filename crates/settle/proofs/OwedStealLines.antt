-- What is owed across S10 to S14, with each line's outcomes.
use Prim.Native.Nat.{ℕ, ◌+◌, ◌*◌}
use mathlib.Core.Path.{◌≡◌}
use mathlib.Core.Bool.{cond}
use mathlib.Core.List.{List}
use lib.Dec.{eqb}
use borrow.Author.Tests.{eqb-true, eqb-false}
use Rattle.memory.specs.Touch.{leaves}
use Rattle.state.specs.Move.{Move}
use Rattle.state.specs.declared.Kind.{Kind}
use Rattle.state.specs.declared.Claim.{Claim}
use Rattle.state.specs.declared.Won.{Won}
use Rattle.state.specs.declared.StealLine.{StealLine}
use Rattle.state.specs.declared.StealLine.TheVariants.{S10, S11, S12, S13, S14}
use Rattle.state.specs.declared.Call.{Call}
use Rattle.state.specs.declared.Call.TheVariants.{Steal}
use Rattle.state.specs.declared.Stepped.{Stepped}
use Rattle.state.specs.declared.Thread.{Thread}
use Rattle.machine.specs.Steal.{s10, s11, s12, s13, s14, first, past}
use Rattle.invariant.specs.Ghost.{Ghost, Free}
use Rattle.invariant.specs.State.{State, lp, R, D}
use Rattle.invariant.specs.Shared.{Shared}
use Rattle.invariant.specs.Lines.{StealOk}
use Rattle.invariant.specs.Kept.{moved, stepped}
use Rattle.invariant.proofs.Facts.{put, cond_elim, cond_pair}
use Rattle.invariant.proofs.Lower.{with_own, backed}
use Rattle.invariant.proofs.Pool.{given}
use Rattle.settle.specs.Owed.{Owed}
use Rattle.settle.proofs.OwedFrame.{Line}
use Rattle.settle.proofs.OwedLocal.{s10-on-owed, s10-short-owed, s12-on-owed}
use Rattle.settle.proofs.OwedReclaim.{s10-ended-owed, s11-told-owed, s11-on-owed, s11-done-owed}
use Rattle.settle.proofs.OwedWalk.{s12-read-owed, s13-read-owed, s13-hand-owed, s14-freed-owed}

module _ (s : State) (calls : ℕ → Call) (i : ℕ) (h : Shared s) (lines : (j : ℕ) → Line s j (calls j)) (owed : Owed s calls) where
  abbrev Goes : Move → Ghost → Type 0
  Goes m g = Owed (moved s m g) (put calls i m.made.call)

  abbrev Steps : Stepped → Ghost → Type 0
  Steps m g = Owed (stepped s (record { stepped = m; touch = leaves }) g) (put calls i m.thread.call)

  pub s10-owed : (t : Thread) (k : Kind) (c : Claim) (slot : ℕ) → StealOk s i t.ring.count t.taken (S10 k c slot)
      → calls i ≡ Steal (S10 k c slot)
      → Steps (s10 s.queue s.pool t k c slot)
      (cond (eqb (slot + 1) (past c))
      (cond (eqb (past c) 63) (with_own s.ghost (backed s c.block (lp c.head.raw) (first c) i)) s.ghost)
      s.ghost)
  unfolding s10
  s10-owed t k c slot ok at =
      cond_pair Steps (eqb (slot + 1) (past c)) _ _ _ _
      (λ last.
      cond_pair (λ (line : StealLine) (g : Ghost). Owed (record { queue = s.queue; pool = s.pool; ghost = g }) (put calls i (Steal line)))
      (eqb (past c) 63) _ _ _ _
      (λ e. s10-ended-owed s i c _ h calls lines owed k t.ring.count t.taken slot ok (eqb-true (past c) 63 e) at)
      (λ e. s10-short-owed s calls i owed k c slot _ at (eqb-false (past c) 63 e)))
      (λ more. s10-on-owed s calls i owed k c slot at)

  module _ (count : ℕ) (taken : List ℕ) (won : Won) where
    pub s11-owed : (c : Claim) (slot : ℕ) → StealOk s i count taken (S11 won c slot) → calls i ≡ Steal (S11 won c slot)
        → Goes (s11 s.queue s.pool won c slot)
        (cond (D s c.block slot) (with_own s.ghost (backed s c.block (lp c.head.raw) (first c) i)) s.ghost)
    unfolding s11
    s11-owed c slot ok at =
        cond_pair Goes (D s c.block slot) _ _ _ _
        (λ d. s11-told-owed s i c won h calls lines owed slot ok at d)
        (λ d.
        cond_elim (λ (m : Move). Goes m s.ghost) (eqb (slot + 1) (past c)) _ _
        (λ e. s11-done-owed s i c won h calls lines owed slot ok at (eqb-true (slot + 1) (past c) e) d)
        (λ e. s11-on-owed s i c won h calls lines owed slot ok at))

    pub s12-owed : (b w : ℕ) (ok : StealOk s i count taken (S12 won b w)) → calls i ≡ Steal (S12 won b w)
        → Goes (s12 s.queue s.pool won b w) (cond (R s b w) (with_own s.ghost (backed s b ok.lap w i)) s.ghost)
    unfolding s12
    s12-owed b w ok at =
        cond_pair Goes (R s b w) _ _ _ _
        (λ e. s12-read-owed s i won b w h calls lines owed ok at)
        (λ e. s12-on-owed s calls i owed won b w at)

    pub s13-owed : (b w : ℕ) (ok : StealOk s i count taken (S13 won b w)) → calls i ≡ Steal (S13 won b w)
        → Goes (s13 s.queue s.pool won b w)
        (cond (R s b w) (with_own s.ghost (backed s b ok.lap w i))
        (with_own s.ghost (backed s b ok.lap (w + 1) (s.ghost.claimer (63 * ok.lap + w)))))
    unfolding s13
    s13-owed b w ok at =
        cond_pair Goes (R s b w) _ _ _ _
        (λ e. s13-read-owed s i won b w h calls lines owed ok at)
        (λ e. s13-hand-owed s i won b w h calls lines owed ok at e)

    pub s14-owed : (b : ℕ) → StealOk s i count taken (S14 won b) → calls i ≡ Steal (S14 won b)
        → Goes (s14 s.queue won b) (given s.ghost b Free)
    s14-owed b ok at = s14-freed-owed s i won b h calls lines owed ok at
