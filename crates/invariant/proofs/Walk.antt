-- The walk down a block: S12 and S13. READ seen, the frontier sinks by a slot; else S13 leaves DESTROY there, and the
-- slot's claimer carries the walk on.
use Prim.Native.Nat.{ℕ, ◌+◌, ◌*◌, ◌<◌}
use mathlib.Core.Path.{◌≡◌, refl, ap, ◌∙◌}
use mathlib.Core.Bool.{true, cond}
use mathlib.Core.List.{List}
use native.Mathlib.Omega.{arith}
use Rattle.memory.specs.Touch.{leaves}
use Rattle.memory.specs.declared.Mark.TheVariants.{Destroy}
use Rattle.state.specs.declared.Won.{Won}
use Rattle.state.specs.declared.Call.TheVariants.{Idle, Steal}
use Rattle.state.specs.declared.StealLine.TheVariants.{S12, S13}
use Rattle.state.specs.declared.Answer.TheVariants.{Open}
use Rattle.state.specs.Move.{Move}
use Rattle.machine.specs.Steal.{s12, s13, walk_below, answer_of}
use Rattle.invariant.specs.Ghost.{Back, some, lap_of, resp}
use Rattle.invariant.specs.State.{State, R, own}
use Rattle.invariant.specs.Shared.{Shared}
use Rattle.invariant.specs.Lines.{StealOk, WalkOk}
use Rattle.invariant.specs.Kept.{Kept}
use Rattle.invariant.proofs.Facts.{cond_elim, cond-read, clash, put_same}
use Rattle.invariant.proofs.Local.{goes_on}
use Rattle.invariant.proofs.Lower.{with_own, changed, changes, backed, Quiet, quiet_trans, differ, walks_on, lower-shared, lower-quiet}
use Rattle.invariant.proofs.Mark.{marks, marked, mark-shared, mark-quiet}

module _ (s : State) (i : ℕ) (won : Won) (b w : ℕ) (h : Shared s) (k : WalkOk s i won b (w + 1)) where
  abbrev l : ℕ
  l = k.lap

  inside : w < 63
  inside = omega (arith, k.below)

  lap-is : lap_of (own s b) ≡ some l
  lap-is = ap lap_of k.own

  -- READ seen: the slot is written, and nobody's top slot
  module _ (seen : R s b w ≡ true) where
    sunk-shared : Shared (changed s s.pool (backed s b l w i))
    sunk-shared =
        lower-shared s h b l (w + 1) i k.own w i (omega arith)
        (λ r v c d.
        let e : r ≡ w = omega arith in
        rw e (h.read-written b l w lap-is inside seen))

    sunk-quiet : (j : ℕ) → (j ≡ i → ⊥) → Quiet j s s.pool (backed s b l w i)
    sunk-quiet j n =
        lower-quiet s h b l (w + 1) i k.own w i (omega arith) j n
        (λ r v c m d u.
        let z : r ≡ w → ⊥ = λ e. clash (R s b r) (rw e seen) u in
        omega arith)

    sunk-back : backed s b l w i b ≡ Back l w i
    sunk-back = put_same s.ghost.own b (Back l w i)

    -- DESTROY at the slot is then above the frontier
    passed-shared : Shared (changed s (marked s b w Destroy) (backed s b l w i))
    passed-shared =
        mark-shared (changed s s.pool (backed s b l w i)) sunk-shared b l w Destroy (ap lap_of sunk-back) inside (λ e. differ (cc))
        (λ e. differ (cc))
        (λ e. (rw sunk-back (omega arith), k.below))

    passed-quiet : (j : ℕ) → (j ≡ i → ⊥) → Quiet j s (marked s b w Destroy) (backed s b l w i)
    passed-quiet j n =
        quiet_trans j s s.pool (marked s b w Destroy) (backed s b l w i) (backed s b l w i) (sunk-quiet j n)
        (mark-quiet (changed s s.pool (backed s b l w i)) sunk-shared b l w Destroy (ap lap_of sunk-back) inside (λ e. differ (cc)) j
        (λ e. differ (cc))
        (λ e m u. clash (R s b w) seen u))

  -- HAND: READ not seen. The slot's claimer t carries the walk on, and DESTROY in its top slot tells it so.
  abbrev t : ℕ
  t = s.ghost.claimer (63 * l + w)

  given-shared : Shared (changed s s.pool (backed s b l (w + 1) t))
  given-shared = lower-shared s h b l (w + 1) i k.own (w + 1) t (omega arith) (λ r v c d. absurd (omega arith))

  given-quiet : (j : ℕ) → (j ≡ i → ⊥) → Quiet j s s.pool (backed s b l (w + 1) t)
  given-quiet j n = lower-quiet s h b l (w + 1) i k.own (w + 1) t (omega arith) j n (λ r v c m d u. d)

  given_back : backed s b l (w + 1) t b ≡ Back l (w + 1) t
  given_back = put_same s.ghost.own b (Back l (w + 1) t)

  handed-shared : Shared (changed s (marked s b w Destroy) (backed s b l (w + 1) t))
  handed-shared =
      mark-shared (changed s s.pool (backed s b l (w + 1) t)) given-shared b l w Destroy (ap lap_of given_back) inside (λ e. differ (cc))
      (λ e. differ (cc))
      (λ e. (rw given_back (omega arith), k.below))

  handed-quiet : (j : ℕ) → (j ≡ i → ⊥) → Quiet j s (marked s b w Destroy) (backed s b l (w + 1) t)
  handed-quiet j n =
      quiet_trans j s s.pool (marked s b w Destroy) (backed s b l (w + 1) t) (backed s b l (w + 1) t) (given-quiet j n)
      (mark-quiet (changed s s.pool (backed s b l (w + 1) t)) given-shared b l w Destroy (ap lap_of given_back) inside (λ e. differ (cc)) j
      (λ e. differ (cc))
      (λ e m u. ap resp given_back ∙ ap some m))

pub s12-kept : (s : State) (i count : ℕ) (taken : List ℕ) (won : Won) (b slot : ℕ) → Shared s → StealOk s i count taken (S12 won b slot)
    → Kept s i count taken (s12 s.queue s.pool won b slot)
unfolding s12
s12-kept s i count taken won b w h k =
    cond_elim (λ (m : Move). Kept s i count taken m) (R s b w) _ _
    (λ e.
    changes s i count taken (Steal (walk_below won b w)) Open leaves (backed s b k.lap w i)
    (sunk-shared s i won b w h k e)
    (sunk-quiet s i won b w h k e)
    (walks_on s s.pool i count taken won b k.lap w (inside s i won b w h k) k.answer))
    (λ e. goes_on s i count taken (Steal (S13 won b w)) h k)

pub s13-kept : (s : State) (i count : ℕ) (taken : List ℕ) (won : Won) (b slot : ℕ) → Shared s → StealOk s i count taken (S13 won b slot)
    → Kept s i count taken (s13 s.queue s.pool won b slot)
unfolding s13
s13-kept s i count taken won b w h k =
    cond_elim (λ (m : Move). Kept s i count taken m) (R s b w) _ _
    (λ e.
    changes s i count taken (Steal (walk_below won b w)) Open (marks s b w Destroy) (backed s b k.lap w i)
    (passed-shared s i won b w h k e)
    (passed-quiet s i won b w h k e)
    (walks_on s (marked s b w Destroy) i count taken won b k.lap w (inside s i won b w h k) k.answer))
    (λ e.
    changes s i count taken Idle (answer_of won) (marks s b w Destroy) (backed s b k.lap (w + 1) (s.ghost.claimer (63 * k.lap + w)))
    (handed-shared s i won b w h k)
    (handed-quiet s i won b w h k)
    tt)

-- the ghosts that are chosen
module _ (s : State) (i count : ℕ) (taken : List ℕ) (won : Won) (b w : ℕ) (h : Shared s) where
  pub s12-ghost : (ok : StealOk s i count taken (S12 won b w))
      → (s12-kept s i count taken won b w h ok).ghost ≡ cond (R s b w) (with_own s.ghost (backed s b ok.lap w i)) s.ghost
  unfolding s12 s12-kept changes goes_on
  s12-ghost ok =
      cond-read (λ (m : Move). Kept s i count taken m) (λ m k. k.ghost) (R s b w) _ _ _ _ _ _ (λ e. refl) (λ e. refl)

  pub s13-ghost : (ok : StealOk s i count taken (S13 won b w))
      → (s13-kept s i count taken won b w h ok).ghost
      ≡ cond (R s b w) (with_own s.ghost (backed s b ok.lap w i))
      (with_own s.ghost (backed s b ok.lap (w + 1) (s.ghost.claimer (63 * ok.lap + w))))
  unfolding s13 s13-kept changes
  s13-ghost ok =
      cond-read (λ (m : Move). Kept s i count taken m) (λ m k. k.ghost) (R s b w) _ _ _ _ _ _ (λ e. refl) (λ e. refl)
