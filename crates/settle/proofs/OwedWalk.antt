-- What is owed across the walk down a block: S12, S13 and S14.
use Prim.Native.Nat.{ℕ, ◌+◌, ◌*◌, ◌-◌, ◌≤◌, ◌<◌}
use mathlib.Core.Path.{◌≡◌, refl, sym, ap}
use mathlib.Core.Bool.{true, false}
use native.Mathlib.Omega.{arith}
use Rattle.memory.specs.Touch.{frees}
use Rattle.memory.specs.declared.Mark.TheVariants.{Write, Destroy}
use Rattle.state.specs.declared.Won.{Won}
use Rattle.state.specs.declared.StealLine.TheVariants.{S12, S13, S14}
use Rattle.state.specs.declared.Call.{Call}
use Rattle.state.specs.declared.Call.TheVariants.{Idle, Steal}
use Rattle.machine.specs.Steal.{walk_below}
use Rattle.invariant.specs.Ghost.{Own, Free, Held, some, lap_of, front}
use Rattle.invariant.specs.State.{State, lp, H, nc, R, own}
use Rattle.invariant.specs.Shared.{Shared}
use Rattle.invariant.specs.Lines.{WalkOk}
use Rattle.invariant.proofs.Facts.{put, clash}
use Rattle.invariant.proofs.Lower.{changed, backed, differ, put_elim}
use Rattle.invariant.proofs.Mark.{marked, now-marked}
use Rattle.invariant.proofs.Pool.{given-on, served, s14-changes}
use Rattle.settle.specs.Views.{leaves, holds, Reads, Carries}
use Rattle.settle.specs.Owed.{Owed}
use Rattle.settle.proofs.OwedFrame.{Line, TakeOwed, TakeSame, PushViews, named, named-now, all-owed, same-push, back-still}
use Rattle.settle.proofs.OwedPush.{given-push}
use Rattle.settle.proofs.OwedPushLines.{given-take}
use Rattle.settle.proofs.OwedLower.{walk_carries, lower-push, lower-take}
use Rattle.settle.proofs.OwedHand.{reader_carries}
use Rattle.settle.proofs.OwedReclaim.{wrote_on, next-on, told-on, unread}

module _ (s : State) (i : ℕ) (won : Won) (b w : ℕ) (h : Shared s) (calls : ℕ → Call) (lines : (j : ℕ) → Line s j (calls j)) (owed : Owed s calls)
    (ok : WalkOk s i won b (w + 1)) where
  abbrev l : ℕ
  l = ok.lap

  abbrev walk : Call
  walk = Steal (walk_below won b w)

  inside : w < 63
  inside = omega (arith, ok.below)

  -- READ seen: the frontier sinks by the slot
  pub s12-read-owed : calls i ≡ Steal (S12 won b w) → Owed (changed s s.pool (backed s b l w i)) (put calls i walk)
  s12-read-owed at =
      all-owed after (put calls i walk)
      (lower-push s h b l (w + 1) i ok.own w i (omega arith) s.pool calls lines owed walk (λ a o q. refl) (λ a. refl) (rw at (same-push Idle)))
      (lower-take s h b l (w + 1) i ok.own w i (omega arith) s.pool calls lines owed walk
      (λ a o q u. u)
      (λ a o q d. d)
      (λ f. clash false (rw at at f) refl)
      (λ a k o p q z v. absurd (rw at at v))
      (λ a k y n v. absurd (n (sym (rw at at v).0)))
      (named-now (λ m. Carries after m b l w) calls i i walk refl (walk_carries after won b l w)))
    where
      after : State
      after = changed s s.pool (backed s b l w i)

  -- S13 leaves DESTROY in the slot
  module _ (at : calls i ≡ Steal (S13 won b w)) where
    not-write : Write ≡ Destroy → ⊥
    not-write e = differ (cc)

    serves : lap_of (own s b) ≡ some l
    serves = ap lap_of ok.own

    -- the frontier g is the slot, or the one above it, with t to carry the block on
    passed : (g t : ℕ) → g ≤ w + 1 → (call : Call) → PushViews Idle call
        → Carries (changed s (marked s b w Destroy) (backed s b l g t)) (put calls i call t) b l g
        → Owed (changed s (marked s b w Destroy) (backed s b l g t)) (put calls i call)
    passed g t less call views carrier =
        all-owed (changed s (marked s b w Destroy) owner) (put calls i call)
        (lower-push s h b l (w + 1) i ok.own g t less (marked s b w Destroy) calls lines owed call
        (wrote_on s h b l w Destroy serves inside not-write owner)
        (next-on s h b l w Destroy serves inside not-write owner)
        (rw at views))
        (lower-take s h b l (w + 1) i ok.own g t less (marked s b w Destroy) calls lines owed call
        (unread s h b l w Destroy serves inside not-write owner)
        (told-on s h b l w Destroy serves inside not-write owner)
        (λ f. clash false (rw at at f) refl)
        (λ a k o p q z v. absurd (rw at at v))
        (λ a k y n v. absurd (n (sym (rw at at v).0)))
        carrier)
      where
        owner : ℕ → Own
        owner = backed s b l g t

    pub s13-read-owed : Owed (changed s (marked s b w Destroy) (backed s b l w i)) (put calls i walk)
    s13-read-owed =
        passed w i (omega arith) walk (same-push Idle)
        (named-now (λ m. Carries (changed s (marked s b w Destroy) (backed s b l w i)) m b l w) calls i i walk refl
        (walk_carries (changed s (marked s b w Destroy) (backed s b l w i)) won b l w))

    -- HAND: the slot is not marked, so its claimer t still reads
    abbrev t : ℕ
    t = s.ghost.claimer (63 * l + w)

    abbrev handed : State
    handed = changed s (marked s b w Destroy) (backed s b l (w + 1) t)

    still-reads : R s b w ≡ false → Reads (calls t) (63 * l + w)
    still-reads u =
        let below : l < lp (H s) = h.back_to b l (w + 1) i ok.own in
        owed.read b l w serves inside (omega (arith, ap front ok.own)) (omega arith) u

    pub s13-hand-owed : R s b w ≡ false → Owed handed (put calls i Idle)
    s13-hand-owed u =
        passed (w + 1) t (omega arith) Idle (same-push Idle)
        (named (λ m. Carries handed m b l (w + 1)) calls i t Idle
        (reader_carries s handed h b l w i ok.own inside (now-marked s h b l w Destroy serves inside) t (calls t) (lines t) (still-reads u))
        (λ e v. absurd (rw (e, at) at (still-reads u))))

-- S14: the block goes back to the pool, and nobody else carries it
module _ (s : State) (i : ℕ) (won : Won) (b : ℕ) (h : Shared s) (calls : ℕ → Call) (lines : (j : ℕ) → Line s j (calls j)) (owed : Owed s calls)
    (ok : WalkOk s i won b 0) (at : calls i ≡ Steal (S14 won b)) where
  abbrev freed : State
  freed = given-on s b Free (frees b)

  s14-take : TakeOwed freed (put calls i Idle)
  s14-take =
      record {
        mover = λ e. named (λ m. leaves m ≡ true) calls i (s.ghost.claimer (nc s - 1)) Idle (owed.mover e) (λ y f. rw at at f);
        read = λ a k o p q z r u.
            let w = same.laps a k o p r in
            named (λ m. Reads m (63 * k + o)) calls i (s.ghost.claimer (63 * k + o)) Idle
            (owed.read a k o w.0 q (omega (arith, w.1)) r (same.read a k o p q u))
            (λ y v. rw at at v);
        back = λ a k y j e.
            back-still s freed calls i Idle owed lines a k y j (same.back a k y j e) (λ o. same.told a k y j o e)
            (λ v. (served s b Free (frees b) h (s14-changes s i won b h ok) a k (ap lap_of e)).1 (sym (rw at at v).0));
      }
    where
      same : TakeSame s freed
      same = given-take s b Free (frees b) h (s14-changes s i won b h ok)

  pub s14-freed-owed : Owed freed (put calls i Idle)
  s14-freed-owed =
      all-owed freed (put calls i Idle)
      (given-push s b Free (frees b) h (s14-changes s i won b h ok) calls i Idle owed
      (λ e. rw at at e)
      (λ k e. rw at at e)
      (λ k e. rw at at e)
      (λ c j.
      put_elim (λ o. o ≡ Held j → holds (put calls i Idle j) ≡ some c) (own s) b Free c
      (λ e g. differ (cc))
      (λ m g. named (λ m. holds m ≡ some c) calls i j Idle (owed.held c j g) (λ y e. rw at at e))))
      s14-take
