-- The lines that change neither the shared state nor the ghost nor a view of their thread.
use Rattle.std.specs.Prelude.{Option, None, Some}
use Prim.Native.Nat.{ℕ, ◌+◌, ◌*◌, ◌-◌}
use mathlib.Core.Path.{◌≡◌, refl, ◌∙◌}
use mathlib.Core.Bool.{Bool, true}
use mathlib.Core.Logic.{⊎_elim}
use native.Mathlib.Omega.{arith}
use lib.Dec.{eqb, leb}
use Rattle.index.specs.Position.{position, has_next}
use Rattle.index.specs.declared.Index.{Index}
use Rattle.state.specs.Move.{Move}
use Rattle.state.specs.declared.Kind.{Kind}
use Rattle.state.specs.declared.Claim.{Claim}
use Rattle.state.specs.declared.Won.{Won}
use Rattle.state.specs.declared.PushLine.TheVariants.{P1, P2, P3, P4, P10}
use Rattle.state.specs.declared.StealLine.TheVariants.{S1, S2, S3, S4, S5, S6, S9, S10, S11, S12, S13}
use Rattle.state.specs.declared.LengthLine.TheVariants.{L1, L2, L3}
use Rattle.state.specs.declared.EmptyLine.TheVariants.{E1, E2}
use Rattle.state.specs.declared.Call.{Call}
use Rattle.state.specs.declared.Call.TheVariants.{Idle, Push, Steal, Length, Empty}
use Rattle.machine.specs.Push.{p1, p2, p2_spent, p2_last, p4_lost}
use Rattle.machine.specs.Steal.{s1, s2, s3, s5, s5_next, s6, s9, claim_of, end_advance, first, past}
use Rattle.machine.specs.Count.{l1, l2, l3, e1, e2}
use Rattle.invariant.specs.State.{State, lp, off, T, TB, HB, nc, L, W, nxt}
use Rattle.invariant.specs.Kept.{moved}
use Rattle.invariant.proofs.Facts.{put, cond_elim}
use Rattle.settle.specs.Views.{leaves, Reads, Carries}
use Rattle.settle.specs.Owed.{Owed}
use Rattle.settle.proofs.OwedFrame.{named, push-words, PushViews, TakeViews, same-push, same-take, push_frame, all-owed}

module _ (s : State) (calls : ℕ → Call) (i : ℕ) (owed : Owed s calls) where
  -- the call goes on, or ends, and owes what it owed
  pub stays : (old call : Call) → calls i ≡ old → PushViews old call → TakeViews s old call → Owed s (put calls i call)
  stays old call at p t =
      all-owed s (put calls i call)
      (push_frame s s calls i call owed (push-words s s refl (λ k. refl) (λ b. refl) (λ b o q. refl) (λ b. refl)) (rw at p))
      (record {
        mover = λ e. named (λ c. leaves c ≡ true) calls i (s.ghost.claimer (nc s - 1)) call (owed.mover e) (λ x v. t.0 (rw at at v));
        read = λ b l o h1 h2 h3 h4 h5.
            named (λ c. Reads c (63 * l + o)) calls i (s.ghost.claimer (63 * l + o)) call (owed.read b l o h1 h2 h3 h4 h5)
            (λ x v. t.1 (63 * l + o) (rw at at v));
        back = λ b l f j e. named (λ c. Carries s c b l f) calls i j call (owed.back b l f j e) (λ x v. t.2 b l f (rw at at v));
      })

  abbrev Goes : Move → Type 0
  Goes m = Owed (moved s m s.ghost) (put calls i m.made.call)

  -- ---- push

  pub p1-owed : (v : ℕ) (held : Option ℕ) → calls i ≡ Push (P1 v held) → Goes (p1 s.queue v held)
  p1-owed v held at = stays (Push (P1 v held)) (Push (P2 v s.queue.tail held)) at (same-push (Push (P1 v held))) (same-take s Idle)

  module _ (v : ℕ) (t : Index) where
    spent-owed : (held : Option ℕ) → calls i ≡ Push (P2 v t held) → Goes (p2_spent s.queue held)
    spent-owed None at = stays (Push (P2 v t None)) Idle at (same-push Idle) (same-take s Idle)
    spent-owed (Some x) at =
        stays (Push (P2 v t (Some x))) (Push (P10 x true)) at (same-push (Push (P10 x true))) (same-take s Idle)

    last-owed : (held : Option ℕ) → calls i ≡ Push (P2 v t held) → Goes (p2_last s.queue v t held)
    last-owed None at = stays (Push (P2 v t None)) (Push (P3 v t (TB s))) at (same-push Idle) (same-take s Idle)
    last-owed (Some x) at =
        stays (Push (P2 v t (Some x))) (Push (P4 v t (TB s) (Some x))) at (same-push (Push (P10 x true))) (same-take s Idle)

    pub p2-owed : (held : Option ℕ) → calls i ≡ Push (P2 v t held) → Goes (p2 s.queue v t held)
    unfolding p2
    p2-owed held at =
        cond_elim Goes (eqb (off t.raw) 63) _ _
        (λ e. stays (Push (P2 v t held)) (Push (P1 v held)) at (same-push (Push (P1 v held))) (same-take s Idle))
        (λ e.
        cond_elim Goes (leb (L s) (lp t.raw)) _ _
        (λ f. spent-owed held at)
        (λ f.
        cond_elim Goes (eqb (off t.raw) 62) _ _
        (λ g. last-owed held at)
        (λ g. stays (Push (P2 v t held)) (Push (P4 v t (TB s) held)) at (same-push (Push (P1 v held))) (same-take s Idle))))

  pub p3-none-owed : (v : ℕ) (t : Index) (b : ℕ) → calls i ≡ Push (P3 v t b) → Owed s (put calls i Idle)
  p3-none-owed v t b at = stays (Push (P3 v t b)) Idle at (same-push Idle) (same-take s Idle)

  pub p4_lost_owed : (v : ℕ) (t : Index) (b : ℕ) (held : Option ℕ) → calls i ≡ Push (P4 v t b held) → Goes (p4_lost s.queue v held)
  p4_lost_owed v t b held at =
      stays (Push (P4 v t b held)) (Push (P2 v s.queue.tail held)) at (same-push (Push (P1 v held))) (same-take s Idle)

  -- ---- steal, before its claim

  pub s1-owed : (k : Kind) → calls i ≡ Steal (S1 k) → Goes (s1 s.queue k)
  s1-owed k at = stays (Steal (S1 k)) (Steal (S2 k s.queue.head)) at (same-push Idle) (same-take s Idle)

  pub s2-owed : (k : Kind) (h : Index) → calls i ≡ Steal (S2 k h) → Goes (s2 s.queue k h)
  unfolding s2
  s2-owed k h at =
      cond_elim Goes (eqb (off h.raw) 63) _ _
      (λ e. stays (Steal (S2 k h)) (Steal (S1 k)) at (same-push Idle) (same-take s Idle))
      (λ e.
      cond_elim Goes (has_next h.raw) _ _
      (λ f. stays (Steal (S2 k h)) (Steal (S4 k (claim_of h (HB s) (end_advance k h)) true)) at (same-push Idle) (same-take s Idle))
      (λ f. stays (Steal (S2 k h)) (Steal (S3 k h (HB s))) at (same-push Idle) (same-take s Idle)))

  pub s3-owed : (k : Kind) (h : Index) (b : ℕ) → calls i ≡ Steal (S3 k h b) → Goes (s3 s.queue k h b)
  unfolding s3
  s3-owed k h b at =
      cond_elim Goes (eqb (position h.raw) (position (T s))) _ _
      (λ e. stays (Steal (S3 k h b)) Idle at (same-push Idle) (same-take s Idle))
      (λ e. stays (Steal (S3 k h b)) _ at (same-push Idle) (same-take s Idle))

  pub s4_lost_owed : (k : Kind) (c : Claim) (more : Bool) → calls i ≡ Steal (S4 k c more) → Owed s (put calls i Idle)
  s4_lost_owed k c more at = stays (Steal (S4 k c more)) Idle at (same-push Idle) (same-take s Idle)

  -- ---- steal, after its claim

  pub s5-owed : (k : Kind) (c : Claim) → calls i ≡ Steal (S5 k c) → Goes (s5 s.queue s.pool k c)
  unfolding s5
  s5-owed k c at = go (nxt s c.block)
    where
      go : (n : Option ℕ) → Goes (s5_next s.queue k c n)
      go None = stays (Steal (S5 k c)) (Steal (S5 k c)) at (same-push Idle) (same-take s (Steal (S5 k c)))
      go (Some x) = stays (Steal (S5 k c)) (Steal (S6 k c x)) at (same-push Idle) (same-take s (Steal (S5 k c)))

  pub s6-owed : (k : Kind) (c : Claim) (x : ℕ) → calls i ≡ Steal (S6 k c x) → Goes (s6 s.queue s.pool k c x)
  s6-owed k c x at = stays (Steal (S6 k c x)) _ at (same-push Idle) (same-take s (Steal (S6 k c x)))

  pub s9-owed : (k : Kind) (c : Claim) (slot : ℕ) → calls i ≡ Steal (S9 k c slot) → Goes (s9 s.queue s.pool k c slot)
  unfolding s9
  s9-owed k c slot at =
      cond_elim Goes (W s c.block slot) _ _
      (λ e. stays (Steal (S9 k c slot)) (Steal (S10 k c slot)) at (same-push Idle) (same-take s (Steal (S9 k c slot))))
      (λ e. stays (Steal (S9 k c slot)) (Steal (S9 k c slot)) at (same-push Idle) (same-take s (Steal (S9 k c slot))))

  pub s10-on-owed : (k : Kind) (c : Claim) (slot : ℕ) → calls i ≡ Steal (S10 k c slot) → Owed s (put calls i (Steal (S9 k c (slot + 1))))
  s10-on-owed k c slot at =
      stays (Steal (S10 k c slot)) (Steal (S9 k c (slot + 1))) at (same-push Idle) (same-take s (Steal (S9 k c slot)))

  -- the last S10 of a claim that does not end the block: the marks are still to be made
  pub s10-short-owed : (k : Kind) (c : Claim) (slot : ℕ) (won : Won) → calls i ≡ Steal (S10 k c slot) → (past c ≡ 63 → ⊥)
      → Owed s (put calls i (Steal (S11 won c (first c))))
  s10-short-owed k c slot won at n =
      stays (Steal (S10 k c slot)) (Steal (S11 won c (first c))) at (same-push Idle)
      (λ e. e, λ q p. (omega (arith, p.0), p.1), λ b l f p. (p.0, ⊎_elim (λ e. absurd (n (p.0.2 ∙ e))) (λ d. d) p.1))

  pub s12-on-owed : (won : Won) (b w : ℕ) → calls i ≡ Steal (S12 won b w) → Owed s (put calls i (Steal (S13 won b w)))
  s12-on-owed won b w at = stays (Steal (S12 won b w)) (Steal (S13 won b w)) at (same-push Idle) (same-take s (Steal (S12 won b w)))

  -- ---- length and empty

  pub l1-owed : calls i ≡ Length L1 → Goes (l1 s.queue)
  l1-owed at = stays (Length L1) (Length (L2 s.queue.tail)) at (same-push Idle) (same-take s Idle)

  pub l2-owed : (t : Index) → calls i ≡ Length (L2 t) → Goes (l2 s.queue t)
  l2-owed t at = stays (Length (L2 t)) (Length (L3 t s.queue.head)) at (same-push Idle) (same-take s Idle)

  pub l3-owed : (t h : Index) → calls i ≡ Length (L3 t h) → Goes (l3 s.queue t h)
  unfolding l3
  l3-owed t h at =
      cond_elim Goes (eqb (T s) t.raw) _ _
      (λ e. stays (Length (L3 t h)) Idle at (same-push Idle) (same-take s Idle))
      (λ e. stays (Length (L3 t h)) (Length L1) at (same-push Idle) (same-take s Idle))

  pub e1-owed : calls i ≡ Empty E1 → Goes (e1 s.queue)
  e1-owed at = stays (Empty E1) (Empty (E2 s.queue.head)) at (same-push Idle) (same-take s Idle)

  pub e2-owed : (h : Index) → calls i ≡ Empty (E2 h) → Goes (e2 s.queue h)
  unfolding e2
  e2-owed h at =
      cond_elim Goes (eqb (position h.raw) (position (T s))) _ _
      (λ e. stays (Empty (E2 h)) Idle at (same-push Idle) (same-take s Idle))
      (λ e. stays (Empty (E2 h)) Idle at (same-push Idle) (same-take s Idle))
