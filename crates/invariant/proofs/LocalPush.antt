-- The lines of a push that change neither the shared state nor the ghost: P1, P2.
use Rattle.std.specs.Prelude.{Option, None, Some}
use Prim.Native.Nat.{ℕ, ◌≤◌, ◌<◌}
use mathlib.Core.Path.{◌≡◌, refl}
use mathlib.Core.Bool.{true}
use mathlib.Core.List.{List}
use native.Mathlib.Omega.{arith}
use native.Mathlib.Nat.{le_refl}
use lib.Dec.{eqb, leb}
use borrow.Author.Tests.{eqb-true, eqb-false, leb-false}
use Rattle.index.specs.declared.Index.{Index}
use Rattle.state.specs.declared.PushLine.TheVariants.{P1, P2, P3, P4, P10}
use Rattle.state.specs.declared.Call.TheVariants.{Push}
use Rattle.state.specs.declared.Answer.TheVariants.{Refused}
use Rattle.state.specs.declared.Refusal.TheVariants.{Spent}
use Rattle.machine.specs.Push.{p1, p2, p2_spent, p2_last}
use Rattle.invariant.specs.State.{State, lp, off, T, TB, L}
use Rattle.invariant.specs.Shared.{Shared}
use Rattle.invariant.specs.Lines.{HeldOk, AtTail, P2Ok, P4Ok, PushOk}
use Rattle.invariant.specs.Kept.{Kept}
use Rattle.invariant.proofs.Facts.{cond_elim, cond_same}
use Rattle.invariant.proofs.Local.{goes_on, stops}

pub p1-kept : (s : State) (i count : ℕ) (taken : List ℕ) (v : ℕ) (held : Option ℕ) → Shared s → PushOk s i (P1 v held)
    → Kept s i count taken (p1 s.queue v held)
p1-kept s i count taken v held h p =
    goes_on s i count taken (Push (P2 v s.queue.tail held)) h (record { holds = p; seen = le_refl _ })

module _ (s : State) (i count : ℕ) (taken : List ℕ) (v : ℕ) (t : Index) (h : Shared s) where
  -- the block was loaded at this very step
  at_tail : t.raw ≤ T s → AtTail s t.raw (TB s)
  at_tail seen = record { seen = seen; number = h.tail-number; same = λ e. refl }

  spent-kept : (held : Option ℕ) → HeldOk s i held → Kept s i count taken (p2_spent s.queue held)
  spent-kept None p = stops s i count taken (Refused Spent) h
  spent-kept (Some x) p = goes_on s i count taken (Push (P10 x true)) h p

  last-kept : (held : Option ℕ) → P2Ok s i t.raw held → off t.raw ≡ 62 → lp t.raw < L s
      → Kept s i count taken (p2_last s.queue v t held)
  last-kept None p o l =
      goes_on s i count taken (Push (P3 v t (TB s))) h (record { at = at_tail p.seen; last = o; lap = l })
  last-kept (Some x) p o l =
      goes_on s i count taken (Push (P4 v t (TB s) (Some x))) h
      (record { holds = p.holds; at = at_tail p.seen; slot = omega arith; last = λ e. tt; lap = l })

  slot_kept : (held : Option ℕ) → P2Ok s i t.raw held → off t.raw < 63 → (off t.raw ≡ 62 → ⊥) → lp t.raw < L s
      → P4Ok s i t.raw (TB s) held
  slot_kept held p o n l =
      record { holds = p.holds; at = at_tail p.seen; slot = o; last = λ e. absurd (n e); lap = l }

pub p2-kept : (s : State) (i count : ℕ) (taken : List ℕ) (v : ℕ) (t : Index) (held : Option ℕ) → Shared s → PushOk s i (P2 v t held)
    → Kept s i count taken (p2 s.queue v t held)
unfolding p2
p2-kept s i count taken v t held h p =
    cond_elim (Kept s i count taken) (eqb (off t.raw) 63) _ _
    (λ e. goes_on s i count taken (Push (P1 v held)) h p.holds)
    (λ e.
    cond_elim (Kept s i count taken) (leb (L s) (lp t.raw)) _ _
    (λ f. spent-kept s i count taken v t h held p.holds)
    (λ f.
    let l : lp t.raw < L s = leb-false (L s) (lp t.raw) f in
    cond_elim (Kept s i count taken) (eqb (off t.raw) 62) _ _
    (λ g. last-kept s i count taken v t h held p (eqb-true (off t.raw) 62 g) l)
    (λ g.
    let n = eqb-false (off t.raw) 63 e in
    goes_on s i count taken (Push (P4 v t (TB s) held)) h
    (slot_kept s i count taken v t h held p (omega arith) (eqb-false (off t.raw) 62 g) l))))

-- the ghost that is chosen is the old one
pub p1-ghost : (s : State) (i count : ℕ) (taken : List ℕ) (v : ℕ) (held : Option ℕ) (h : Shared s) (p : PushOk s i (P1 v held))
    → (p1-kept s i count taken v held h p).ghost ≡ s.ghost
unfolding p1-kept goes_on
p1-ghost s i count taken v held h p = refl

module _ (s : State) (i count : ℕ) (taken : List ℕ) (v : ℕ) (t : Index) (h : Shared s) where
  spent-ghost : (held : Option ℕ) (p : HeldOk s i held) → (spent-kept s i count taken v t h held p).ghost ≡ s.ghost
  unfolding spent-kept goes_on stops
  spent-ghost None p = refl
  spent-ghost (Some x) p = refl

  last-ghost : (held : Option ℕ) (p : P2Ok s i t.raw held) (o : off t.raw ≡ 62) (l : lp t.raw < L s)
      → (last-kept s i count taken v t h held p o l).ghost ≡ s.ghost
  unfolding last-kept goes_on
  last-ghost None p o l = refl
  last-ghost (Some x) p o l = refl

  pub p2-ghost : (held : Option ℕ) (p : PushOk s i (P2 v t held)) → (p2-kept s i count taken v t held h p).ghost ≡ s.ghost
  unfolding p2 p2-kept goes_on
  p2-ghost held p =
      cond_same (Kept s i count taken) (λ m k. k.ghost) (eqb (off t.raw) 63) _ _ _ _ s.ghost (λ e. refl)
      (λ e.
      cond_same (Kept s i count taken) (λ m k. k.ghost) (leb (L s) (lp t.raw)) _ _ _ _ s.ghost
      (λ f. spent-ghost held p.holds)
      (λ f.
      cond_same (Kept s i count taken) (λ m k. k.ghost) (eqb (off t.raw) 62) _ _ _ _ s.ghost
      (λ g. last-ghost held p _ _)
      (λ g. refl)))
