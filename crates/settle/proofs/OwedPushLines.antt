-- What is owed across the lines P3 to P10: no line of a push touches what thieves owe.
use Rattle.std.specs.Prelude.{Option, None, Some}
use Prim.Native.Nat.{ℕ, ◌+◌, ◌≤◌, ◌<◌}
use mathlib.Core.Path.{◌≡◌, refl, sym, ap, ◌∙◌}
use mathlib.Core.Bool.{Bool, false, cond}
use native.Mathlib.Omega.{arith}
use native.Mathlib.Nat.{le_refl}
use lib.Dec.{eqb}
use borrow.Author.Tests.{eqb-true}
use Rattle.index.specs.declared.Index.{Index}
use Rattle.memory.specs.Layout.{has, state, or}
use Rattle.memory.specs.Touch.{Touch, clears, frees, writes_state}
use Rattle.memory.specs.Pool.{pick}
use Rattle.memory.specs.Laws.{pick-block}
use Rattle.memory.proofs.Apart.{state-links, state-writes_token, next-writes_token}
use Rattle.memory.specs.declared.Mark.TheVariants.{Write, Read, Destroy}
use Rattle.state.specs.Move.{Move}
use Rattle.state.specs.declared.PushLine.{PushLine}
use Rattle.state.specs.declared.PushLine.TheVariants.{P3, P4, P5, P6, P7, P8, P9, P10}
use Rattle.state.specs.declared.Call.{Call}
use Rattle.state.specs.declared.Call.TheVariants.{Idle, Push}
use Rattle.machine.specs.Push.{p3, p3_took, p4, p5, p6, p7, p8, p9, p9_ends, p10}
use Rattle.invariant.specs.Ghost.{Ghost, Own, Free, Held, Open, Back, some, lap_of, front}
use Rattle.invariant.specs.State.{State, lp, off, T, N, own}
use Rattle.invariant.specs.Shared.{Shared}
use Rattle.invariant.specs.Lines.{PushOk, P6Ok}
use Rattle.invariant.specs.Kept.{moved}
use Rattle.invariant.proofs.Facts.{put, cond_pair, some_inj}
use Rattle.invariant.proofs.Lower.{put_elim, differ}
use Rattle.invariant.proofs.Pool.{given, given-on, took, Changes, alike, served, same-owner, p3-changes, p10-changes}
use Rattle.invariant.proofs.Ticket.{ticketed, pushed-on}
use Rattle.invariant.proofs.Install.{blocked-on, opened, installed}
use Rattle.invariant.proofs.Link.{linked_on}
use Rattle.invariant.proofs.Write.{told-on, marked-on, read_kept, destroy_kept}
use Rattle.settle.specs.Owed.{Owed}
use Rattle.settle.proofs.OwedFrame.{Line, PushOwed, TakeSame, TakeViews, same-push, same-take, push-words, take-marks, push_frame, take-frame, all-owed}
use Rattle.settle.proofs.OwedLocal.{p3-none-owed, p4_lost_owed}
use Rattle.settle.proofs.OwedPush.{p3-push, p4-push, p6-push, p7-push, p9-push, p10-push}

-- a block changes hands that serves no lap afterwards
pub given-take : (s : State) (x : ℕ) (w : Own) (touch : Touch) (h : Shared s) (change : Changes s x w touch) → TakeSame s (given-on s x w touch)
given-take s x w touch h change =
    record {
      head = refl;
      claimer = λ k. refl;
      laps = λ b l o p r.
          let a = served s x w touch h change b l p in
          (a.0, omega (arith, ap front (same-owner s x w touch h change b a.1)));
      back = λ b l f j e. sym (same-owner s x w touch h change b (other b l f j e)) ∙ e;
      read = λ b l o p q u.
          sym (ap (has Read) ((alike s x w touch h change b (served s x w touch h change b l p).1).states o q)) ∙ u;
      told = λ b l f j o e q d. ap (has Destroy) ((alike s x w touch h change b (other b l f j e)).states o q) ∙ d;
    }
  where
    other : (b l f j : ℕ) → own (given-on s x w touch) b ≡ Back l f j → b ≡ x → ⊥
    other b l f j e = (served s x w touch h change b l (ap lap_of e)).1

-- no ticket of the block that serves the next lap is claimed
installed-take : (s : State) (i v t b x : ℕ) → Shared s → P6Ok s i v t b x → TakeSame s (installed s t x)
installed-take s i v t b x h ok =
    record {
      head = refl;
      claimer = λ k. refl;
      laps = λ c l o p r.
          put_elim (λ w. lap_of w ≡ some l → (lap_of (own s c) ≡ some l) × (front w ≤ front (own s c))) (own s) x (Open (lp (T s) + 1)) c
          (λ e p. absurd (omega (arith, some_inj (lp (T s) + 1) l p, h.order)))
          (λ n p. (p, le_refl _))
          p;
      back = λ c l f j.
          put_elim (λ w. w ≡ Back l f j → own s c ≡ Back l f j) (own s) x (Open (lp (T s) + 1)) c (λ e p. differ (cc)) (λ n p. p);
      read = λ c l o p q u. u;
      told = λ c l f j o e q d. d;
    }

module _ (s : State) (calls : ℕ → Call) (i : ℕ) (h : Shared s) (lines : (j : ℕ) → Line s j (calls j)) (owed : Owed s calls) where
  -- a push owes nothing of what thieves owe
  pushes : (s' : State) (line : PushLine) (call : Call) → calls i ≡ Push line → TakeViews s' Idle call
      → PushOwed s' (put calls i call) → TakeSame s s' → Owed s' (put calls i call)
  pushes s' line call at views p t =
      all-owed s' (put calls i call) p (take-frame s s' calls i call owed lines t (rw at views))

  abbrev Goes : Move → Ghost → Type 0
  Goes m g = Owed (moved s m g) (put calls i m.made.call)

  module _ (v : ℕ) (t : Index) (b : ℕ) where
    p3-by : (r : Option ℕ) → pick s.pool (N s) ≡ r → calls i ≡ Push (P3 v t b) → Goes (p3_took s.queue v t b r) (took s.ghost i r)
    p3-by None e at = p3-none-owed s calls i owed v t b at
    p3-by (Some x) e at =
        let p = pick-block s.pool (N s) x e in
        pushes (given-on s x (Held i) (clears x)) (P3 v t b) (Push (P4 v t b (Some x))) at (same-take s Idle)
        (p3-push s i x v t b h p.0 p.1 calls at owed)
        (given-take s x (Held i) (clears x) h (p3-changes s i x h p.0 p.1))

    pub p3-owed : calls i ≡ Push (P3 v t b) → Goes (p3 s.queue s.pool v t b) (took s.ghost i (pick s.pool (N s)))
    unfolding p3
    p3-owed at = p3-by (pick s.pool (N s)) refl at

    pub p4-owed : (held : Option ℕ) → PushOk s i (P4 v t b held) → calls i ≡ Push (P4 v t b held)
        → Goes (p4 s.queue v t b held) (cond (eqb (T s) t.raw) (ticketed s.ghost i v t.raw) s.ghost)
    unfolding p4
    p4-owed held ok at =
        cond_pair Goes (eqb (T s) t.raw) _ _ _ _
        (λ e.
        pushes (pushed-on s i v t.raw) (P4 v t b held) _ at (same-take s Idle)
        (p4-push s i v t b held h (eqb-true (T s) t.raw e) ok calls at owed)
        (take-marks s (pushed-on s i v t.raw) refl (λ k. refl) (λ c. refl) (λ c o q. refl) (λ c o q. refl)))
        (λ e. p4_lost_owed s calls i owed v t b held at)

    pub p5-owed : (x : ℕ) → calls i ≡ Push (P5 v t b x) → Goes (p5 s.queue v t b x) s.ghost
    p5-owed x at =
        pushes (blocked-on s x) (P5 v t b x) (Push (P6 v t b x)) at (same-take s Idle)
        (push_frame s (blocked-on s x) calls i (Push (P6 v t b x)) owed
        (push-words s (blocked-on s x) refl (λ k. refl) (λ c. refl) (λ c o q. refl) (λ c. refl))
        (rw at (same-push (Push (P6 v t b x)))))
        (take-marks s (blocked-on s x) refl (λ k. refl) (λ c. refl) (λ c o q. refl) (λ c o q. refl))

    pub p6-owed : (x : ℕ) → PushOk s i (P6 v t b x) → calls i ≡ Push (P6 v t b x) → Goes (p6 s.queue v t b x) (opened s.ghost (lp (T s) + 1) x)
    p6-owed x ok at =
        pushes (installed s t.raw x) (P6 v t b x) (Push (P7 v t b x)) at (same-take s Idle)
        (p6-push s i v t b x h ok calls at owed)
        (installed-take s i v t.raw b x h ok)

    pub p7-owed : (x : ℕ) → PushOk s i (P7 v t b x) → calls i ≡ Push (P7 v t b x) → Goes (p7 s.queue v t b x) s.ghost
    p7-owed x ok at =
        pushes (linked_on s b x) (P7 v t b x) (Push (P8 v t b None)) at (same-take s Idle)
        (p7-push s i v t b x h ok calls at owed)
        (take-marks s (linked_on s b x) refl (λ k. refl) (λ c. refl)
        (λ c o q. ap (has Read) (state-links s.pool b x c o q))
        (λ c o q. ap (has Destroy) (state-links s.pool b x c o q)))

    pub p8-owed : (held : Option ℕ) → PushOk s i (P8 v t b held) → calls i ≡ Push (P8 v t b held) → Goes (p8 s.queue v t b held) s.ghost
    p8-owed held ok at =
        pushes (told-on s v t.raw b) (P8 v t b held) (Push (P9 v t b held)) at (same-take s Idle)
        (push_frame s (told-on s v t.raw b) calls i (Push (P9 v t b held)) owed
        (push-words s (told-on s v t.raw b) refl (λ k. refl) (λ c. refl)
        (λ c o q. ap (has Write) (told c o q))
        (λ c. next-writes_token s.pool b (off t.raw) v c ok.owes.slot))
        (rw at (same-push (Push (P9 v t b held)))))
        (take-marks s (told-on s v t.raw b) refl (λ k. refl) (λ c. refl)
        (λ c o q. ap (has Read) (told c o q))
        (λ c o q. ap (has Destroy) (told c o q)))
      where
        told : (c o : ℕ) → o < 63 → state (told-on s v t.raw b).pool c o ≡ state s.pool c o
        told c o q = state-writes_token s.pool b (off t.raw) v c o ok.owes.slot q

    p9-take : (held : Option ℕ) → PushOk s i (P9 v t b held) → TakeSame s (marked-on s t.raw b)
    p9-take held ok =
        take-marks s (marked-on s t.raw b) refl (λ k. refl) (λ c. refl)
        (λ c o q. sym (read_kept s i v t.raw b h ok.owes c o q))
        (λ c o q. sym (destroy_kept s i v t.raw b h ok.owes c o q))

    p9-by : (held : Option ℕ) → PushOk s i (P9 v t b held) → calls i ≡ Push (P9 v t b held)
        → Goes (p9_ends s.queue held (writes_state b (off t.raw) (or (state s.pool b (off t.raw)) Write))) s.ghost
    p9-by None ok at =
        pushes (marked-on s t.raw b) (P9 v t b None) Idle at (same-take s Idle)
        (p9-push s i v t b None h ok calls at owed Idle refl (λ c e. e) refl)
        (p9-take None ok)
    p9-by (Some x) ok at =
        pushes (marked-on s t.raw b) (P9 v t b (Some x)) (Push (P10 x false)) at (same-take s Idle)
        (p9-push s i v t b (Some x) h ok calls at owed (Push (P10 x false)) refl (λ c e. e) refl)
        (p9-take (Some x) ok)

    pub p9-owed : (held : Option ℕ) → PushOk s i (P9 v t b held) → calls i ≡ Push (P9 v t b held) → Goes (p9 s.queue s.pool v t b held) s.ghost
    unfolding p9
    p9-owed held ok at = p9-by held ok at

  pub p10-owed : (x : ℕ) (spent : Bool) → PushOk s i (P10 x spent) → calls i ≡ Push (P10 x spent) → Goes (p10 s.queue x spent) (given s.ghost x Free)
  p10-owed x spent ok at =
      pushes (given-on s x Free (frees x)) (P10 x spent) Idle at (same-take s Idle)
      (p10-push s i x spent h ok calls at owed)
      (given-take s x Free (frees x) h (p10-changes s i x h ok))
