-- LOWER and HAND, of what is owed: a block on its way back gets another frontier, or another carrier.
use Prim.Native.Nat.{ℕ, ◌+◌, ◌*◌, ◌-◌, ◌≤◌, ◌<◌}
use mathlib.Core.Path.{◌≡◌, refl, sym, ap, ◌∙◌}
use mathlib.Core.Bool.{true, false}
use mathlib.Core.List.{List}
use native.Mathlib.Omega.{arith}
use lib.Dec.{eqb}
use borrow.Author.Tests.{eqb-true, eqb-false}
use Rattle.state.specs.declared.Won.{Won}
use Rattle.state.specs.declared.StealLine.TheVariants.{S12, S14}
use Rattle.state.specs.declared.Call.{Call}
use Rattle.machine.specs.Steal.{walk_below}
use Rattle.invariant.specs.Ghost.{Back, some, lap_of, front}
use Rattle.invariant.specs.State.{State, lp, off, tk, nc, W, R, D, nxt, own}
use Rattle.invariant.specs.Shared.{Shared}
use Rattle.invariant.proofs.Facts.{put, put_same, cond_elim, one_block}
use Rattle.invariant.proofs.Lower.{changed, backed, put_elim, lap_old, front_old, held_old}
use Rattle.settle.specs.Views.{leaves, Reads, Carries, StealCarries}
use Rattle.settle.specs.Owed.{Owed}
use Rattle.settle.proofs.OwedFrame.{Line, PushViews, PushOwed, TakeOwed, back-parts, named, push_frame, back-still}

-- a walk from slot g down carries the block on at frontier g
pub walk_carries : (s : State) (won : Won) (b l g : ℕ) → StealCarries s (walk_below won b g) b l g
walk_carries s won b l g =
    cond_elim (λ line. StealCarries s line b l g) (eqb g 0) (S14 won b) (S12 won b (g - 1))
    (λ e. (refl, sym (eqb-true g 0 e)))
    (λ e. (refl, omega (arith, eqb-false g 0 e)))

-- other marks m, and block b, which i carried on, at frontier g with t to carry it on
module _ (s : State) (h : Shared s) (b l f i : ℕ) (was : own s b ≡ Back l f i) (g t : ℕ) (less : g ≤ f) (m : List ℕ)
    (calls : ℕ → Call) (lines : (j : ℕ) → Line s j (calls j)) (owed : Owed s calls) (call : Call) where
  abbrev after : State
  after = changed s m (backed s b l g t)

  pub lower-push : ((a o : ℕ) → o < 63 → W after a o ≡ W s a o) → ((a : ℕ) → nxt after a ≡ nxt s a)
      → PushViews (calls i) call → PushOwed after (put calls i call)
  lower-push wrote next views =
      push_frame s after calls i call owed
      (record {
        tail = refl;
        pusher = λ q. refl;
        held = λ a j e. held_old s h b l f i was g t less a j e;
        laps = λ a k p. lap_old s h b l f i was g t less a k p;
        wrote = λ a k o p q w. sym (wrote a o q) ∙ w;
        nexts = λ a k p n. sym (next a) ∙ n;
      })
      views

  back-now : ((a o : ℕ) → o < 63 → D s a o ≡ true → D after a o ≡ true)
      → ((a k y : ℕ) → (a ≡ b → ⊥) → Carries after (calls i) a k y → Carries after call a k y)
      → Carries after (put calls i call t) b l g
      → (a k y j : ℕ) → own after a ≡ Back k y j → Carries after (put calls i call j) a k y
  back-now told walks carrier a k y j =
      put_elim (λ w. w ≡ Back k y j → Carries after (put calls i call j) a k y) (own s) b (Back l g t) a
      (λ e q.
      let z = back-parts l g t k y j q in
      rw (e, ← z.0, ← z.1, ← z.2) carrier)
      (λ n q. back-still s after calls i call owed lines a k y j q (told a) (walks a k y n))

  pub lower-take : ((a o : ℕ) → o < 63 → R after a o ≡ false → R s a o ≡ false)
      → ((a o : ℕ) → o < 63 → D s a o ≡ true → D after a o ≡ true)
      → (leaves (calls i) ≡ true → leaves call ≡ true)
      → ((a k o : ℕ) → lap_of (own s a) ≡ some k → o < 63 → o < front (own after a) → Reads (calls i) (63 * k + o) → Reads call (63 * k + o))
      → ((a k y : ℕ) → (a ≡ b → ⊥) → Carries after (calls i) a k y → Carries after call a k y)
      → Carries after (put calls i call t) b l g
      → TakeOwed after (put calls i call)
  lower-take read told leave reads walks carrier =
      record {
        mover = λ e. named (λ c. leaves c ≡ true) calls i (s.ghost.claimer (nc s - 1)) call (owed.mover e) (λ y. leave);
        read = λ a k o p q z r u.
            let served = lap_old s h b l f i was g t less a k p in
            named (λ c. Reads c (63 * k + o)) calls i (s.ghost.claimer (63 * k + o)) call
            (owed.read a k o served q (omega (arith, front_old s h b l f i was g t less a)) r (read a o q u))
            (λ y. reads a k o served q z);
        back = back-now told walks carrier;
      }

-- a claim that is at or above the frontier needs no mark: its block is the only one of its lap
pub claim-done : (s : State) (h : Shared s) (i x b n : ℕ) → lap_of (own s b) ≡ some (lp x) → off x + n ≤ 63
    → (a k o : ℕ) → lap_of (own s a) ≡ some k → o < 63 → o < front (backed s b (lp x) (off x) i a)
    → tk x ≤ 63 * k + o → 63 * k + o < tk x + n → ⊥
claim-done s h i x b n serves within a k o p q z u v =
    let same : k ≡ lp x = omega arith in
    let here : a ≡ b = one_block s h a b (lp x) (p ∙ ap some same) serves in
    let low : front (backed s b (lp x) (off x) i a) ≡ off x = ap front (ap (backed s b (lp x) (off x) i) here ∙ put_same s.ghost.own b (Back (lp x) (off x) i)) in
    omega arith
