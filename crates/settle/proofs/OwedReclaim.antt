-- What is owed across the lines that give a block back: the last S10, S11, S12, S13 and S14.
use Prim.Native.Nat.{ℕ, ◌+◌, ◌*◌, ◌-◌, ◌≤◌, ◌<◌}
use mathlib.Core.Path.{◌≡◌, refl, sym, ap, ◌∙◌}
use mathlib.Core.Bool.{true, false}
use mathlib.Core.Logic.{⊎_elim}
use mathlib.Core.List.{List}
use native.Mathlib.Omega.{arith}
use Rattle.memory.specs.Layout.{state, or}
use Rattle.memory.proofs.Apart.{next-writes_state}
use Rattle.memory.specs.declared.Mark.{Mark}
use Rattle.memory.specs.declared.Mark.TheVariants.{Write, Read, Destroy}
use Rattle.state.specs.declared.Kind.{Kind}
use Rattle.state.specs.declared.Claim.{Claim}
use Rattle.state.specs.declared.Won.{Won}
use Rattle.state.specs.declared.StealLine.TheVariants.{S10, S11}
use Rattle.state.specs.declared.Call.{Call}
use Rattle.state.specs.declared.Call.TheVariants.{Idle, Steal}
use Rattle.machine.specs.Steal.{walk_below, first, past}
use Rattle.invariant.specs.Ghost.{Own, Back, some, lap_of, front}
use Rattle.invariant.specs.State.{State, lp, off, tk, nc, W, R, D, nxt, own}
use Rattle.invariant.specs.Shared.{Shared}
use Rattle.invariant.specs.Lines.{S10Ok, S11Ok}
use Rattle.invariant.proofs.Facts.{put, clash, true-or-false, one_block}
use Rattle.invariant.proofs.Lower.{changed, backed, back_of, differ}
use Rattle.invariant.proofs.Mark.{marked, now-marked, still_marked, other, walker}
use Rattle.settle.specs.Views.{leaves, Reads, UpTo, Carries}
use Rattle.settle.specs.Owed.{Owed}
use Rattle.settle.proofs.OwedFrame.{Line, PushOwed, TakeOwed, PushViews, named, named-now, all-owed, push-words, same-push, push_frame, back-still}
use Rattle.settle.proofs.OwedLower.{walk_carries, lower-push, lower-take, claim-done}

-- READ or DESTROY is added to a slot of a serving block: what stood stands, and what is not there was not
module _ (s : State) (h : Shared s) (b l o : ℕ) (k : Mark) (serves : lap_of (own s b) ≡ some l) (slot : o < 63) (keeps : Write ≡ k → ⊥)
    (owner : ℕ → Own) where
  abbrev now : State
  now = changed s (marked s b o k) owner

  pub wrote_on : (a r : ℕ) → r < 63 → W now a r ≡ W s a r
  wrote_on = other s h b l o k serves slot Write keeps

  pub next-on : (a : ℕ) → nxt now a ≡ nxt s a
  next-on a = next-writes_state s.pool b o (or (state s.pool b o) k) a slot

  pub told-on : (a r : ℕ) → r < 63 → D s a r ≡ true → D now a r ≡ true
  told-on = still_marked s h b l o k serves slot Destroy

  pub unread : (a r : ℕ) → r < 63 → R now a r ≡ false → R s a r ≡ false
  unread a r v u = ⊎_elim (λ x. clash _ (still_marked s h b l o k serves slot Read a r v x) u) (λ x. x) (true-or-false (R s a r))

-- i has read all of its claim and carries the block on: it walks from the first claimed slot down
module _ (s : State) (i : ℕ) (c : Claim) (won : Won) (h : Shared s) (calls : ℕ → Call) (lines : (j : ℕ) → Line s j (calls j)) (owed : Owed s calls) where
  abbrev x : ℕ
  x = c.head.raw

  abbrev b : ℕ
  b = c.block

  abbrev walk : Call
  walk = Steal (walk_below won b (first c))

  pub s10-ended-owed : (k : Kind) (count : ℕ) (taken : List ℕ) (slot : ℕ) → S10Ok s i k count taken x b c.advance slot → past c ≡ 63
      → calls i ≡ Steal (S10 k c slot) → Owed (changed s s.pool (backed s b (lp x) (off x) i)) (put calls i walk)
  s10-ended-owed k count taken slot ok e at =
      all-owed after (put calls i walk)
      (lower-push s h b (lp x) (front (own s b)) i was (off x) i less s.pool calls lines owed walk (λ a o q. refl) (λ a. refl) (rw at (same-push Idle)))
      (lower-take s h b (lp x) (front (own s b)) i was (off x) i less s.pool calls lines owed walk
      (λ a o q u. u)
      (λ a o q d. d)
      (λ f. clash false (rw at at f) refl)
      (λ a k o p q z v.
      let u = rw at at v in
      absurd (claim-done s h i x b c.advance ok.at.claims.serves ok.at.claims.within a k o p q z u.0 u.1))
      (λ a k y n v. absurd (n (sym (rw at at v).0.0)))
      (named-now (λ m. Carries after m b (lp x) (off x)) calls i i walk refl (walk_carries after won b (lp x) (off x))))
    where
      after : State
      after = changed s s.pool (backed s b (lp x) (off x) i)

      was : own s b ≡ Back (lp x) (front (own s b)) i
      was = back_of (own s b) (lp x) i ok.at.claims.serves (ok.at.resp e)

      less : off x ≤ front (own s b)
      less = omega (arith, ok.at.claims.front)

  -- S11 that sees DESTROY
  module _ (slot : ℕ) (ok : S11Ok s i won x b c.advance slot) (at : calls i ≡ Steal (S11 won c slot)) where
    inside : slot < 63
    inside = omega (arith, ok.short, ok.to)

    not-write : Write ≡ Read → ⊥
    not-write e = differ (cc)

    pub s11-told-owed : D s b slot ≡ true → Owed (changed s (marked s b slot Read) (backed s b (lp x) (off x) i)) (put calls i walk)
    s11-told-owed d =
        all-owed after (put calls i walk)
        (lower-push s h b (lp x) (front (own s b)) i was (off x) i less (marked s b slot Read) calls lines owed walk
        (wrote_on s h b (lp x) slot Read serves inside not-write owner)
        (next-on s h b (lp x) slot Read serves inside not-write owner)
        (rw at (same-push Idle)))
        (lower-take s h b (lp x) (front (own s b)) i was (off x) i less (marked s b slot Read) calls lines owed walk
        (unread s h b (lp x) slot Read serves inside not-write owner)
        (told-on s h b (lp x) slot Read serves inside not-write owner)
        (λ f. clash false (rw at at f) refl)
        (λ a k o p q z v.
        let u = rw at at v in
        absurd (claim-done s h i x b c.advance serves ok.claims.within a k o p q z (omega (arith, u.0, ok.from)) u.1))
        (λ a k y n v. absurd (n (sym (rw at at v).0.0)))
        (named-now (λ m. Carries after m b (lp x) (off x)) calls i i walk refl (walk_carries after won b (lp x) (off x))))
      where
        owner : ℕ → Own
        owner = backed s b (lp x) (off x) i

        after : State
        after = changed s (marked s b slot Read) owner

        serves : lap_of (own s b) ≡ some (lp x)
        serves = ok.claims.serves

        was : own s b ≡ Back (lp x) (front (own s b)) i
        was = back_of (own s b) (lp x) i serves (walker s i won c slot h ok d)

        less : off x ≤ front (own s b)
        less = omega (arith, ok.claims.front)

    -- S11 that does not: the slot is marked, and i goes on with the next, or has made all of its marks
    abbrev read : State
    read = changed s (marked s b slot Read) s.ghost.own

    still_read : (a k o : ℕ) → lap_of (own s a) ≡ some k → o < 63 → R read a o ≡ false → UpTo c (63 * lp x + slot) (63 * k + o)
        → UpTo c (63 * lp x + (slot + 1)) (63 * k + o)
    still_read a k o p q u v =
        let within : off x + c.advance ≤ 63 = ok.claims.within in
        let from : 63 * lp x + slot ≤ 63 * k + o = v.0 in
        let to : 63 * k + o < tk x + c.advance = v.1 in
        let same : k ≡ lp x = omega arith in
        let n : o ≡ slot → ⊥ =
        λ e.
        clash _ (now-marked s h b (lp x) slot Read ok.claims.serves inside)
        (rw (one_block s h a b (lp x) (p ∙ ap some same) ok.claims.serves, e) at u)
        in
        (omega arith, to)

    module _ (call : Call) where
      s11-reads : ((q : ℕ) → UpTo c (63 * lp x + (slot + 1)) q → Reads call q)
          → ((a k y : ℕ) → Carries read (Steal (S11 won c slot)) a k y → Carries read call a k y)
          → TakeOwed read (put calls i call)
      s11-reads reads carries =
          record {
            mover = λ e.
                named (λ m. leaves m ≡ true) calls i (s.ghost.claimer (nc s - 1)) call (owed.mover e) (λ y f. clash false (rw at at f) refl);
            read = λ a k o p q z r u.
                named (λ m. Reads m (63 * k + o)) calls i (s.ghost.claimer (63 * k + o)) call
                (owed.read a k o p q z r (unread s h b (lp x) slot Read ok.claims.serves inside not-write s.ghost.own a o q u))
                (λ y v. reads (63 * k + o) (still_read a k o p q u (rw at at v)));
            back = λ a k y j e.
                back-still s read calls i call owed lines a k y j e
                (told-on s h b (lp x) slot Read ok.claims.serves inside not-write s.ghost.own a)
                (λ v. carries a k y (rw at at v));
          }

      s11-writes : PushViews (Steal (S11 won c slot)) call → PushOwed read (put calls i call)
      s11-writes views =
          push_frame s read calls i call owed
          (push-words s read refl (λ q. refl) (λ a. refl)
          (wrote_on s h b (lp x) slot Read ok.claims.serves inside not-write s.ghost.own)
          (next-on s h b (lp x) slot Read ok.claims.serves inside not-write s.ghost.own))
          (rw at views)

    pub s11-on-owed : Owed read (put calls i (Steal (S11 won c (slot + 1))))
    s11-on-owed =
        all-owed read (put calls i (Steal (S11 won c (slot + 1)))) (s11-writes (Steal (S11 won c (slot + 1))) (same-push Idle))
        (s11-reads (Steal (S11 won c (slot + 1))) (λ q u. u) (λ a k y v. v))

    -- DESTROY was not in its top slot, so it carries nothing on
    pub s11-done-owed : slot + 1 ≡ past c → D s b slot ≡ false → Owed read (put calls i Idle)
    s11-done-owed last d =
        all-owed read (put calls i Idle) (s11-writes Idle (same-push Idle))
        (s11-reads Idle (λ q u. absurd (omega (arith, u.0, u.1))) (λ a k y v. clash _ v.1 untold))
      where
        untold : D read b (off x + c.advance - 1) ≡ false
        untold =
            let e : off x + c.advance - 1 ≡ slot = omega arith in
            rw e (other s h b (lp x) slot Read ok.claims.serves inside Destroy (λ f. differ (cc)) b slot inside ∙ d)
