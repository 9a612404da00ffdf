-- What is owed across S4, S7 and S8: a thief claims tickets, and moves the head out of a lap that it ended.
use Prim.Native.Nat.{ℕ, ◌+◌, ◌*◌, ◌-◌, ◌≤◌, ◌<◌}
use mathlib.Core.Path.{◌≡◌, refl, sym, ◌∙◌}
use mathlib.Core.Bool.{Bool, true, false, cond}
use mathlib.Core.Logic.{inl, inr}
use mathlib.Core.List.{List}
use native.Mathlib.Omega.{arith}
use native.Mathlib.Decide.{dec_lt}
use lib.Dec.{eqb}
use borrow.Author.Tests.{eqb-true, eqb-false}
use Rattle.index.specs.Claim.{claimed}
use Rattle.index.specs.Laws.{claimed-position}
use Rattle.index.proofs.Tickets.{claimed-ticket}
use Rattle.state.specs.Move.{Move}
use Rattle.state.specs.declared.Kind.{Kind}
use Rattle.state.specs.declared.Claim.{Claim}
use Rattle.state.specs.declared.StealLine.{StealLine}
use Rattle.state.specs.declared.StealLine.TheVariants.{S4, S5, S7, S8, S9}
use Rattle.state.specs.declared.Call.{Call}
use Rattle.state.specs.declared.Call.TheVariants.{Idle, Steal}
use Rattle.machine.specs.Steal.{s4, s7, s8, first, past}
use Rattle.invariant.specs.Ghost.{Ghost, Held, Back, some, lap_of, front}
use Rattle.invariant.specs.State.{State, lp, tk, H, nc, R, own}
use Rattle.invariant.specs.Shared.{Shared}
use Rattle.invariant.specs.Lines.{S4Ok, S8Ok, StealOk}
use Rattle.invariant.specs.Kept.{moved}
use Rattle.invariant.proofs.Facts.{put, cond_elim, cond_pair}
use Rattle.invariant.proofs.Lower.{put_elim, differ}
use Rattle.invariant.proofs.Claim.{fill, fill-inside, fill-below, claimed-by, claimed-on}
use Rattle.invariant.proofs.Leave.{left_by, left-on, headed_on, new-position, new_tickets, same-serves, same-front}
use Rattle.settle.specs.Views.{leaves, Reads, StealReads, Carries, steal_leaves, UpTo}
use Rattle.settle.specs.Owed.{Owed}
use Rattle.settle.proofs.OwedFrame.{Line, TakeOwed, PushSame, back-parts, named, named-now, all-owed, push-words, take-marks, same-push, same-take, push_frame, take-frame, back-still}
use Rattle.settle.proofs.OwedLocal.{s4_lost_owed}

-- ---- S4: the new tickets are i's, and so is the head of a block that it ended

module _ (k : Kind) (c : Claim) where
  abbrev s4-next : StealLine
  s4-next = cond (eqb (past c) 63) (S5 k c) (S9 k c (first c))

  next-reads : (q : ℕ) → UpTo c (tk c.head.raw) q → StealReads s4-next q
  next-reads q u = cond_elim (λ line. StealReads line q) (eqb (past c) 63) (S5 k c) (S9 k c (first c)) (λ e. u) (λ e. u)

  next-leaves : past c ≡ 63 → steal_leaves s4-next ≡ true
  next-leaves e =
      cond_elim (λ line. steal_leaves line ≡ true) (eqb (past c) 63) (S5 k c) (S9 k c (first c)) (λ f. refl) (λ f. absurd (eqb-false (past c) 63 f e))

module _ (s : State) (i : ℕ) (k : Kind) (count : ℕ) (c : Claim) (more : Bool) (e : H s ≡ c.head.raw)
    (ok : S4Ok s k count c.head.raw c.block c.advance more)
    (calls : ℕ → Call) (at : calls i ≡ Steal (S4 k c more)) (lines : (j : ℕ) → Line s j (calls j)) (owed : Owed s calls) where
  abbrev h : ℕ
  h = c.head.raw

  abbrev a : ℕ
  a = c.advance

  abbrev next : Call
  next = Steal (s4-next k c)

  more_tickets : tk (claimed h a more) ≡ tk h + a
  more_tickets = claimed-ticket h a more ok.within

  read-now : (b l o : ℕ) → lap_of (own s b) ≡ some l → o < 63 → o < front (own s b) → 63 * l + o < tk (claimed h a more) → R s b o ≡ false
      → Reads (put calls i next (fill s.ghost.claimer (tk h) a i (63 * l + o))) (63 * l + o)
  read-now b l o p q f r u = go (dec_lt (63 * l + o) (nc s))
    where
      go : Dec (63 * l + o < nc s) → Reads (put calls i next (fill s.ghost.claimer (tk h) a i (63 * l + o))) (63 * l + o)
      go (yes z) =
          rw (fill-below s.ghost.claimer (tk h) a i (63 * l + o) (omega arith))
          (named (λ m. Reads m (63 * l + o)) calls i (s.ghost.claimer (63 * l + o)) next (owed.read b l o p q f z u) (λ y v. absurd (rw at at v)))
      go (no n) =
          let below : 63 * l + o < tk h + a = omega (arith, more_tickets) in
          let above : tk h ≤ 63 * l + o = omega arith in
          named-now (λ m. Reads m (63 * l + o)) calls i _ next (fill-inside s.ghost.claimer (tk h) a i (63 * l + o) above below)
          (next-reads k c (63 * l + o) (above, below))

  s4-take : TakeOwed (claimed-on s i h a more) (put calls i next)
  s4-take =
      record {
        mover = λ f.
            let some-slot : 1 ≤ a = ok.some-slot in
            named-now (λ m. leaves m ≡ true) calls i _ next
            (fill-inside s.ghost.claimer (tk h) a i (tk (claimed h a more) - 1) (omega (arith, more_tickets)) (omega (arith, more_tickets)))
            (next-leaves k c (omega (arith, claimed-position h a more, ok.within)));
        read = read-now;
        back = λ b l f j g.
            back-still s (claimed-on s i h a more) calls i next owed lines b l f j g (λ o q d. d) (λ v. absurd (rw at at v));
      }

  pub s4-won-owed : Owed (claimed-on s i h a more) (put calls i next)
  s4-won-owed =
      all-owed (claimed-on s i h a more) (put calls i next)
      (push_frame s (claimed-on s i h a more) calls i next owed
      (push-words s (claimed-on s i h a more) refl (λ q. refl) (λ b. refl) (λ b o q. refl) (λ b. refl))
      (rw at (same-push Idle)))
      s4-take

-- ---- S8: the block that the head leaves is on its way back, and i carries it on

module _ (s : State) (i : ℕ) (k : Kind) (count : ℕ) (c : Claim) (more : Bool) (sh : Shared s)
    (ok : S8Ok s i k count c.head.raw c.block c.advance more)
    (calls : ℕ → Call) (at : calls i ≡ Steal (S8 k c more)) (lines : (j : ℕ) → Line s j (calls j)) (owed : Owed s calls) where
  abbrev left : State
  left = left-on s i c.head.raw c.block c.advance more

  abbrev next8 : Call
  next8 = Steal (S9 k c (first c))

  serves8 : (b : ℕ) → lap_of (own left b) ≡ lap_of (own s b)
  serves8 = same-serves s i count c.head.raw c.block c.advance k more sh ok

  front8 : (b : ℕ) → front (own left b) ≡ front (own s b)
  front8 = same-front s i count c.head.raw c.block c.advance k more sh ok

  s8-same : PushSame s left
  s8-same =
      record {
        tail = refl;
        pusher = λ q. refl;
        held = λ b j.
            put_elim (λ w. w ≡ Held j → own s b ≡ Held j) (own s) c.block (Back (lp c.head.raw) 63 i) b (λ e g. differ (cc)) (λ n g. g);
        laps = λ b l p. sym (serves8 b) ∙ p;
        wrote = λ b l o p q w. w;
        nexts = λ b l p n. n;
      }

  back8 : (b l f j : ℕ) → own left b ≡ Back l f j → Carries left (put calls i next8 j) b l f
  back8 b l f j =
      put_elim (λ w. w ≡ Back l f j → Carries left (put calls i next8 j) b l f) (own s) c.block (Back (lp c.head.raw) 63 i) b
      (λ e g.
      let z = back-parts (lp c.head.raw) 63 i l f j g in
      named-now (λ m. Carries left m b l f) calls i j next8 (sym z.2) ((sym e, z.0, ok.leaves.ended ∙ z.1), inl (sym z.1)))
      (λ n g. back-still s left calls i next8 owed lines b l f j g (λ o q d. d) (λ v. let u = rw at at v in (u.0, inr u.1)))

  s8-take : TakeOwed left (put calls i next8)
  s8-take =
      record {
        mover = λ e.
            let p = new-position s i count c.head.raw c.block c.advance k more sh ok in
            absurd (omega (arith, p, ok.leaves.ended));
        read = λ b l o p q f r u.
            named (λ m. Reads m (63 * l + o)) calls i (s.ghost.claimer (63 * l + o)) next8
            (owed.read b l o (sym (serves8 b) ∙ p) q (omega (arith, front8 b))
            (omega (arith, new_tickets s i count c.head.raw c.block c.advance k more sh ok))
            u)
            (λ y v. rw at at v);
        back = back8;
      }

  pub s8-left-owed : Owed left (put calls i next8)
  s8-left-owed = all-owed left (put calls i next8) (push_frame s left calls i next8 owed s8-same (rw at (same-push Idle))) s8-take

-- ---- the lines

module _ (s : State) (calls : ℕ → Call) (i count : ℕ) (taken : List ℕ) (h : Shared s) (lines : (j : ℕ) → Line s j (calls j)) (owed : Owed s calls) where
  abbrev Goes : Move → Ghost → Type 0
  Goes m g = Owed (moved s m g) (put calls i m.made.call)

  pub s4-owed : (k : Kind) (c : Claim) (more : Bool) → StealOk s i count taken (S4 k c more) → calls i ≡ Steal (S4 k c more)
      → Goes (s4 s.queue k c more) (cond (eqb (H s) c.head.raw) (claimed-by s.ghost i c.head.raw c.advance) s.ghost)
  unfolding s4
  s4-owed k c more ok at =
      cond_pair Goes (eqb (H s) c.head.raw) _ _ _ _
      (λ e. s4-won-owed s i k count c more (eqb-true (H s) c.head.raw e) ok calls at lines owed)
      (λ e. s4_lost_owed s calls i owed k c more at)

  pub s7-owed : (k : Kind) (c : Claim) (x : ℕ) (more : Bool) → calls i ≡ Steal (S7 k c x more) → Goes (s7 s.queue k c x more) s.ghost
  s7-owed k c x more at =
      all-owed (headed_on s x) (put calls i (Steal (S8 k c more)))
      (push_frame s (headed_on s x) calls i (Steal (S8 k c more)) owed
      (push-words s (headed_on s x) refl (λ q. refl) (λ b. refl) (λ b o q. refl) (λ b. refl))
      (rw at (same-push Idle)))
      (take-frame s (headed_on s x) calls i (Steal (S8 k c more)) owed lines
      (take-marks s (headed_on s x) refl (λ q. refl) (λ b. refl) (λ b o q. refl) (λ b o q. refl))
      (rw at (same-take (headed_on s x) (Steal (S8 k c more)))))

  pub s8-owed : (k : Kind) (c : Claim) (more : Bool) → StealOk s i count taken (S8 k c more) → calls i ≡ Steal (S8 k c more)
      → Goes (s8 s.queue k c more) (left_by s.ghost i c.block (lp c.head.raw))
  s8-owed k c more ok at = s8-left-owed s i k count c more h ok calls at lines owed
