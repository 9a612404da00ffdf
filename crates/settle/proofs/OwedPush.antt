-- What is owed across the lines of a push that change the shared state or the ghost: the conjuncts on pushes.
use Rattle.std.specs.Prelude.{Option, None, Some}
use Prim.Native.Nat.{ℕ, ◌+◌, ◌*◌, ◌-◌, ◌≤◌, ◌<◌}
use mathlib.Core.Path.{◌≡◌, refl, sym, ap, ◌∙◌}
use mathlib.Core.Bool.{Bool, true, false, cond}
use mathlib.Core.Logic.{⊎_elim}
use native.Mathlib.Omega.{arith}
use native.Mathlib.Decide.{dec_lt}
use lib.Dec.{eqb}
use borrow.Author.Tests.{eqb-false}
use Rattle.index.specs.Claim.{advanced}
use Rattle.index.specs.declared.Index.{Index}
use Rattle.memory.specs.Layout.{has}
use Rattle.memory.specs.Touch.{Touch, clears, frees}
use Rattle.memory.proofs.Apart.{next-links, next-writes_state}
use Rattle.memory.specs.declared.Mark.TheVariants.{Write}
use Rattle.state.specs.declared.PushLine.{PushLine}
use Rattle.state.specs.declared.PushLine.TheVariants.{P3, P4, P6, P7, P8, P9, P10}
use Rattle.state.specs.declared.Call.{Call}
use Rattle.state.specs.declared.Call.TheVariants.{Idle, Push}
use Rattle.machine.specs.Push.{p4_last}
use Rattle.invariant.specs.Ghost.{Own, Free, Held, Open, some, none, lap_of}
use Rattle.invariant.specs.State.{State, lp, off, tk, T, N, np, W, nxt, free, own}
use Rattle.invariant.specs.Shared.{Shared}
use Rattle.invariant.specs.Lines.{Has, P4Ok, P6Ok, P7Ok, P9Ok}
use Rattle.invariant.proofs.Facts.{put, put_same, cond_elim, true-or-false, clash, none-some, some_inj, one_block}
use Rattle.invariant.proofs.Lower.{put_elim, differ}
use Rattle.invariant.proofs.Pool.{given-on, Changes, alike, served, p3-changes, p10-changes}
use Rattle.invariant.proofs.Ticket.{pushed-on, pusher-before}
use Rattle.invariant.proofs.Install.{installed}
use Rattle.invariant.proofs.Link.{linked_on, linked, was}
use Rattle.invariant.proofs.Write.{marked-on, still, now-written}
use Rattle.settle.specs.Views.{holds, owes, links, installs, held_of, push_holds, push_owes, push_links, push_installs}
use Rattle.settle.specs.Owed.{Owed, HeldOwed}
use Rattle.settle.proofs.OwedFrame.{PushOwed, named, named-now}

-- ---- P3, P10, S14: a block changes hands, and serves no lap afterwards

module _ (s : State) (x : ℕ) (w : Own) (touch : Touch) (h : Shared s) (change : Changes s x w touch)
    (calls : ℕ → Call) (i : ℕ) (call : Call) (owed : Owed s calls) where
  pub given-push : (installs (calls i) ≡ true → installs call ≡ true)
      → ((k : ℕ) → owes (calls i) ≡ some k → owes call ≡ some k)
      → ((k : ℕ) → links (calls i) ≡ some k → links call ≡ some k)
      → HeldOwed (given-on s x w touch) (put calls i call) → PushOwed (given-on s x w touch) (put calls i call)
  given-push install owe link held =
      record {
        installer = λ e. named (λ c. installs c ≡ true) calls i (s.ghost.pusher (np s - 1)) call (owed.installer e) (λ y. install);
        held = held;
        write = λ b l o p q r u.
            let a = served s x w touch h change b l p in
            named (λ c. owes c ≡ some (63 * l + o)) calls i (s.ghost.pusher (63 * l + o)) call
            (owed.write b l o a.0 q r (sym (ap (has Write) ((alike s x w touch h change b a.1).states o q)) ∙ u))
            (λ y. owe (63 * l + o));
        link = λ b l p n r.
            let a = served s x w touch h change b l p in
            named (λ c. links c ≡ some (63 * l + 62)) calls i (s.ghost.pusher (63 * l + 62)) call
            (owed.link b l a.0 (sym (alike s x w touch h change b a.1).nexts ∙ n) r)
            (λ y. link (63 * l + 62));
      }

-- the block that is taken is held, and no other was
pub p3-push : (s : State) (i x v : ℕ) (t : Index) (b : ℕ) (h : Shared s) (n : x < N s) (f : free s x ≡ true) (calls : ℕ → Call)
    → calls i ≡ Push (P3 v t b) → Owed s calls → PushOwed (given-on s x (Held i) (clears x)) (put calls i (Push (P4 v t b (Some x))))
p3-push s i x v t b h n f calls at owed =
    given-push s x (Held i) (clears x) h (p3-changes s i x h n f) calls i (Push (P4 v t b (Some x))) owed
    (λ e. rw at at e)
    (λ k e. rw at at e)
    (λ k e. rw at at e)
    (λ c j.
    put_elim (λ o. o ≡ Held j → holds (put calls i (Push (P4 v t b (Some x))) j) ≡ some c) (own s) x (Held i) c
    (λ e g. named-now (λ m. holds m ≡ some c) calls i j (Push (P4 v t b (Some x))) (cc) (ap some (sym e)))
    (λ m g. named (λ m. holds m ≡ some c) calls i j (Push (P4 v t b (Some x))) (owed.held c j g) (λ y e. none-some c (rw at at e))))

-- a block that is given back was held by i alone
pub p10-push : (s : State) (i x : ℕ) (spent : Bool) (h : Shared s) (mine : own s x ≡ Held i) (calls : ℕ → Call)
    → calls i ≡ Push (P10 x spent) → Owed s calls → PushOwed (given-on s x Free (frees x)) (put calls i Idle)
p10-push s i x spent h mine calls at owed =
    given-push s x Free (frees x) h (p10-changes s i x h mine) calls i Idle owed
    (λ e. rw at at e)
    (λ k e. rw at at e)
    (λ k e. rw at at e)
    (λ c j.
    put_elim (λ o. o ≡ Held j → holds (put calls i Idle j) ≡ some c) (own s) x Free c
    (λ e g. differ (cc))
    (λ m g. named (λ m. holds m ≡ some c) calls i j Idle (owed.held c j g) (λ y e. absurd (m (sym (some_inj x c (rw at at e)))))))

-- ---- P4: the new ticket is i's, and so are the link and the tail of a block that it ended

module _ (v : ℕ) (t : Index) (b : ℕ) where
  abbrev p4-next : Option ℕ → PushLine
  p4-next held = cond (eqb (off t.raw) 62) (p4_last v t b held) (P8 v t b held)

  last-owes : (held : Option ℕ) → push_owes (p4_last v t b held) ≡ some (tk t.raw)
  last-owes None = refl
  last-owes (Some x) = refl

  next-owes : (held : Option ℕ) → push_owes (p4-next held) ≡ some (tk t.raw)
  next-owes held = cond_elim (λ line. push_owes line ≡ some (tk t.raw)) (eqb (off t.raw) 62) _ _ (λ e. last-owes held) (λ e. refl)

  last-holds : (held : Option ℕ) → push_holds (p4_last v t b held) ≡ held_of held
  last-holds None = refl
  last-holds (Some x) = refl

  next-holds : (held : Option ℕ) → push_holds (p4-next held) ≡ held_of held
  next-holds held = cond_elim (λ line. push_holds line ≡ held_of held) (eqb (off t.raw) 62) _ _ (λ e. last-holds held) (λ e. refl)

  last-ends : (held : Option ℕ) → Has held → (push_installs (p4_last v t b held) ≡ true) × (push_links (p4_last v t b held) ≡ some (tk t.raw))
  last-ends None x = absurd x
  last-ends (Some x) y = (refl, refl)

  next-ends : (held : Option ℕ) → off t.raw ≡ 62 → Has held
      → (push_installs (p4-next held) ≡ true) × (push_links (p4-next held) ≡ some (tk t.raw))
  next-ends held e x =
      cond_elim (λ line. (push_installs line ≡ true) × (push_links line ≡ some (tk t.raw))) (eqb (off t.raw) 62) _ _
      (λ f. last-ends held x)
      (λ f. absurd (eqb-false (off t.raw) 62 f e))

module _ (s : State) (i v : ℕ) (t : Index) (b : ℕ) (held : Option ℕ) (h : Shared s) (e : T s ≡ t.raw) (ok : P4Ok s i t.raw b held)
    (calls : ℕ → Call) (at : calls i ≡ Push (P4 v t b held)) (owed : Owed s calls) where
  abbrev next : Call
  next = Push (p4-next v t b held)

  -- the new ticket's pusher, and those of the tickets before
  pusher-now : (k : ℕ) → k ≡ np s → put s.ghost.pusher (tk t.raw) i k ≡ i
  pusher-now k f = ap (put s.ghost.pusher (tk t.raw) i) (f ∙ ap tk e) ∙ put_same s.ghost.pusher (tk t.raw) i

  pusher_old : (k : ℕ) → k < np s → put s.ghost.pusher (tk t.raw) i k ≡ s.ghost.pusher k
  pusher_old = pusher-before s i v t.raw h e ok.slot

  write-now : (a l o : ℕ) → lap_of (own s a) ≡ some l → o < 63 → 63 * l + o < tk (advanced t.raw 1) → W s a o ≡ false
      → owes (put calls i next (put s.ghost.pusher (tk t.raw) i (63 * l + o))) ≡ some (63 * l + o)
  write-now a l o p q r u = go (dec_lt (63 * l + o) (np s))
    where
      go : Dec (63 * l + o < np s) → owes (put calls i next (put s.ghost.pusher (tk t.raw) i (63 * l + o))) ≡ some (63 * l + o)
      go (yes z) =
          rw (pusher_old (63 * l + o) z)
          (named (λ c. owes c ≡ some (63 * l + o)) calls i (s.ghost.pusher (63 * l + o)) next (owed.write a l o p q z u)
          (λ y f. none-some (63 * l + o) (rw at at f)))
      go (no n) =
          let z : 63 * l + o ≡ np s = omega (arith, ok.slot) in
          named-now (λ c. owes c ≡ some (63 * l + o)) calls i _ next (pusher-now (63 * l + o) z)
          (next-owes v t b held ∙ ap some (sym (z ∙ ap tk e)))

  link-now : (a l : ℕ) → lap_of (own s a) ≡ some l → nxt s a ≡ None → 63 * l + 63 ≤ tk (advanced t.raw 1)
      → links (put calls i next (put s.ghost.pusher (tk t.raw) i (63 * l + 62))) ≡ some (63 * l + 62)
  link-now a l p n r = go (dec_lt (63 * l + 62) (np s))
    where
      go : Dec (63 * l + 62 < np s) → links (put calls i next (put s.ghost.pusher (tk t.raw) i (63 * l + 62))) ≡ some (63 * l + 62)
      go (yes z) =
          rw (pusher_old (63 * l + 62) z)
          (named (λ c. links c ≡ some (63 * l + 62)) calls i (s.ghost.pusher (63 * l + 62)) next (owed.link a l p n (omega arith))
          (λ y f. none-some (63 * l + 62) (rw at at f)))
      go (no m) =
          let z : 63 * l + 62 ≡ np s = omega (arith, ok.slot) in
          let last : off t.raw ≡ 62 = omega (arith, ok.slot) in
          named-now (λ c. links c ≡ some (63 * l + 62)) calls i _ next (pusher-now (63 * l + 62) z)
          ((next-ends v t b held last (ok.last last)).1 ∙ ap some (sym (z ∙ ap tk e)))

  installer-now : off (advanced t.raw 1) ≡ 63 → installs (put calls i next (put s.ghost.pusher (tk t.raw) i (tk (advanced t.raw 1) - 1))) ≡ true
  installer-now f =
      let last : off t.raw ≡ 62 = omega (arith, ok.slot) in
      named-now (λ c. installs c ≡ true) calls i _ next (pusher-now (tk (advanced t.raw 1) - 1) (omega (arith, ok.slot)))
      (next-ends v t b held last (ok.last last)).0

  pub p4-push : PushOwed (pushed-on s i v t.raw) (put calls i next)
  p4-push =
      record {
        installer = installer-now;
        held = λ c j g.
            named (λ m. holds m ≡ some c) calls i j next (owed.held c j g) (λ y f. next-holds v t b held ∙ rw at at f);
        write = write-now;
        link = link-now;
      }

-- ---- P6: the tail leaves the lap, and the block that served none serves the next; none of its tickets is pushed

module _ (s : State) (i v : ℕ) (t : Index) (b x : ℕ) (h : Shared s) (ok : P6Ok s i v t.raw b x)
    (calls : ℕ → Call) (at : calls i ≡ Push (P6 v t b x)) (owed : Owed s calls) where
  abbrev lap : ℕ
  lap = lp (T s) + 1

  -- a block that serves a lap with a ticket pushed served it before
  old_lap : (c l o : ℕ) → lap_of (put (own s) x (Open lap) c) ≡ some l → 63 * l + o < tk (advanced t.raw 2) → lap_of (own s c) ≡ some l
  old_lap c l o =
      put_elim (λ w. lap_of w ≡ some l → 63 * l + o < tk (advanced t.raw 2) → lap_of (own s c) ≡ some l) (own s) x (Open lap) c
      (λ e p r. absurd (omega (arith, some_inj lap l p, ok.installs.tail, ok.installs.last)))
      (λ n p r. p)

  pub p6-push : PushOwed (installed s t.raw x) (put calls i (Push (P7 v t b x)))
  p6-push =
      record {
        installer = λ e. absurd (omega (arith, ok.installs.last));
        held = λ c j.
            put_elim (λ w. w ≡ Held j → holds (put calls i (Push (P7 v t b x)) j) ≡ some c) (own s) x (Open lap) c
            (λ e g. differ (cc))
            (λ n g.
            named (λ m. holds m ≡ some c) calls i j (Push (P7 v t b x)) (owed.held c j g)
            (λ y f. absurd (n (sym (some_inj x c (rw at at f))))));
        write = λ c l o p q r u.
            named (λ m. owes m ≡ some (63 * l + o)) calls i (s.ghost.pusher (63 * l + o)) (Push (P7 v t b x))
            (owed.write c l o (old_lap c l o p r) q (omega (arith, ok.installs.tail, ok.installs.last)) u)
            (λ y f. rw at at f);
        link = λ c l p n r.
            named (λ m. links m ≡ some (63 * l + 62)) calls i (s.ghost.pusher (63 * l + 62)) (Push (P7 v t b x))
            (owed.link c l (old_lap c l 62 p (omega arith)) n (omega (arith, ok.installs.tail, ok.installs.last)))
            (λ y f. rw at at f);
      }

-- ---- P7: the block's link is there

module _ (s : State) (i v : ℕ) (t : Index) (b x : ℕ) (h : Shared s) (ok : P7Ok s i v t.raw b x)
    (calls : ℕ → Call) (at : calls i ≡ Push (P7 v t b x)) (owed : Owed s calls) where
  -- a block without a link had none, and is not b
  unlinked : (c : ℕ) → nxt (linked_on s b x) c ≡ None → (nxt s c ≡ None) × (c ≡ b → ⊥)
  unlinked c n =
      let m : c ≡ b → ⊥ = λ e. let z : Some x ≡ None = sym (ap (nxt (linked_on s b x)) e ∙ linked s i v t.raw b x h ok) ∙ n in differ (cc) in
      (sym (next-links s.pool b x c m) ∙ n, m)

  -- .. which is the only block of its lap
  other-lap : (c l : ℕ) → lap_of (own s c) ≡ some l → (c ≡ b → ⊥) → 63 * l + 62 ≡ tk t.raw → ⊥
  other-lap c l p n e =
      let z : l ≡ lp t.raw = omega (arith, ok.last) in
      n (one_block s h c b (lp t.raw) (p ∙ ap some z) ok.owes.serves)

  pub p7-push : PushOwed (linked_on s b x) (put calls i (Push (P8 v t b None)))
  p7-push =
      record {
        installer = λ e.
            named (λ m. installs m ≡ true) calls i (s.ghost.pusher (np s - 1)) (Push (P8 v t b None)) (owed.installer e) (λ y f. rw at at f);
        held = λ c j e. named (λ m. holds m ≡ some c) calls i j (Push (P8 v t b None)) (owed.held c j e) (λ y f. rw at at f);
        write = λ c l o p q r u.
            named (λ m. owes m ≡ some (63 * l + o)) calls i (s.ghost.pusher (63 * l + o)) (Push (P8 v t b None))
            (owed.write c l o p q r (was s i v t.raw b x h ok Write c o q ∙ u))
            (λ y f. rw at at f);
        link = λ c l p n r.
            let a = unlinked c n in
            named (λ m. links m ≡ some (63 * l + 62)) calls i (s.ghost.pusher (63 * l + 62)) (Push (P8 v t b None))
            (owed.link c l p a.0 r)
            (λ y f. absurd (other-lap c l p a.1 (sym (some_inj (tk t.raw) (63 * l + 62) (rw at at f)))));
      }

-- ---- P9: the slot is written

module _ (s : State) (i v : ℕ) (t : Index) (b : ℕ) (held : Option ℕ) (h : Shared s) (ok : P9Ok s i v t.raw b held)
    (calls : ℕ → Call) (at : calls i ≡ Push (P9 v t b held)) (owed : Owed s calls) where
  unwritten : (c o : ℕ) → o < 63 → W (marked-on s t.raw b) c o ≡ false → W s c o ≡ false
  unwritten c o q u =
      ⊎_elim (λ w. clash _ (still s i v t.raw b h ok.owes c o q w) u) (λ w. w) (true-or-false (W s c o))

  -- a slot that is not is another than the push's, the only one of its ticket
  other-ticket : (c l o : ℕ) → lap_of (own s c) ≡ some l → o < 63 → W (marked-on s t.raw b) c o ≡ false → 63 * l + o ≡ tk t.raw → ⊥
  other-ticket c l o p q u e =
      let slot : off t.raw < 63 = ok.owes.slot in
      let z : l ≡ lp t.raw = omega arith in
      let y : o ≡ off t.raw = omega arith in
      let x : c ≡ b = one_block s h c b (lp t.raw) (p ∙ ap some z) ok.owes.serves in
      clash _ (now-written s i v t.raw b h ok.owes) (rw (x, y) at u)

  pub p9-push : (call : Call) → installs call ≡ false → ((c : ℕ) → held_of held ≡ some c → holds call ≡ some c) → links call ≡ none
      → PushOwed (marked-on s t.raw b) (put calls i call)
  p9-push call install hold link =
      record {
        installer = λ e. named (λ m. installs m ≡ true) calls i (s.ghost.pusher (np s - 1)) call (owed.installer e) (λ y f. install ∙ rw at at f);
        held = λ c j e. named (λ m. holds m ≡ some c) calls i j call (owed.held c j e) (λ y f. hold c (rw at at f));
        write = λ c l o p q r u.
            named (λ m. owes m ≡ some (63 * l + o)) calls i (s.ghost.pusher (63 * l + o)) call
            (owed.write c l o p q r (unwritten c o q u))
            (λ y f. absurd (other-ticket c l o p q u (sym (some_inj (tk t.raw) (63 * l + o) (rw at at f)))));
        link = λ c l p n r.
            named (λ m. links m ≡ some (63 * l + 62)) calls i (s.ghost.pusher (63 * l + 62)) call
            (owed.link c l p (sym (next-writes_state s.pool b (off t.raw) _ c ok.owes.slot) ∙ n) r)
            (λ y f. link ∙ rw at at f);
      }
