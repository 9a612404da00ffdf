-- A step that adds READ or DESTROY to a slot of a serving block; and S11, which marks what its thief has read.
use Prim.Native.Nat.{ℕ, ◌+◌, ◌*◌, ◌-◌, ◌≤◌, ◌<◌}
use mathlib.Core.Path.{◌≡◌, refl, sym, ap, ◌∙◌}
use mathlib.Core.Bool.{true, false, cond}
use mathlib.Core.Logic.{◌⊎◌, inl, inr, ⊎_elim}
use mathlib.Core.List.{List}
use native.Mathlib.Omega.{arith}
use native.Mathlib.Decide.{ℕ_discrete}
use borrow.Author.Tests.{eqb-false}
use lib.Dec.{eqb}
use Rattle.memory.specs.Layout.{state, has, or}
use Rattle.memory.specs.Touch.{Touch, writes_state, after}
use Rattle.memory.specs.Laws.{length-after, state-written, has-or, has-or-other}
use Rattle.memory.proofs.Apart.{state-writes_state, token-writes_state, next-writes_state, free-writes_state}
use Rattle.memory.specs.declared.Mark.{Mark}
use Rattle.memory.specs.declared.Mark.TheVariants.{Write, Read, Destroy}
use Rattle.state.specs.declared.Claim.{Claim}
use Rattle.state.specs.declared.Won.{Won}
use Rattle.state.specs.declared.Call.TheVariants.{Idle, Steal}
use Rattle.state.specs.declared.StealLine.TheVariants.{S11}
use Rattle.state.specs.declared.Answer.TheVariants.{Open}
use Rattle.state.specs.Move.{Move}
use Rattle.machine.specs.Steal.{s11, s11_marked, to, walk_below, first, past, answer_of}
use Rattle.invariant.specs.Ghost.{some, lap_of, front, resp}
use Rattle.invariant.specs.State.{State, lp, off, nc, W, R, D, own}
use Rattle.invariant.specs.Shared.{Shared}
use Rattle.invariant.specs.Lines.{StealOk, S11Ok, Claims}
use Rattle.invariant.specs.Kept.{Kept}
use Rattle.invariant.proofs.Facts.{cond_elim, cond-read, cond_same, true-or-false, clash, some_inj, none-some, serving-number, room}
use Rattle.invariant.proofs.Lower.{with_own, changed, changes, backed, Quiet, quiet_trans, differ, won-kept, walks_on, finish_shared, finish_quiet}

-- a mark that stands after another was added stood before, or is the one added
had : (j k : Mark) (w : ℕ) → has j (or w k) ≡ true → (has j w ≡ true) ⊎ (j ≡ k)
had Write Write w e = inr refl
had Write Read w e = inl (sym (has-or-other Write Read w (λ q. differ (cc))) ∙ e)
had Write Destroy w e = inl (sym (has-or-other Write Destroy w (λ q. differ (cc))) ∙ e)
had Read Write w e = inl (sym (has-or-other Read Write w (λ q. differ (cc))) ∙ e)
had Read Read w e = inr refl
had Read Destroy w e = inl (sym (has-or-other Read Destroy w (λ q. differ (cc))) ∙ e)
had Destroy Write w e = inl (sym (has-or-other Destroy Write w (λ q. differ (cc))) ∙ e)
had Destroy Read w e = inl (sym (has-or-other Destroy Read w (λ q. differ (cc))) ∙ e)
had Destroy Destroy w e = inr refl

-- .. and one that stood stands
stays : (j k : Mark) (w : ℕ) → has j w ≡ true → has j (or w k) ≡ true
stays Write Write w e = has-or Write w
stays Write Read w e = has-or-other Write Read w (λ q. differ (cc)) ∙ e
stays Write Destroy w e = has-or-other Write Destroy w (λ q. differ (cc)) ∙ e
stays Read Write w e = has-or-other Read Write w (λ q. differ (cc)) ∙ e
stays Read Read w e = has-or Read w
stays Read Destroy w e = has-or-other Read Destroy w (λ q. differ (cc)) ∙ e
stays Destroy Write w e = has-or-other Destroy Write w (λ q. differ (cc)) ∙ e
stays Destroy Read w e = has-or-other Destroy Read w (λ q. differ (cc)) ∙ e
stays Destroy Destroy w e = has-or Destroy w

-- a slot's state with one more mark
abbrev pub marks : State → ℕ → ℕ → Mark → Touch
marks s b o k = writes_state b o (or (state s.pool b o) k)

abbrev pub marked : State → ℕ → ℕ → Mark → List ℕ
marked s b o k = after s.pool (marks s b o k)

module _ (s : State) (h : Shared s) (b l o : ℕ) (k : Mark) (serves : lap_of (own s b) ≡ some l) (slot : o < 63) where
  abbrev new : List ℕ
  new = marked s b o k

  abbrev word : ℕ
  word = or (state s.pool b o) k

  here : (a r : ℕ) → a ≡ b → r ≡ o → state new a r ≡ word
  here a r p q = rw (p, q) (state-written s.pool b o word slot (room s h b (serving-number s h b l serves)))

  elsewhere : (a r : ℕ) → r < 63 → (a ≡ b → r ≡ o → ⊥) → state new a r ≡ state s.pool a r
  elsewhere a r v n = state-writes_state s.pool b o word a r slot v n

  -- of each slot: it is the marked one, or keeps its state
  each : (P : ℕ → Type 0) (a r : ℕ) → r < 63 → (a ≡ b → r ≡ o → P word) → P (state s.pool a r) → P (state new a r)
  each P a r v f g = go (ℕ_discrete a b) (ℕ_discrete r o)
    where
      go : Dec (a ≡ b) → Dec (r ≡ o) → P (state new a r)
      go (yes p) (yes q) = rw (here a r p q) (f p q)
      go (yes p) (no n) = rw (elsewhere a r v (λ x y. n y)) g
      go (no n) (yes q) = rw (elsewhere a r v (λ x y. n x)) g
      go (no n) (no m) = rw (elsewhere a r v (λ x y. n x)) g

  -- the mark stands now, and what stood before stands on
  pub now-marked : has k (state new b o) ≡ true
  now-marked = rw (here b o refl refl) (has-or k (state s.pool b o))

  pub still_marked : (j : Mark) (a r : ℕ) → r < 63 → has j (state s.pool a r) ≡ true → has j (state new a r) ≡ true
  still_marked j a r v e = each (λ w. has j w ≡ true) a r v (λ p q. stays j k (state s.pool b o) (rw (p, q) at e)) e

  -- another mark stays as it is
  pub other : (j : Mark) → (j ≡ k → ⊥) → (a r : ℕ) → r < 63 → has j (state new a r) ≡ has j (state s.pool a r)
  other j n a r v =
      each (λ w. has j w ≡ has j (state s.pool a r)) a r v
      (λ p q. rw (p, q) (has-or-other j k (state s.pool b o) n))
      refl

  -- a mark that stands stood before, or is the one added
  seen : (j : Mark) (a r : ℕ) → r < 63 → has j (state new a r) ≡ true → (has j (state s.pool a r) ≡ true) ⊎ ((j ≡ k) × (a ≡ b) × (r ≡ o))
  seen j a r v =
      each (λ w. has j w ≡ true → (has j (state s.pool a r) ≡ true) ⊎ ((j ≡ k) × (a ≡ b) × (r ≡ o))) a r v
      (λ p q e. ⊎_elim (λ x. inl (rw (p, q) x)) (λ x. inr (x, p, q)) (had j k (state s.pool b o) e))
      (λ e. inl e)

  module _ (keeps : Write ≡ k → ⊥) where
    wrote : (a r : ℕ) → r < 63 → has Write (state new a r) ≡ W s a r
    wrote = other Write keeps

    -- READ goes to a slot that is written and claimed, DESTROY to the frontier's last slot or above
    module _ (reads : Read ≡ k → (W s b o ≡ true) × (63 * l + o < nc s)) (destroys : Destroy ≡ k → (front (own s b) ≤ o + 1) × (o + 1 < 63)) where
      read-written : (a c r : ℕ) → lap_of (own s a) ≡ some c → r < 63 → has Read (state new a r) ≡ true → has Write (state new a r) ≡ true
      read-written a c r e v x =
          wrote a r v
          ∙ ⊎_elim
          (λ y. h.read-written a c r e v y)
          (λ y. rw (y.1, y.2) (reads y.0).0)
          (seen Read a r v x)

      read-claimed : (a c r : ℕ) → lap_of (own s a) ≡ some c → r < 63 → has Read (state new a r) ≡ true → 63 * c + r < nc s
      read-claimed a c r e v x =
          ⊎_elim
          (λ y. h.read-claimed a c r e v y)
          (λ y.
          let z : l ≡ c = some_inj l c (sym serves ∙ rw y.1 at e) in
          rw (← z, y.2) (reads y.0).1)
          (seen Read a r v x)

      destroy_front : (a c r : ℕ) → lap_of (own s a) ≡ some c → r < 63 → has Destroy (state new a r) ≡ true → front (own s a) ≤ r + 1
      destroy_front a c r e v x =
          ⊎_elim (λ y. h.destroy_front a c r e v y) (λ y. rw (y.1, y.2) (destroys y.0).0) (seen Destroy a r v x)

      destroy_below : (a c r : ℕ) → lap_of (own s a) ≡ some c → r < 63 → has Destroy (state new a r) ≡ true → r + 1 < 63
      destroy_below a c r e v x =
          ⊎_elim (λ y. h.destroy_below a c r e v y) (λ y. rw y.2 (destroys y.0).1) (seen Destroy a r v x)

      pub mark-shared : Shared (changed s (marked s b o k) s.ghost.own)
      mark-shared =
          record {
            sized = length-after s.pool (marks s b o k) ∙ h.sized;
            even = h.even;
            ceiling = h.ceiling;
            order = h.order;
            flag = h.flag;
            freed = λ a n e. free-writes_state s.pool b o word a slot ∙ h.freed a n e;
            taken = λ a n e. h.taken a n (sym (free-writes_state s.pool b o word a slot) ∙ e);
            number = h.number;
            open_from = h.open_from;
            open_to = h.open_to;
            open_at = h.open_at;
            back_to = h.back_to;
            back_at = h.back_at;
            live = h.live;
            tail-number = h.tail-number;
            tail_at = h.tail_at;
            head-number = h.head-number;
            head_at = h.head_at;
            next-number = λ a x n e. h.next-number a x n (sym (next-writes_state s.pool b o word a slot) ∙ e);
            held_next = λ a c e. next-writes_state s.pool b o word a slot ∙ h.held_next a c e;
            held-clean = λ a c r e v.
                elsewhere a r v (λ p q. none-some l (sym (ap lap_of (rw p at e)) ∙ serves)) ∙ h.held-clean a c r e v;
            next-lap = λ a c x e f. h.next-lap a c x e (sym (next-writes_state s.pool b o word a slot) ∙ f);
            next-at = λ a c x e f. h.next-at a c x e (sym (next-writes_state s.pool b o word a slot) ∙ f);
            written = λ a c r e v x. h.written a c r e v (sym (wrote a r v) ∙ x);
            token = λ a c r e v x. token-writes_state s.pool b o word a r slot v ∙ h.token a c r e v (sym (wrote a r v) ∙ x);
            read-written = read-written;
            read-claimed = read-claimed;
            destroy_front = destroy_front;
            destroy_below = destroy_below;
            front-written = λ a c r e v x. wrote a r v ∙ h.front-written a c r e v x;
          }

    -- READ goes to no slot of j's; DESTROY to one of j's only where j carries the walk on
    pub mark-quiet : (j : ℕ)
        → (Read ≡ k → s.ghost.claimer (63 * l + o) ≡ j → ⊥)
        → (Destroy ≡ k → s.ghost.claimer (63 * l + o) ≡ j → R s b o ≡ false → resp (own s b) ≡ some j)
        → Quiet j s (marked s b o k) s.ghost.own
    mark-quiet j theirs hands =
        record {
          laps = λ a c e. e;
          held = λ a e. e;
          walk = λ a e. refl;
          words = wrote;
          tokens = λ a r v. token-writes_state s.pool b o word a r slot v;
          claim = λ a c r e v n m d u z. (d, unread a c r e v m u, destroyed a c r e v m u z);
        }
      where
        lap-of : (a c : ℕ) → lap_of (own s a) ≡ some c → a ≡ b → l ≡ c
        lap-of a c e p = some_inj l c (sym serves ∙ rw p at e)

        unread : (a c r : ℕ) → lap_of (own s a) ≡ some c → r < 63 → s.ghost.claimer (63 * c + r) ≡ j → R s a r ≡ false → has Read (state new a r) ≡ false
        unread a c r e v m u =
            ⊎_elim
            (λ x.
            ⊎_elim
            (λ y. clash (R s a r) y u)
            (λ y. absurd (theirs y.0 (rw (lap-of a c e y.1, ← y.2) m)))
            (seen Read a r v x))
            (λ x. x)
            (true-or-false (has Read (state new a r)))

        destroyed : (a c r : ℕ) → lap_of (own s a) ≡ some c → r < 63 → s.ghost.claimer (63 * c + r) ≡ j → R s a r ≡ false
            → (D s a r ≡ true → resp (own s a) ≡ some j) → has Destroy (state new a r) ≡ true → resp (own s a) ≡ some j
        destroyed a c r e v m u z x =
            ⊎_elim
            z
            (λ y. rw y.1 (hands y.0 (rw (lap-of a c e y.1, ← y.2) m) (rw (← y.1, ← y.2) u)))
            (seen Destroy a r v x)

-- ---- S11

module _ (s : State) (i : ℕ) (won : Won) (c : Claim) (slot : ℕ) (h : Shared s)
    (k : S11Ok s i won c.head.raw c.block c.advance slot) where
  abbrev x : ℕ
  x = c.head.raw

  abbrev b : ℕ
  b = c.block

  abbrev read : State
  read = changed s (marked s b slot Read) s.ghost.own

  inside : slot < 63
  inside = omega (arith, k.short, k.to)

  claimed : 63 * lp x + slot < nc s
  claimed = omega (arith, k.claims.below, k.to)

  -- the slot is i's own
  mine : s.ghost.claimer (63 * lp x + slot) ≡ i
  mine = k.claims.claimer (63 * lp x + slot) (omega (arith, k.from)) (omega (arith, k.to))

  read-shared : Shared read
  read-shared =
      mark-shared s h b (lp x) slot Read k.claims.serves inside (λ e. differ (cc))
      (λ e. (k.wrote slot k.from k.to, claimed))
      (λ e. differ (cc))

  read-quiet : (j : ℕ) → (j ≡ i → ⊥) → Quiet j s (marked s b slot Read) s.ghost.own
  read-quiet j n =
      mark-quiet s h b (lp x) slot Read k.claims.serves inside (λ e. differ (cc)) j
      (λ e m. n (sym m ∙ mine))
      (λ e. differ (cc))

  read-wrote : (r : ℕ) → off x ≤ r → r < off x + c.advance → W read b r ≡ true
  read-wrote r u v =
      wrote s h b (lp x) slot Read k.claims.serves inside (λ e. differ (cc)) b r (omega (arith, k.short)) ∙ k.wrote r u v

  -- while there are more slots to mark, the top one keeps its state
  top_kept : (slot + 1 ≡ past c → ⊥) → state read.pool b (off x + c.advance - 1) ≡ state s.pool b (off x + c.advance - 1)
  top_kept n =
      elsewhere s h b (lp x) slot Read k.claims.serves inside b (off x + c.advance - 1) (omega (arith, k.short))
      (λ p q. n (omega (arith, k.to)))

  next-claims : (slot + 1 ≡ past c → ⊥) → Claims read i x b c.advance
  next-claims n =
      record {
        some-slot = k.claims.some-slot;
        within = k.claims.within;
        below = k.claims.below;
        claimer = k.claims.claimer;
        first = k.claims.first;
        serves = k.claims.serves;
        front = k.claims.front;
        unread = ap (has Read) (top_kept n) ∙ k.claims.unread;
        mine = λ d. k.claims.mine (sym (ap (has Destroy) (top_kept n)) ∙ d);
      }

  next_line : (slot + 1 ≡ past c → ⊥) → S11Ok read i won x b c.advance (slot + 1)
  next_line n =
      record {
        claims = next-claims n;
        short = k.short;
        from = omega (arith, k.from);
        to = omega (arith, k.to, n);
        wrote = read-wrote;
        answer = won-kept s (marked s b slot Read) s.ghost.own i won k.answer;
      }

  -- DESTROY seen: the slot is the claim's top one, and the frontier's last
  module _ (seen-destroy : D s b slot ≡ true) where
    at_front : front (own s b) ≤ slot + 1
    at_front = h.destroy_front b (lp x) slot k.claims.serves inside seen-destroy

    pub walker : resp (own s b) ≡ some i
    walker =
        let e : off x + c.advance - 1 ≡ slot = omega (arith, at_front, k.claims.front, k.to) in
        k.claims.mine (rw e seen-destroy)

    done-shared : Shared (changed read read.pool (backed read b (lp x) (off x) i))
    done-shared =
        finish_shared read read-shared i x b c.advance k.claims.serves walker k.claims.front k.claims.claimer read-wrote
        (λ r v d. omega (arith, at_front, k.to))

    done-quiet : (j : ℕ) → (j ≡ i → ⊥) → Quiet j s read.pool (backed read b (lp x) (off x) i)
    done-quiet j n =
        quiet_trans j s read.pool read.pool s.ghost.own (backed read b (lp x) (off x) i) (read-quiet j n)
        (finish_quiet read read-shared i x b c.advance k.claims.serves walker k.claims.front k.claims.claimer read-wrote
        (λ r v d. omega (arith, at_front, k.to)) j n)

  module _ (count : ℕ) (taken : List ℕ) where
    s11-destroyed : D s b slot ≡ true → Kept s i count taken (to s.queue (walk_below won b (first c)) (marks s b slot Read))
    s11-destroyed d =
        changes s i count taken (Steal (walk_below won b (first c))) Open (marks s b slot Read) (backed s b (lp x) (off x) i)
        (done-shared d)
        (done-quiet d)
        (walks_on s read.pool i count taken won b (lp x) (off x) (omega (arith, k.short)) k.answer)

    s11-marked : Kept s i count taken (s11_marked s.queue won c slot (marks s b slot Read))
    s11-marked =
        cond_elim (λ (m : Move). Kept s i count taken m) (eqb (slot + 1) (past c)) _ _
        (λ e. changes s i count taken Idle (answer_of won) (marks s b slot Read) s.ghost.own read-shared read-quiet tt)
        (λ e.
        changes s i count taken (Steal (S11 won c (slot + 1))) Open (marks s b slot Read) s.ghost.own read-shared read-quiet
        (next_line (eqb-false (slot + 1) (past c) e)))

pub s11-kept : (s : State) (i count : ℕ) (taken : List ℕ) (won : Won) (c : Claim) (slot : ℕ) → Shared s → StealOk s i count taken (S11 won c slot)
    → Kept s i count taken (s11 s.queue s.pool won c slot)
unfolding s11
s11-kept s i count taken won c slot h k =
    cond_elim (λ (m : Move). Kept s i count taken m) (D s c.block slot) _ _
    (s11-destroyed s i won c slot h k count taken)
    (λ e. s11-marked s i won c slot h k count taken)

-- the ghost that is chosen: where DESTROY was seen, the frontier is the first claimed slot
module _ (s : State) (i count : ℕ) (taken : List ℕ) (won : Won) (c : Claim) (slot : ℕ) (h : Shared s)
    (ok : StealOk s i count taken (S11 won c slot)) where
  marked-ghost : (s11-marked s i won c slot h ok count taken).ghost ≡ s.ghost
  unfolding s11-marked changes
  marked-ghost =
      cond_same (λ (m : Move). Kept s i count taken m) (λ m k. k.ghost) (eqb (slot + 1) (past c)) _ _ _ _ s.ghost (λ e. refl) (λ e. refl)

  pub s11-ghost : (s11-kept s i count taken won c slot h ok).ghost
      ≡ cond (D s c.block slot) (with_own s.ghost (backed s c.block (lp c.head.raw) (first c) i)) s.ghost
  unfolding s11 s11-kept s11-destroyed changes
  s11-ghost =
      cond-read (λ (m : Move). Kept s i count taken m) (λ m k. k.ghost) (D s c.block slot) _ _ _ _ _ _ (λ e. refl) (λ e. marked-ghost)
