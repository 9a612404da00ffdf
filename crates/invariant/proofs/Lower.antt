-- The reclaim protocol: steps that change no shared word but the marks of slots, and of the ghost the owners alone.
use Prim.Native.Nat.{ℕ, ◌+◌, ◌*◌, ◌-◌, ◌≤◌, ◌<◌}
use mathlib.Core.Path.{◌≡◌, refl, sym, ap, ◌∙◌}
use mathlib.Core.Bool.{true, false}
use mathlib.Core.List.{List}
use native.Mathlib.Omega.{arith}
use native.Mathlib.Nat.{le_refl}
use native.Mathlib.Decide.{dec_le}
use borrow.Author.Tests.{eqb-true, eqb-false}
use lib.Dec.{eqb}
use Rattle.memory.specs.Touch.{Touch, after}
use Rattle.state.specs.declared.Call.{Call}
use Rattle.state.specs.declared.StealLine.{StealLine}
use Rattle.state.specs.declared.StealLine.TheVariants.{S12, S14}
use Rattle.state.specs.declared.Won.{Won}
use Rattle.state.specs.declared.Won.TheVariants.{Task, Moved}
use Rattle.machine.specs.Steal.{walk_below}
use Rattle.state.specs.declared.Answer.{Answer}
use Rattle.invariant.specs.Ghost.{Ghost, Maybe, some, Own, Free, Held, Open, Back, lap_of, front, resp}
use Rattle.invariant.specs.State.{State, lp, off, tk, H, nc, W, R, D, tok, own}
use Rattle.invariant.specs.Shared.{Shared}
use Rattle.invariant.specs.Lines.{CallOk, StealOk, WonOk, WalkOk, Wrote}
use Rattle.invariant.specs.Rely.{Rely}
use Rattle.invariant.specs.Kept.{Kept}
use Rattle.invariant.proofs.Facts.{cond_elim, put, put_same, some_inj, none-some}

-- the state with other lent words and other owners
abbrev pub with_own : Ghost → (ℕ → Own) → Ghost
with_own g o =
    record { pushed = g.pushed; pusher = g.pusher; claimer = g.claimer; chain = g.chain; own = o; first = g.first }

abbrev pub changed : State → List ℕ → (ℕ → Own) → State
changed s m o = record { queue = s.queue; pool = m; ghost = with_own s.ghost o }

-- what such a change leaves true for thread j
pub record Quiet (j : ℕ) (s : State) (m : List ℕ) (o : ℕ → Own) : Type 0 where
  pub laps : (b l : ℕ) → lap_of (own s b) ≡ some l → lap_of (o b) ≡ some l
  pub held : (b : ℕ) → own s b ≡ Held j → o b ≡ Held j
  pub walk : (b : ℕ) → resp (own s b) ≡ some j → o b ≡ own s b
  pub words : (b r : ℕ) → r < 63 → W (changed s m o) b r ≡ W s b r
  pub tokens : (b r : ℕ) → r < 63 → tok (changed s m o) b r ≡ tok s b r
  pub claim : (b l r : ℕ) → lap_of (own s b) ≡ some l → r < 63 → 63 * l + r < nc s → s.ghost.claimer (63 * l + r) ≡ j
      → r + 1 ≤ front (own s b) → R s b r ≡ false → (D s b r ≡ true → resp (own s b) ≡ some j)
      → (r + 1 ≤ front (o b)) × (R (changed s m o) b r ≡ false) × (D (changed s m o) b r ≡ true → resp (o b) ≡ some j)

-- one such change after another
pub quiet_trans : (j : ℕ) (s : State) (m n : List ℕ) (o p : ℕ → Own) → Quiet j s m o → Quiet j (changed s m o) n p → Quiet j s n p
quiet_trans j s m n o p q r =
    record {
      laps = λ b l e. r.laps b l (q.laps b l e);
      held = λ b e. r.held b (q.held b e);
      walk = λ b e. let f = q.walk b e in r.walk b (ap resp f ∙ e) ∙ f;
      words = λ b x g. r.words b x g ∙ q.words b x g;
      tokens = λ b x g. r.tokens b x g ∙ q.tokens b x g;
      claim = λ b l x e g k c f u d.
          let z = q.claim b l x e g k c f u d in
          r.claim b l x (q.laps b l e) g k c z.0 z.1 z.2;
    }

-- it is all that j leans on, since indices, their blocks and the logs stay
pub quiet_rely : (j : ℕ) (s : State) (m : List ℕ) (o : ℕ → Own) → Quiet j s m o → Rely j s (changed s m o)
quiet_rely j s m o q =
    record {
      blocks = refl;
      ceiling = refl;
      tail = le_refl _;
      head = le_refl _;
      tail-block = λ e h. refl;
      head-block = λ e h. refl;
      installing = λ e h. (refl, refl);
      leaving = λ e h. (refl, refl);
      pushed = λ k h. refl;
      pusher = λ k h. refl;
      claimer = λ k h. refl;
      chain = λ l h. refl;
      first = refl;
      held = q.held;
      walk = q.walk;
      owed-serves = λ b l r e g k c u. q.laps b l e;
      owed-unwritten = λ b l r e g k c u. q.words b r g ∙ u;
      owed-token = λ b l r e g k c u. q.tokens b r g;
      claim = λ b l r e g k c f u d. let z = q.claim b l r e g k c f u d in (q.laps b l e, z.0, z.1, z.2);
      wrote = λ b l r e g u. q.words b r g ∙ u;
    }

-- a line that makes such a change keeps the invariant
unfoldable pub changes : (s : State) (i count : ℕ) (taken : List ℕ) (call : Call) (answer : Answer) (touch : Touch) (o : ℕ → Own)
    → Shared (changed s (after s.pool touch) o)
    → ((j : ℕ) → (j ≡ i → ⊥) → Quiet j s (after s.pool touch) o)
    → CallOk (changed s (after s.pool touch) o) i count taken call
    → Kept s i count taken (record { made = record { queue = s.queue; call = call; answer = answer }; touch = touch })
changes s i count taken call answer touch o h q c =
    record {
      ghost = with_own s.ghost o;
      shared = h;
      call = c;
      others = λ j n. quiet_rely j s (after s.pool touch) o (q j n);
    }

-- two constructors are never equal
pub differ : {A : Type 0} → ◌≡◌ {A = ℕ} 0 1 → A
differ z = absurd (omega arith)

-- two threads do not both carry a walk on
pub some-some : {A : Type 0} (o : Maybe) (i j : ℕ) → o ≡ some i → o ≡ some j → (j ≡ i → ⊥) → A
some-some o i j p q n = absurd (n (cc))

-- what holds of the new owner, and of each other block's, holds of every block's
pub put_elim : {A : Type 0} (P : A → Type 0) (f : ℕ → A) (k : ℕ) (a : A) (j : ℕ) → (j ≡ k → P a) → ((j ≡ k → ⊥) → P (f j)) → P (put f k a j)
put_elim P f k a j p q = cond_elim P (eqb j k) a (f j) (λ e. p (eqb-true j k e)) (λ e. q (eqb-false j k e))

-- a block is on its way back from lap l, with frontier g, and t carries the walk on
abbrev pub backed : State → ℕ → ℕ → ℕ → ℕ → ℕ → Own
backed s b l g t = put s.ghost.own b (Back l g t)

-- LOWER: of a block on its way back the frontier sinks to g. The same lemma with g the old frontier is HAND's: another
-- thread t carries the walk on.
module _ (s : State) (h : Shared s) (b l f i : ℕ) (was : own s b ≡ Back l f i) (g t : ℕ) (less : g ≤ f) where
  abbrev lowered : ℕ → Own
  lowered = backed s b l g t

  lap-was : lap_of (own s b) ≡ some l
  lap-was = ap lap_of was

  -- of each block: its owner after the change, by its owner before
  lap-kept : (a k : ℕ) → lap_of (own s a) ≡ some k → lap_of (lowered a) ≡ some k
  lap-kept a k e = put_elim (λ x. lap_of x ≡ some k) s.ghost.own b (Back l g t) a (λ q. sym lap-was ∙ rw q at e) (λ q. e)

  pub lap_old : (a k : ℕ) → lap_of (lowered a) ≡ some k → lap_of (own s a) ≡ some k
  lap_old a k =
      put_elim (λ x. lap_of x ≡ some k → lap_of (own s a) ≡ some k) s.ghost.own b (Back l g t) a (λ q e. rw q (lap-was ∙ e)) (λ q e. e)

  pub front_old : (a : ℕ) → front (lowered a) ≤ front (own s a)
  front_old a =
      put_elim (λ x. front x ≤ front (own s a)) s.ghost.own b (Back l g t) a
      (λ q. rw (q, was) less)
      (λ q. le_refl _)

  free_old : (a : ℕ) → lowered a ≡ Free → own s a ≡ Free
  free_old a = put_elim (λ x. x ≡ Free → own s a ≡ Free) s.ghost.own b (Back l g t) a (λ q e. differ (cc)) (λ q e. e)

  free-kept : (a : ℕ) → own s a ≡ Free → lowered a ≡ Free
  free-kept a e = put_elim (λ x. x ≡ Free) s.ghost.own b (Back l g t) a (λ q. differ (cc)) (λ q. e)

  open_old : (a k : ℕ) → lowered a ≡ Open k → own s a ≡ Open k
  open_old a k = put_elim (λ x. x ≡ Open k → own s a ≡ Open k) s.ghost.own b (Back l g t) a (λ q e. differ (cc)) (λ q e. e)

  open_kept : (a k : ℕ) → own s a ≡ Open k → lowered a ≡ Open k
  open_kept a k e = put_elim (λ x. x ≡ Open k) s.ghost.own b (Back l g t) a (λ q. differ (cc)) (λ q. e)

  pub held_old : (a k : ℕ) → lowered a ≡ Held k → own s a ≡ Held k
  held_old a k = put_elim (λ x. x ≡ Held k → own s a ≡ Held k) s.ghost.own b (Back l g t) a (λ q e. differ (cc)) (λ q e. e)

  held_kept : (a k : ℕ) → own s a ≡ Held k → lowered a ≡ Held k
  held_kept a k e = put_elim (λ x. x ≡ Held k) s.ghost.own b (Back l g t) a (λ q. differ (cc)) (λ q. e)

  back_to : (a k y j : ℕ) → lowered a ≡ Back k y j → k < lp (H s)
  back_to a k y j =
      put_elim (λ x. x ≡ Back k y j → k < lp (H s)) s.ghost.own b (Back l g t) a
      (λ q e. let z : l ≡ k = cc in rw z at (h.back_to b l f i was))
      (λ q e. h.back_to a k y j e)

  back_at : (a k y j : ℕ) → lowered a ≡ Back k y j → s.ghost.chain k ≡ a
  back_at a k y j =
      put_elim (λ x. x ≡ Back k y j → s.ghost.chain k ≡ a) s.ghost.own b (Back l g t) a
      (λ q e. let z : l ≡ k = cc in rw (← z) (h.back_at b l f i was ∙ sym q))
      (λ q e. h.back_at a k y j e)

  -- the slots from the new frontier on are written
  front-wrote : ((r : ℕ) → r < 63 → g ≤ r → r < f → W s b r ≡ true)
      → (a k r : ℕ) → lap_of (own s a) ≡ some k → r < 63 → front (lowered a) ≤ r → W s a r ≡ true
  front-wrote w a k r e v =
      put_elim (λ x. front x ≤ r → W s a r ≡ true) s.ghost.own b (Back l g t) a
      (λ q d. rw q (by_front d (dec_le f r)))
      (λ q d. h.front-written a k r e v d)
    where
      by_front : g ≤ r → Dec (f ≤ r) → W s b r ≡ true
      by_front d (yes c) = h.front-written b l r lap-was v (rw was c)
      by_front d (no c) = w r v d (omega arith)

  pub lower-shared : ((r : ℕ) → r < 63 → g ≤ r → r < f → W s b r ≡ true) → Shared (changed s s.pool (backed s b l g t))
  lower-shared w =
      record {
        sized = h.sized;
        even = h.even;
        ceiling = h.ceiling;
        order = h.order;
        flag = h.flag;
        freed = λ a n e. h.freed a n (free_old a e);
        taken = λ a n e. free-kept a (h.taken a n e);
        number = λ a n. h.number a (λ e. n (free-kept a e));
        open_from = λ a k e. h.open_from a k (open_old a k e);
        open_to = λ a k e. h.open_to a k (open_old a k e);
        open_at = λ a k e. h.open_at a k (open_old a k e);
        back_to = back_to;
        back_at = back_at;
        live = λ k x y. open_kept (s.ghost.chain k) k (h.live k x y);
        tail-number = h.tail-number;
        tail_at = h.tail_at;
        head-number = h.head-number;
        head_at = h.head_at;
        next-number = h.next-number;
        held_next = λ a k e. h.held_next a k (held_old a k e);
        held-clean = λ a k r e. h.held-clean a k r (held_old a k e);
        next-lap = λ a k x e. h.next-lap a k x (lap_old a k e);
        next-at = λ a k x e. h.next-at a k x (lap_old a k e);
        written = λ a k r e. h.written a k r (lap_old a k e);
        token = λ a k r e. h.token a k r (lap_old a k e);
        read-written = λ a k r e. h.read-written a k r (lap_old a k e);
        read-claimed = λ a k r e. h.read-claimed a k r (lap_old a k e);
        destroy_front = λ a k r e v d. omega (arith, front_old a, h.destroy_front a k r (lap_old a k e) v d);
        destroy_below = λ a k r e. h.destroy_below a k r (lap_old a k e);
        front-written = λ a k r e. front-wrote w a k r (lap_old a k e);
      }

  -- of the others, whoever has a claim in the block has it below the new frontier
  pub lower-quiet : (j : ℕ) → (j ≡ i → ⊥)
      → ((r : ℕ) → r < 63 → 63 * l + r < nc s → s.ghost.claimer (63 * l + r) ≡ j → r + 1 ≤ f → R s b r ≡ false → r + 1 ≤ g)
      → Quiet j s s.pool (backed s b l g t)
  lower-quiet j n w =
      record {
        laps = lap-kept;
        held = λ a e. held_kept a j e;
        walk = λ a e.
            put_elim (λ x. x ≡ own s a) s.ghost.own b (Back l g t) a
            (λ q. some-some (resp (own s a)) i j (rw (q, was)) e n)
            (λ q. refl);
        words = λ a r v. refl;
        tokens = λ a r v. refl;
        claim = λ a k r e v c m d u z.
            put_elim (λ x. (r + 1 ≤ front x) × (R s a r ≡ false) × (D s a r ≡ true → resp x ≡ some j)) s.ghost.own b (Back l g t) a
            (λ q.
            let y : l ≡ k = some_inj l k (sym lap-was ∙ rw q at e) in
            (w r v (rw y c) (rw y m) (rw (q, was) at d) (rw (← q) u), u, λ x. some-some (resp (own s a)) i j (rw (q, was)) (z x) n))
            (λ q. (d, u, z));
      }

-- a serving block whose walk i carries on is on its way back
pub back_of : (o : Own) (l i : ℕ) → lap_of o ≡ some l → resp o ≡ some i → o ≡ Back l (front o) i
back_of Free l i e f = none-some l e
back_of (Held k) l i e f = none-some l e
back_of (Open k) l i e f = none-some i f
back_of (Back k g j) l i e f = cc

pub won-kept : (s : State) (m : List ℕ) (o : ℕ → Own) (i : ℕ) (won : Won) → WonOk s i won → WonOk (changed s m o) i won
won-kept s m o i (Task v) k = k
won-kept s m o i Moved k = k

pub walks_below : (s : State) (i count : ℕ) (taken : List ℕ) (won : Won) (b w : ℕ) → WalkOk s i won b w → StealOk s i count taken (walk_below won b w)
walks_below s i count taken won b w k =
    cond_elim (λ (line : StealLine). StealOk s i count taken line) (eqb w 0) (S14 won b) (S12 won b (w - 1))
    (λ e. rw (eqb-true w 0 e) at k)
    (λ e.
    let p : w - 1 + 1 ≡ w = omega (arith, eqb-false w 0 e) in
    rw p k)

-- at the new frontier the walk goes on
pub walks_on : (s : State) (m : List ℕ) (i count : ℕ) (taken : List ℕ) (won : Won) (b l g : ℕ) → g < 63 → WonOk s i won
    → StealOk (changed s m (backed s b l g i)) i count taken (walk_below won b g)
walks_on s m i count taken won b l g v k =
    walks_below (changed s m (backed s b l g i)) i count taken won b g
    (record { lap = l; own = put_same s.ghost.own b (Back l g i); below = v; answer = won-kept s m (backed s b l g i) i won k })

-- LOWER for a thief that has read all of its claim and whose claim is the topmost in a block whose walk it carries on:
-- its slots are written, and nobody else has claimed them
module _ (s : State) (h : Shared s) (i x b a : ℕ) (serves : lap_of (own s b) ≡ some (lp x)) (mine : resp (own s b) ≡ some i)
    (fits : off x + a ≤ front (own s b)) (claimer : (k : ℕ) → tk x ≤ k → k < tk x + a → s.ghost.claimer k ≡ i)
    (wrote : Wrote s b (off x) (off x + a)) (top : (r : ℕ) → r < 63 → r < front (own s b) → r < off x + a) where
  pub finish_shared : Shared (changed s s.pool (backed s b (lp x) (off x) i))
  finish_shared =
      lower-shared s h b (lp x) (front (own s b)) i (back_of (own s b) (lp x) i serves mine) (off x) i (omega arith)
      (λ r v c d. wrote r c (top r v d))

  pub finish_quiet : (j : ℕ) → (j ≡ i → ⊥) → Quiet j s s.pool (backed s b (lp x) (off x) i)
  finish_quiet j n =
      lower-quiet s h b (lp x) (front (own s b)) i (back_of (own s b) (lp x) i serves mine) (off x) i (omega arith) j n
      (λ r v c m d u.
      let under : r < off x + a = top r v (omega arith) in
      let z : off x ≤ r → ⊥ = λ y. n (sym m ∙ claimer (63 * lp x + r) (omega arith) (omega arith)) in
      omega arith)
