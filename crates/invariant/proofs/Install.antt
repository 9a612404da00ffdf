-- P5 and P6: the push that ended a lap installs the block that it holds, first as the tail's block, then by the tail's index.
use Rattle.std.specs.Prelude.{None, Some}
use Prim.Native.Nat.{ℕ, ◌+◌, ◌*◌, ◌-◌, ◌≤◌, ◌<◌}
use mathlib.Core.Path.{◌≡◌, refl, sym, ap, ◌∙◌}
use mathlib.Core.Bool.{true}
use mathlib.Core.List.{List}
use native.Mathlib.Omega.{arith}
use native.Mathlib.Nat.{le_refl}
use lib.Dec.{eqb}
use borrow.Author.Tests.{eqb-true, eqb-false}
use Rattle.index.specs.Claim.{advanced}
use Rattle.index.specs.declared.Index.{Index}
use Rattle.memory.specs.Layout.{state, has}
use Rattle.memory.specs.Laws.{has-none}
use Rattle.memory.specs.declared.Mark.{Mark}
use Rattle.memory.specs.declared.Mark.TheVariants.{Write, Read, Destroy}
use Rattle.state.specs.Move.{with_tail, with_tail_block}
use Rattle.state.specs.declared.PushLine.TheVariants.{P5, P6}
use Rattle.machine.specs.Push.{p5, p6}
use Rattle.invariant.specs.Ghost.{Ghost, Own, Free, Held, Open, Back, some, lap_of, front, resp}
use Rattle.invariant.specs.State.{State, lp, off, tk, T, H, TB, N, np, nc, W, tok, nxt, free, own}
use Rattle.invariant.specs.Shared.{Shared}
use Rattle.invariant.specs.Lines.{Owes, Installs, P6Ok, P7Ok, PushOk}
use Rattle.invariant.specs.Rely.{Rely}
use Rattle.invariant.specs.Kept.{Kept}
use Rattle.invariant.proofs.Facts.{cond_elim, clash, put, put_same, put_other, held_number, none-some}

-- while a push installs, the last ticket is its own: the tail waits for no other thread
module _ (s : State) (i v t b x : ℕ) (ok : Installs s i v t b x) where
  stopped : off (T s) ≡ 63
  stopped = omega (arith, ok.tail, ok.last)

  last-ticket : np s - 1 ≡ tk t
  last-ticket = omega (arith, ok.tail, ok.last)

  mine : (j : ℕ) → s.ghost.pusher (np s - 1) ≡ j → j ≡ i
  mine j q = sym q ∙ ap s.ghost.pusher last-ticket ∙ ok.owes.pusher

-- P5

abbrev pub blocked-on : State → ℕ → State
blocked-on s x = record { queue = with_tail_block s.queue x; pool = s.pool; ghost = s.ghost }

module _ (s : State) (i v t b x : ℕ) (h : Shared s) (ok : Installs s i v t b x) where
  pub p5-shared : Shared (blocked-on s x)
  p5-shared =
      record {
        sized = h.sized;
        even = h.even;
        ceiling = h.ceiling;
        order = h.order;
        flag = h.flag;
        freed = h.freed;
        taken = h.taken;
        number = h.number;
        open_from = h.open_from;
        open_to = h.open_to;
        open_at = h.open_at;
        back_to = h.back_to;
        back_at = h.back_at;
        live = h.live;
        tail-number = held_number s h x i ok.holds;
        tail_at = λ q. absurd (omega (arith, stopped s i v t b x ok));
        head-number = h.head-number;
        head_at = h.head_at;
        next-number = h.next-number;
        held_next = h.held_next;
        held-clean = h.held-clean;
        next-lap = h.next-lap;
        next-at = h.next-at;
        written = h.written;
        token = h.token;
        read-written = h.read-written;
        read-claimed = h.read-claimed;
        destroy_front = h.destroy_front;
        destroy_below = h.destroy_below;
        front-written = h.front-written;
      }

  pub p5_rely : (j : ℕ) → (j ≡ i → ⊥) → Rely j s (blocked-on s x)
  p5_rely j n =
      record {
        blocks = refl;
        ceiling = refl;
        tail = le_refl _;
        head = le_refl _;
        tail-block = λ q r. absurd (omega (arith, stopped s i v t b x ok));
        head-block = λ q r. refl;
        installing = λ q r. absurd (n (mine s i v t b x ok j r));
        leaving = λ q r. (refl, refl);
        pushed = λ k q. refl;
        pusher = λ k q. refl;
        claimer = λ k q. refl;
        chain = λ l q. refl;
        first = refl;
        held = λ a q. q;
        walk = λ a q. refl;
        owed-serves = λ a l o h1 h2 h3 h4 h5. h1;
        owed-unwritten = λ a l o h1 h2 h3 h4 h5. h5;
        owed-token = λ a l o h1 h2 h3 h4 h5. refl;
        claim = λ a l o h1 h2 h3 h4 h5 h6 h7. (h1, h5, h6, h7);
        wrote = λ a l o h1 h2 h3. h3;
      }

  p5-owes : Owes s i v t b → Owes (blocked-on s x) i v t b
  p5-owes o =
      record {
        slot = o.slot;
        below = o.below;
        pusher = o.pusher;
        pushed = o.pushed;
        serves = o.serves;
        unwritten = o.unwritten;
      }

  p5-next : P6Ok (blocked-on s x) i v t b x
  p5-next =
      record {
        installs = record { owes = p5-owes ok.owes; last = ok.last; holds = ok.holds; tail = ok.tail; lap = ok.lap };
        block = refl;
      }

pub p5-kept : (s : State) (i count : ℕ) (taken : List ℕ) (v : ℕ) (t : Index) (b x : ℕ)
    → Shared s → PushOk s i (P5 v t b x) → Kept s i count taken (p5 s.queue v t b x)
p5-kept s i count taken v t b x h ok =
    record {
      ghost = s.ghost;
      shared = p5-shared s i v t.raw b x h ok;
      call = p5-next s i v t.raw b x h ok;
      others = p5_rely s i v t.raw b x h ok;
    }

-- P6

-- two owners that are not the same
free_open : {A : Type 0} (l : ℕ) → Open l ≡ Free → A
free_open l e = cc

held_open : {A : Type 0} (l i : ℕ) → Open l ≡ Held i → A
held_open l i e = cc

back_open : {A : Type 0} (l k f i : ℕ) → Open l ≡ Back k f i → A
back_open l k f i e = cc

held-free : {A : Type 0} (i : ℕ) → Held i ≡ Free → A
held-free i e = cc

open_inj : (a b : ℕ) → Open a ≡ Open b → a ≡ b
open_inj a b e = cc

held_inj : (a b : ℕ) → Held a ≡ Held b → a ≡ b
held_inj a b e = cc

-- what holds of the value put at k, and of all others where they are read, holds of the changed function
pub put_elim : {A : Type 0} (P : A → Type 0) (f : ℕ → A) (k : ℕ) (a : A) (j : ℕ)
    → (j ≡ k → P a) → ((j ≡ k → ⊥) → P (f j)) → P (put f k a j)
put_elim P f k a j p q = cond_elim P (eqb j k) a (f j) (λ e. p (eqb-true j k e)) (λ e. q (eqb-false j k e))

-- the held block x serves the next lap l
abbrev pub opened : Ghost → ℕ → ℕ → Ghost
opened g l x =
    record {
      pushed = g.pushed;
      pusher = g.pusher;
      claimer = g.claimer;
      chain = put g.chain l x;
      own = put g.own x (Open l);
      first = g.first;
    }

abbrev pub installed : State → ℕ → ℕ → State
installed s t x =
    record {
      queue = with_tail s.queue (record { raw = advanced t 2 });
      pool = s.pool;
      ghost = opened s.ghost (lp (T s) + 1) x;
    }

module _ (s : State) (i v t b x : ℕ) (h : Shared s) (ok : P6Ok s i v t b x) where
  next-lap-is : lp (advanced t 2) ≡ lp (T s) + 1
  next-lap-is = omega (arith, ok.installs.tail, ok.installs.last)

  -- no ticket is passed over
  same_tickets : tk (advanced t 2) ≡ np s
  same_tickets = omega (arith, ok.installs.tail, ok.installs.last)

  chain-before : (l : ℕ) → l ≤ lp (T s) → put s.ghost.chain (lp (T s) + 1) x l ≡ s.ghost.chain l
  chain-before l q = put_other s.ghost.chain (lp (T s) + 1) x l (λ e. omega arith)

  -- x was held, so nothing is known of another's block there
  was-held : (a : ℕ) → a ≡ x → own s a ≡ Held i
  was-held a e = ap (own s) e ∙ ok.installs.holds

  own-serving : (a l : ℕ) → lap_of (own s a) ≡ some l → put (own s) x (Open (lp (T s) + 1)) a ≡ own s a
  own-serving a l q = put_other (own s) x (Open (lp (T s) + 1)) a (λ e. none-some l (sym (ap lap_of (was-held a e)) ∙ q))

  -- .. and it is clean
  unmarked : {A : Type 0} (k : Mark) (a o : ℕ) → a ≡ x → o < 63 → has k (state s.pool a o) ≡ true → A
  unmarked k a o e q w = clash (has k (state s.pool a o)) w (ap (has k) (h.held-clean a i o (was-held a e) q) ∙ has-none k)

  unlinked : {A : Type 0} (a y : ℕ) → a ≡ x → nxt s a ≡ Some y → A
  unlinked a y e q =
      let f : None ≡ Some y = sym (h.held_next a i (was-held a e)) ∙ q in
      cc

  -- what is said by the owners, by the marks of serving blocks and by their links: of x, and of every other block
  owners : (P : Own → Type 0) (a : ℕ) → (a ≡ x → P (Open (lp (T s) + 1))) → P (own s a) → P (own (installed s t x) a)
  owners P a p q = put_elim P (own s) x (Open (lp (T s) + 1)) a p (λ n. q)

  marked : (k : Mark) (Q : Own → Type 0) (a l o : ℕ)
      → (lap_of (own s a) ≡ some l → o < 63 → has k (state s.pool a o) ≡ true → Q (own s a))
      → lap_of (own (installed s t x) a) ≡ some l → o < 63 → has k (state s.pool a o) ≡ true → Q (own (installed s t x) a)
  marked k Q a l o f =
      owners (λ w. lap_of w ≡ some l → o < 63 → has k (state s.pool a o) ≡ true → Q w) a (λ e p. unmarked k a o e) f

  linked : (A : Type 0) (a l y : ℕ)
      → (lap_of (own s a) ≡ some l → nxt s a ≡ Some y → A)
      → lap_of (own (installed s t x) a) ≡ some l → nxt s a ≡ Some y → A
  linked A a l y f = owners (λ w. lap_of w ≡ some l → nxt s a ≡ Some y → A) a (λ e p. unlinked a y e) f

  now-live : (l : ℕ) → lp (H s) ≤ l → l ≤ lp (T s) + 1 → own (installed s t x) (put s.ghost.chain (lp (T s) + 1) x l) ≡ Open l
  now-live l p q =
      put_elim (λ (a : ℕ). own (installed s t x) a ≡ Open l) s.ghost.chain (lp (T s) + 1) x l
      (λ e. put_same (own s) x (Open (lp (T s) + 1)) ∙ ap Open (sym e))
      (λ n. let f = h.live l p (omega arith) in own-serving (s.ghost.chain l) l (ap lap_of f) ∙ f)

  now_open : (a l : ℕ) → own (installed s t x) a ≡ Open l → put s.ghost.chain (lp (T s) + 1) x l ≡ a
  now_open a l =
      owners (λ o. o ≡ Open l → put s.ghost.chain (lp (T s) + 1) x l ≡ a) a
      (λ e f. rw (← open_inj _ l f) (put_same s.ghost.chain (lp (T s) + 1) x ∙ sym e))
      (λ f. chain-before l (h.open_to a l f) ∙ h.open_at a l f)

  now-tail : TB s ≡ put s.ghost.chain (lp (T s) + 1) x (lp (advanced t 2))
  now-tail = rw next-lap-is (ok.block ∙ sym (put_same s.ghost.chain (lp (T s) + 1) x))

  pub p6-shared : Shared (installed s t x)
  p6-shared =
      record {
        sized = h.sized;
        even = omega (arith, h.even, ok.installs.tail);
        ceiling = omega (arith, ok.installs.lap, ok.installs.last);
        order = omega (arith, h.order, ok.installs.tail);
        flag = λ f. omega (arith, h.flag f, next-lap-is);
        freed = λ a q. owners (λ w. w ≡ Free → free s a ≡ true) a (λ e. free_open _) (h.freed a q);
        taken = λ a q f. let g = h.taken a q f in owners (λ w. w ≡ Free) a (λ e. held-free i (sym (was-held a e) ∙ g)) g;
        number = λ a. owners (λ w. (w ≡ Free → ⊥) → a < N s) a (λ e n. held_number s h a i (was-held a e)) (h.number a);
        open_from = λ a l. owners (λ w. w ≡ Open l → lp (H s) ≤ l) a (λ e f. omega (arith, open_inj _ l f, h.order)) (h.open_from a l);
        open_to = λ a l.
            owners (λ w. w ≡ Open l → l ≤ lp (advanced t 2)) a
            (λ e f. omega (arith, open_inj _ l f, next-lap-is))
            (λ f. omega (arith, h.open_to a l f, next-lap-is));
        open_at = now_open;
        back_to = λ a l f j. owners (λ w. w ≡ Back l f j → l < lp (H s)) a (λ e. back_open _ l f j) (h.back_to a l f j);
        back_at = λ a l f j.
            owners (λ w. w ≡ Back l f j → put s.ghost.chain (lp (T s) + 1) x l ≡ a) a
            (λ e. back_open _ l f j)
            (λ g. chain-before l (omega (arith, h.back_to a l f j g, h.order)) ∙ h.back_at a l f j g);
        live = λ l p q. now-live l p (omega (arith, next-lap-is));
        tail-number = h.tail-number;
        tail_at = λ q. now-tail;
        head-number = h.head-number;
        head_at = λ q. h.head_at q ∙ sym (chain-before (lp (H s)) (omega (arith, h.order)));
        next-number = h.next-number;
        held_next = λ a j. owners (λ w. w ≡ Held j → nxt s a ≡ None) a (λ e. held_open _ j) (h.held_next a j);
        held-clean = λ a j o. owners (λ w. w ≡ Held j → o < 63 → state s.pool a o ≡ 0) a (λ e f. held_open _ j f) (h.held-clean a j o);
        next-lap = λ a l y. linked (l < lp (advanced t 2)) a l y (λ p q. omega (arith, h.next-lap a l y p q, next-lap-is));
        next-at = λ a l y.
            linked (put s.ghost.chain (lp (T s) + 1) x (l + 1) ≡ y) a l y
            (λ p q. chain-before (l + 1) (omega (arith, h.next-lap a l y p q)) ∙ h.next-at a l y p q);
        written = λ a l o.
            marked Write (λ w. 63 * l + o < tk (advanced t 2)) a l o (λ p q m. omega (arith, h.written a l o p q m, same_tickets));
        token = λ a l o. marked Write (λ w. tok s a o ≡ s.ghost.pushed (63 * l + o)) a l o (h.token a l o);
        read-written = λ a l o. marked Read (λ w. W s a o ≡ true) a l o (h.read-written a l o);
        read-claimed = λ a l o. marked Read (λ w. 63 * l + o < nc s) a l o (h.read-claimed a l o);
        destroy_front = λ a l o. marked Destroy (λ w. front w ≤ o + 1) a l o (h.destroy_front a l o);
        destroy_below = λ a l o. marked Destroy (λ w. o + 1 < 63) a l o (h.destroy_below a l o);
        front-written = λ a l o.
            owners (λ w. lap_of w ≡ some l → o < 63 → front w ≤ o → W s a o ≡ true) a
            (λ e p q r. absurd (omega arith))
            (h.front-written a l o);
      }

  pub p6_rely : (j : ℕ) → (j ≡ i → ⊥) → Rely j s (installed s t x)
  p6_rely j n =
      record {
        blocks = refl;
        ceiling = refl;
        tail = omega (arith, ok.installs.tail);
        head = le_refl _;
        tail-block = λ q r. refl;
        head-block = λ q r. refl;
        installing = λ q r. absurd (n (mine s i v t b x ok.installs j r));
        leaving = λ q r. (refl, refl);
        pushed = λ k q. refl;
        pusher = λ k q. refl;
        claimer = λ k q. refl;
        chain = chain-before;
        first = refl;
        held = λ a q. owners (λ w. w ≡ Held j) a (λ e. absurd (n (held_inj j i (sym q ∙ was-held a e)))) q;
        walk = λ a q. owners (λ w. w ≡ own s a) a (λ e. none-some j (sym (ap resp (was-held a e)) ∙ q)) refl;
        owed-serves = λ a l o h1 h2 h3 h4 h5. ap lap_of (own-serving a l h1) ∙ h1;
        owed-unwritten = λ a l o h1 h2 h3 h4 h5. h5;
        owed-token = λ a l o h1 h2 h3 h4 h5. refl;
        claim = λ a l o h1 h2 h3 h4 h5 h6 h7. rw (own-serving a l h1) (h1, h5, h6, h7);
        wrote = λ a l o h1 h2 h3. h3;
      }

  p6-owes : Owes s i v t b → Owes (installed s t x) i v t b
  p6-owes o =
      record {
        slot = o.slot;
        below = omega (arith, o.below, same_tickets);
        pusher = o.pusher;
        pushed = o.pushed;
        serves = ap lap_of (own-serving b (lp t) o.serves) ∙ o.serves;
        unwritten = o.unwritten;
      }

  now-next : put s.ghost.chain (lp (T s) + 1) x (lp t + 1) ≡ x
  now-next =
      let e : lp t + 1 ≡ lp (T s) + 1 = omega (arith, ok.installs.tail, ok.installs.last) in
      rw e (put_same s.ghost.chain (lp (T s) + 1) x)

  p6-next : P7Ok (installed s t x) i v t b x
  p6-next =
      record {
        owes = p6-owes ok.installs.owes;
        last = ok.installs.last;
        lap = omega (arith, ok.installs.last);
        chain = now-next;
        number = held_number s h x i ok.installs.holds;
      }

pub p6-kept : (s : State) (i count : ℕ) (taken : List ℕ) (v : ℕ) (t : Index) (b x : ℕ)
    → Shared s → PushOk s i (P6 v t b x) → Kept s i count taken (p6 s.queue v t b x)
p6-kept s i count taken v t b x h ok =
    record {
      ghost = opened s.ghost (lp (T s) + 1) x;
      shared = p6-shared s i v t.raw b x h ok;
      call = p6-next s i v t.raw b x h ok;
      others = p6_rely s i v t.raw b x h ok;
    }

-- the ghosts that are chosen
module _ (s : State) (i count : ℕ) (taken : List ℕ) (v : ℕ) (t : Index) (b x : ℕ) (h : Shared s) where
  pub p5-ghost : (ok : PushOk s i (P5 v t b x)) → (p5-kept s i count taken v t b x h ok).ghost ≡ s.ghost
  unfolding p5-kept
  p5-ghost ok = refl

  pub p6-ghost : (ok : PushOk s i (P6 v t b x)) → (p6-kept s i count taken v t b x h ok).ghost ≡ opened s.ghost (lp (T s) + 1) x
  unfolding p6-kept
  p6-ghost ok = refl
