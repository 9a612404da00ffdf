-- S7 and S8: the thief that ended a block moves the head to the next one, first the head's block, then the head's index.
use Rattle.std.specs.Prelude.{None}
use Prim.Native.Nat.{ℕ, ◌+◌, ◌-◌, ◌%◌, ◌≤◌, ◌<◌}
use mathlib.Core.Path.{◌≡◌, refl, sym, ap, ◌∙◌}
use mathlib.Core.Bool.{Bool, true, false}
use mathlib.Core.List.{List}
use native.Mathlib.Omega.{arith}
use native.Mathlib.Nat.{le_refl}
use lib.Dec.{eqb}
use borrow.Author.Tests.{eq-eqb}
use Rattle.index.specs.Position.{position}
use Rattle.index.specs.Claim.{advanced, left_lap}
use Rattle.index.specs.Laws.{left-position, left-next}
use Rattle.memory.specs.Layout.{state}
use Rattle.state.specs.Move.{with_head, with_head_block}
use Rattle.state.specs.declared.Kind.{Kind}
use Rattle.state.specs.declared.Claim.{Claim}
use Rattle.state.specs.declared.StealLine.TheVariants.{S7, S8}
use Rattle.machine.specs.Steal.{s7, s8}
use Rattle.invariant.specs.Ghost.{Ghost, Own, Free, Held, Open, Back, some, lap_of, front, resp}
use Rattle.invariant.specs.State.{State, lp, off, tk, T, H, N, nc, D, nxt, free, own}
use Rattle.invariant.specs.Shared.{Shared}
use Rattle.invariant.specs.Lines.{Claims, Leaves, S7Ok, S8Ok, S9Ok, StealOk}
use Rattle.invariant.specs.Rely.{Rely}
use Rattle.invariant.specs.Kept.{Kept}
use Rattle.invariant.proofs.Facts.{clash, put, put_same, none-some, serving, Serving, is_open, is-back, serving-number}
use Rattle.invariant.proofs.Install.{put_elim}

-- while a thief leaves a block, the head waits at its end, and the last ticket claimed is the thief's own
module _ (s : State) (i count h b a : ℕ) (k : Kind) (ok : Leaves s i k count h b a) where
  stopped : off (H s) ≡ 63
  stopped = omega (arith, ok.head, ok.ended)

  same-lap : lp (H s) ≡ lp h
  same-lap = omega (arith, ok.head, ok.ended)

  same_tickets : nc s ≡ tk h + a
  same_tickets = omega (arith, ok.head, ok.ended)

  mine : (j : ℕ) → s.ghost.claimer (nc s - 1) ≡ j → j ≡ i
  mine j q =
      sym q
      ∙ ok.claims.claimer (nc s - 1) (omega (arith, same_tickets, ok.claims.some-slot)) (omega (arith, same_tickets, ok.claims.some-slot))

  -- its block is open for the head's lap, since the head has not left that
  module _ (sh : Shared s) where
    owner : own s b ≡ Open (lp h)
    owner = go (own s b) refl (serving (own s b) (lp h) ok.claims.serves)
      where
        go : (o : Own) → own s b ≡ o → Serving (lp h) o → o ≡ Open (lp h)
        go o q is_open = refl
        go o q (is-back f j) = absurd (omega (arith, sh.back_to b (lp h) f j q, same-lap))

-- S7

abbrev pub headed_on : State → ℕ → State
headed_on s x = record { queue = with_head_block s.queue x; pool = s.pool; ghost = s.ghost }

module _ (s : State) (i count h b a x : ℕ) (k : Kind) (more : Bool) (sh : Shared s) (ok : S7Ok s i k count h b a x more) where
  waits : off (H s) ≡ 63
  waits = stopped s i count h b a k ok.at.leaves

  next-number-is : x < N s
  next-number-is =
      let l = same-lap s i count h b a k ok.at.leaves in
      let o : own s x ≡ Open (lp h + 1) = rw (← ok.at.chain) (sh.live (lp h + 1) (omega arith) (omega (arith, ok.at.lap))) in
      serving-number s sh x (lp h + 1) (ap lap_of o)

  pub s7-shared : Shared (headed_on s x)
  s7-shared =
      record {
        sized = sh.sized;
        even = sh.even;
        ceiling = sh.ceiling;
        order = sh.order;
        flag = sh.flag;
        freed = sh.freed;
        taken = sh.taken;
        number = sh.number;
        open_from = sh.open_from;
        open_to = sh.open_to;
        open_at = sh.open_at;
        back_to = sh.back_to;
        back_at = sh.back_at;
        live = sh.live;
        tail-number = sh.tail-number;
        tail_at = sh.tail_at;
        head-number = next-number-is;
        head_at = λ q. absurd (omega (arith, waits));
        next-number = sh.next-number;
        held_next = sh.held_next;
        held-clean = sh.held-clean;
        next-lap = sh.next-lap;
        next-at = sh.next-at;
        written = sh.written;
        token = sh.token;
        read-written = sh.read-written;
        read-claimed = sh.read-claimed;
        destroy_front = sh.destroy_front;
        destroy_below = sh.destroy_below;
        front-written = sh.front-written;
      }

  pub s7_rely : (j : ℕ) → (j ≡ i → ⊥) → Rely j s (headed_on s x)
  s7_rely j n =
      record {
        blocks = refl;
        ceiling = refl;
        tail = le_refl _;
        head = le_refl _;
        tail-block = λ q r. refl;
        head-block = λ q r. absurd (omega (arith, waits));
        installing = λ q r. (refl, refl);
        leaving = λ q r. absurd (n (mine s i count h b a k ok.at.leaves j r));
        pushed = λ q r. refl;
        pusher = λ q r. refl;
        claimer = λ q r. refl;
        chain = λ l q. refl;
        first = refl;
        held = λ c q. q;
        walk = λ c q. refl;
        owed-serves = λ c l o h1 h2 h3 h4 h5. h1;
        owed-unwritten = λ c l o h1 h2 h3 h4 h5. h5;
        owed-token = λ c l o h1 h2 h3 h4 h5. refl;
        claim = λ c l o h1 h2 h3 h4 h5 h6 h7. (h1, h5, h6, h7);
        wrote = λ c l o h1 h2 h3. h3;
      }

  s7-claims : Claims s i h b a → Claims (headed_on s x) i h b a
  s7-claims c =
      record {
        some-slot = c.some-slot;
        within = c.within;
        below = c.below;
        claimer = c.claimer;
        first = c.first;
        serves = c.serves;
        front = c.front;
        unread = c.unread;
        mine = c.mine;
      }

  s7-leaves : Leaves s i k count h b a → Leaves (headed_on s x) i k count h b a
  s7-leaves l = record { room = l.room; limit = l.limit; claims = s7-claims l.claims; ended = l.ended; head = l.head }

  s7-next : S8Ok (headed_on s x) i k count h b a more
  s7-next = record { leaves = s7-leaves ok.at.leaves; lap = ok.at.lap; block = ok.at.chain; more-laps = ok.more-laps }

pub s7-kept : (s : State) (i count : ℕ) (taken : List ℕ) (k : Kind) (c : Claim) (x : ℕ) (more : Bool)
    → Shared s → StealOk s i count taken (S7 k c x more) → Kept s i count taken (s7 s.queue k c x more)
s7-kept s i count taken k c x more h ok =
    record {
      ghost = s.ghost;
      shared = s7-shared s i count c.head.raw c.block c.advance x k more h ok;
      call = s7-next s i count c.head.raw c.block c.advance x k more h ok;
      others = s7_rely s i count c.head.raw c.block c.advance x k more h ok;
    }

-- S8

-- owners of two sorts are not the same
abbrev pub sort : Own → ℕ
sort Free = 0
sort (Held i) = 1
sort (Open l) = 2
sort (Back l f i) = 3

pub unlike : {A : Type 0} (v w : Own) → eqb (sort v) (sort w) ≡ false → v ≡ w → A
unlike v w n e = clash (eqb (sort v) (sort w)) (eq-eqb (sort v) (sort w) (ap sort e)) n

back-lap : (l f i m g j : ℕ) → Back l f i ≡ Back m g j → m ≡ l
back-lap l f i m g j e = cc

open_inj : (l m : ℕ) → Open l ≡ Open m → l ≡ m
open_inj l m e = cc

-- block b, which served lap l, is on its way back, and thread i has the walk
abbrev pub left_by : Ghost → ℕ → ℕ → ℕ → Ghost
left_by g i b l =
    record {
      pushed = g.pushed;
      pusher = g.pusher;
      claimer = g.claimer;
      chain = g.chain;
      own = put g.own b (Back l 63 i);
      first = g.first;
    }

abbrev pub left-head : ℕ → ℕ → Bool → ℕ
left-head h a more = left_lap (advanced h a) more

abbrev pub left-on : State → ℕ → ℕ → ℕ → ℕ → Bool → State
left-on s i h b a more =
    record { queue = with_head s.queue (record { raw = left-head h a more }); pool = s.pool; ghost = left_by s.ghost i b (lp h) }

module _ (s : State) (i count h b a : ℕ) (k : Kind) (more : Bool) (sh : Shared s) (ok : S8Ok s i k count h b a more) where
  -- the head is then at the next lap's first slot, and no ticket is passed over
  pub new-position : position (left-head h a more) ≡ position h + a + 1
  new-position = omega (arith, left-position (advanced h a) more)

  new-lap : lp (left-head h a more) ≡ lp h + 1
  new-lap = omega (arith, new-position, ok.leaves.ended)

  pub new_tickets : tk (left-head h a more) ≡ nc s
  new_tickets = omega (arith, new-position, ok.leaves.ended, ok.leaves.head)

  old_lap : lp (H s) ≡ lp h
  old_lap = same-lap s i count h b a k ok.leaves

  higher : H s < left-head h a more
  higher = omega (arith, new-position, ok.leaves.head)

  was_open : (c : ℕ) → c ≡ b → own s c ≡ Open (lp h)
  was_open c e = ap (own s) e ∙ owner s i count h b a k ok.leaves sh

  -- what is said by the owners: of b, and of every other block
  owners : (P : Own → Type 0) (c : ℕ) → (c ≡ b → P (Back (lp h) 63 i)) → ((c ≡ b → ⊥) → P (own s c)) → P (own (left-on s i h b a more) c)
  owners P c p q = put_elim P (own s) b (Back (lp h) 63 i) c p q

  -- every block serves the lap that it served, and its frontier stays
  pub same-serves : (c : ℕ) → lap_of (own (left-on s i h b a more) c) ≡ lap_of (own s c)
  same-serves c = owners (λ w. lap_of w ≡ lap_of (own s c)) c (λ e. sym (ap lap_of (was_open c e))) (λ n. refl)

  pub same-front : (c : ℕ) → front (own (left-on s i h b a more) c) ≡ front (own s c)
  same-front c = owners (λ w. front w ≡ front (own s c)) c (λ e. sym (ap front (was_open c e))) (λ n. refl)

  served : (c l : ℕ) → lap_of (own (left-on s i h b a more) c) ≡ some l → lap_of (own s c) ≡ some l
  served c l p = sym (same-serves c) ∙ p

  -- the lap that the head leaves has no open block but b
  later : (c l : ℕ) → (c ≡ b → ⊥) → own s c ≡ Open l → lp h + 1 ≤ l
  later c l n q =
      let m : (l ≡ lp h) → ⊥ = λ e. n (sym (sh.open_at c l q) ∙ ap s.ghost.chain e ∙ sh.open_at b (lp h) (was_open b refl)) in
      omega (arith, sh.open_from c l q, old_lap, m)

  new-flag : left-head h a more % 2 ≡ 1 → lp (left-head h a more) < lp (T s)
  new-flag f =
      let m = sym (left-next (advanced h a) more) ∙ eq-eqb (left-head h a more % 2) 1 f in
      omega (arith, ok.more-laps m, new-lap)

  still-live : (l : ℕ) → lp h + 1 ≤ l → l ≤ lp (T s) → own (left-on s i h b a more) (s.ghost.chain l) ≡ Open l
  still-live l p q =
      let o = sh.live l (omega (arith, old_lap)) q in
      owners (λ w. w ≡ Open l) (s.ghost.chain l)
      (λ e. let z : l ≡ lp h = open_inj l (lp h) (sym o ∙ was_open (s.ghost.chain l) e) in absurd (omega arith))
      (λ n. o)

  pub s8-shared : Shared (left-on s i h b a more)
  s8-shared =
      record {
        sized = sh.sized;
        even = sh.even;
        ceiling = sh.ceiling;
        order = omega (arith, new-position, ok.lap, ok.leaves.ended);
        flag = new-flag;
        freed = λ c q. owners (λ w. w ≡ Free → free s c ≡ true) c (λ e. unlike (Back _ _ _) Free refl) (λ n. sh.freed c q);
        taken = λ c q f.
            let g = sh.taken c q f in
            owners (λ w. w ≡ Free) c (λ e. unlike (Open (lp h)) Free refl (sym (was_open c e) ∙ g)) (λ n. g);
        number = λ c.
            owners (λ w. (w ≡ Free → ⊥) → c < N s) c
            (λ e n. sh.number c (λ f. unlike (Open (lp h)) Free refl (sym (was_open c e) ∙ f)))
            (λ n. sh.number c);
        open_from = λ c l.
            owners (λ w. w ≡ Open l → lp (left-head h a more) ≤ l) c
            (λ e. unlike (Back _ _ _) (Open l) refl)
            (λ n q. omega (arith, later c l n q, new-lap));
        open_to = λ c l. owners (λ w. w ≡ Open l → l ≤ lp (T s)) c (λ e. unlike (Back _ _ _) (Open l) refl) (λ n. sh.open_to c l);
        open_at = λ c l. owners (λ w. w ≡ Open l → s.ghost.chain l ≡ c) c (λ e. unlike (Back _ _ _) (Open l) refl) (λ n. sh.open_at c l);
        back_to = λ c l f j.
            owners (λ w. w ≡ Back l f j → l < lp (left-head h a more)) c
            (λ e q. omega (arith, back-lap _ _ _ l f j q, new-lap))
            (λ n q. omega (arith, sh.back_to c l f j q, old_lap, new-lap));
        back_at = λ c l f j.
            owners (λ w. w ≡ Back l f j → s.ghost.chain l ≡ c) c
            (λ e q. ap s.ghost.chain (back-lap _ _ _ l f j q) ∙ sh.open_at c (lp h) (was_open c e))
            (λ n. sh.back_at c l f j);
        live = λ l p q. still-live l (omega (arith, new-lap)) q;
        tail-number = sh.tail-number;
        tail_at = sh.tail_at;
        head-number = sh.head-number;
        head_at = λ q. sym ok.block ∙ ap s.ghost.chain (sym new-lap);
        next-number = sh.next-number;
        held_next = λ c j. owners (λ w. w ≡ Held j → nxt s c ≡ None) c (λ e. unlike (Back _ _ _) (Held j) refl) (λ n. sh.held_next c j);
        held-clean = λ c j o.
            owners (λ w. w ≡ Held j → o < 63 → state s.pool c o ≡ 0) c (λ e. unlike (Back _ _ _) (Held j) refl) (λ n. sh.held-clean c j o);
        next-lap = λ c l y p. sh.next-lap c l y (served c l p);
        next-at = λ c l y p. sh.next-at c l y (served c l p);
        written = λ c l o p. sh.written c l o (served c l p);
        token = λ c l o p. sh.token c l o (served c l p);
        read-written = λ c l o p. sh.read-written c l o (served c l p);
        read-claimed = λ c l o p q m. omega (arith, sh.read-claimed c l o (served c l p) q m, new_tickets);
        destroy_front = λ c l o p q m. omega (arith, sh.destroy_front c l o (served c l p) q m, same-front c);
        destroy_below = λ c l o p. sh.destroy_below c l o (served c l p);
        front-written = λ c l o p q m. sh.front-written c l o (served c l p) q (omega (arith, same-front c));
      }

  -- where b carries DESTROY, it was not open
  still-mine : (j c o : ℕ) → D s c o ≡ true → (D s c o ≡ true → resp (own s c) ≡ some j) → resp (own (left-on s i h b a more) c) ≡ some j
  still-mine j c o d f =
      owners (λ w. resp w ≡ some j) c (λ e. none-some j (sym (ap resp (was_open c e)) ∙ f d)) (λ n. f d)

  pub s8_rely : (j : ℕ) → (j ≡ i → ⊥) → Rely j s (left-on s i h b a more)
  s8_rely j n =
      record {
        blocks = refl;
        ceiling = refl;
        tail = le_refl _;
        head = omega (arith, higher);
        tail-block = λ q r. refl;
        head-block = λ q r. refl;
        installing = λ q r. (refl, refl);
        leaving = λ q r. absurd (n (mine s i count h b a k ok.leaves j r));
        pushed = λ q r. refl;
        pusher = λ q r. refl;
        claimer = λ q r. refl;
        chain = λ l q. refl;
        first = refl;
        held = λ c q. owners (λ w. w ≡ Held j) c (λ e. unlike (Open (lp h)) (Held j) refl (sym (was_open c e) ∙ q)) (λ m. q);
        walk = λ c q. owners (λ w. w ≡ own s c) c (λ e. none-some j (sym (ap resp (was_open c e)) ∙ q)) (λ m. refl);
        owed-serves = λ c l o h1 h2 h3 h4 h5. same-serves c ∙ h1;
        owed-unwritten = λ c l o h1 h2 h3 h4 h5. h5;
        owed-token = λ c l o h1 h2 h3 h4 h5. refl;
        claim = λ c l o h1 h2 h3 h4 h5 h6 h7. (same-serves c ∙ h1, omega (arith, same-front c), h6, λ d. still-mine j c o d h7);
        wrote = λ c l o h1 h2 h3. h3;
      }

  now-mine : resp (own (left-on s i h b a more) b) ≡ some i
  now-mine = ap resp (put_same (own s) b (Back (lp h) 63 i))

  s8-claims : Claims s i h b a → Claims (left-on s i h b a more) i h b a
  s8-claims c =
      record {
        some-slot = c.some-slot;
        within = c.within;
        below = omega (arith, c.below, new_tickets);
        claimer = c.claimer;
        first = c.first;
        serves = same-serves b ∙ c.serves;
        front = omega (arith, c.front, same-front b);
        unread = c.unread;
        mine = λ d. now-mine;
      }

  s8-next : (taken : List ℕ) → S9Ok (left-on s i h b a more) i k count taken h b a (off h)
  s8-next taken =
      record {
        room = ok.leaves.room;
        limit = ok.leaves.limit;
        claims = s8-claims ok.leaves.claims;
        from = le_refl _;
        to = omega (arith, ok.leaves.claims.some-slot);
        resp = λ q. now-mine;
        wrote = λ o p q. absurd (omega arith);
        tokens = λ j q. absurd (omega arith);
      }

pub s8-kept : (s : State) (i count : ℕ) (taken : List ℕ) (k : Kind) (c : Claim) (more : Bool)
    → Shared s → StealOk s i count taken (S8 k c more) → Kept s i count taken (s8 s.queue k c more)
s8-kept s i count taken k c more h ok =
    record {
      ghost = left_by s.ghost i c.block (lp c.head.raw);
      shared = s8-shared s i count c.head.raw c.block c.advance k more h ok;
      call = s8-next s i count c.head.raw c.block c.advance k more h ok taken;
      others = s8_rely s i count c.head.raw c.block c.advance k more h ok;
    }

-- the ghosts that are chosen
module _ (s : State) (i count : ℕ) (taken : List ℕ) (k : Kind) (c : Claim) (h : Shared s) where
  pub s7-ghost : (x : ℕ) (more : Bool) (ok : StealOk s i count taken (S7 k c x more)) → (s7-kept s i count taken k c x more h ok).ghost ≡ s.ghost
  unfolding s7-kept
  s7-ghost x more ok = refl

  pub s8-ghost : (more : Bool) (ok : StealOk s i count taken (S8 k c more))
      → (s8-kept s i count taken k c more h ok).ghost ≡ left_by s.ghost i c.block (lp c.head.raw)
  unfolding s8-kept
  s8-ghost more ok = refl
