-- S4: the compare that gives a thief its tickets, won and lost.
use Prim.Native.Nat.{ℕ, ◌+◌, ◌-◌, ◌%◌, ◌≤◌, ◌<◌}
use mathlib.Core.Path.{◌≡◌, refl, sym, ap, ◌∙◌}
use mathlib.Core.Bool.{Bool, true, false, cond, ◌||◌}
use mathlib.Core.Logic.{⊎_elim}
use mathlib.Core.List.{List}
use native.Mathlib.Omega.{arith}
use native.Mathlib.Nat.{le_refl}
use lib.Dec.{eqb, leb, ltb}
use borrow.Author.Tests.{eq-eqb, eqb-true, eqb-false, le-leb, lt-leb, lt-ltb}
use Rattle.index.specs.Position.{position, has_next}
use Rattle.index.specs.Claim.{claimed}
use Rattle.index.specs.Laws.{claimed-position, claimed-next, claimed_above}
use Rattle.index.proofs.Tickets.{claimed-ticket}
use Rattle.memory.specs.Touch.{leaves}
use Rattle.state.specs.Move.{with_head, ends}
use Rattle.state.specs.declared.Kind.{Kind}
use Rattle.state.specs.declared.Claim.{Claim}
use Rattle.state.specs.declared.Answer.TheVariants.{Retry}
use Rattle.state.specs.declared.StealLine.TheVariants.{S4, S5, S9}
use Rattle.machine.specs.Steal.{s4, s4_won, first, past}
use Rattle.invariant.specs.Ghost.{Ghost, Open, lap_of, front}
use Rattle.invariant.specs.State.{State, lp, off, tk, T, H, nc, R, D, own}
use Rattle.invariant.specs.Shared.{Shared}
use Rattle.invariant.specs.Lines.{Claims, S4Ok, S9Ok, Leaves, StealOk}
use Rattle.invariant.specs.Rely.{Rely}
use Rattle.invariant.specs.Kept.{Kept, moved}
use Rattle.invariant.proofs.Facts.{cond_elim, true-or-false, clash, put, put_same, put_other}
use Rattle.invariant.proofs.Local.{stops}

-- `f` with `n` places from `k` on changed
abbrev pub fill : (ℕ → ℕ) → ℕ → ℕ → ℕ → ℕ → ℕ
fill f k n a j = cond (leb k j) (cond (ltb j (k + n)) a (f j)) (f j)

pub fill-inside : (f : ℕ → ℕ) (k n a j : ℕ) → k ≤ j → j < k + n → fill f k n a j ≡ a
fill-inside f k n a j p q = rw (le-leb k j p, lt-ltb j (k + n) q)

pub fill-below : (f : ℕ → ℕ) (k n a j : ℕ) → j < k → fill f k n a j ≡ f j
fill-below f k n a j p = rw (lt-leb k j p)

-- the tickets of `a` slots from the index h on are logged as thread i's
abbrev pub claimed-by : Ghost → ℕ → ℕ → ℕ → Ghost
claimed-by g i h a =
    record {
      pushed = g.pushed;
      pusher = g.pusher;
      claimer = fill g.claimer (tk h) a i;
      chain = g.chain;
      own = g.own;
      first = put g.first i (tk h);
    }

-- the state after the compare held
abbrev pub claimed-on : State → ℕ → ℕ → ℕ → Bool → State
claimed-on s i h a more =
    record { queue = with_head s.queue (record { raw = claimed h a more }); pool = s.pool; ghost = claimed-by s.ghost i h a }

-- whose flag the new head has: the loaded head's, or the one that the loaded tail gave it
either-flag : (more : Bool) (h : ℕ) → (more || has_next h) ≡ true → (more ≡ false → h % 2 ≡ 1)
either-flag true h e f = clash true refl f
either-flag false h e f = eqb-true (h % 2) 1 e

module _ (s : State) (i count h b a : ℕ) (k : Kind) (more : Bool) (sh : Shared s) (e : H s ≡ h) (ok : S4Ok s k count h b a more) where
  new-position : position (claimed h a more) ≡ position h + a
  new-position = claimed-position h a more

  -- the advance stays inside the block: the lap stays, and there are as many more tickets
  same-lap : lp (claimed h a more) ≡ lp (H s)
  same-lap = omega (arith, new-position, ok.within)

  more_tickets : tk (claimed h a more) ≡ nc s + a
  more_tickets = omega (arith, new-position, ok.within)

  higher : H s < claimed h a more
  higher = omega (arith, claimed_above h a more ok.some-slot)

  new-flag : claimed h a more % 2 ≡ 1 → lp (claimed h a more) < lp (T s)
  new-flag f =
      let g : (more || has_next h) ≡ true = sym (claimed-next h a more) ∙ eq-eqb (claimed h a more % 2) 1 f in
      ⊎_elim
      (λ m. omega (arith, ok.flag m, same-lap))
      (λ m. omega (arith, sh.flag (omega (arith, either-flag more h g m)), same-lap))
      (true-or-false more)

  -- the log is read below the old end
  pub claimer-before : (q : ℕ) → q < nc s → fill s.ghost.claimer (tk h) a i q ≡ s.ghost.claimer q
  claimer-before q p = fill-below s.ghost.claimer (tk h) a i q (omega arith)

  pub s4-shared : Shared (claimed-on s i h a more)
  s4-shared =
      record {
        sized = sh.sized;
        even = sh.even;
        ceiling = sh.ceiling;
        order = omega (arith, new-position, ok.end);
        flag = new-flag;
        freed = sh.freed;
        taken = sh.taken;
        number = sh.number;
        open_from = λ c l q. omega (arith, sh.open_from c l q, same-lap);
        open_to = sh.open_to;
        open_at = sh.open_at;
        back_to = λ c l f j q. omega (arith, sh.back_to c l f j q, same-lap);
        back_at = sh.back_at;
        live = λ l p q. sh.live l (omega (arith, same-lap)) q;
        tail-number = sh.tail-number;
        tail_at = sh.tail_at;
        head-number = sh.head-number;
        head_at = λ q. sh.head_at (omega (arith, ok.slot)) ∙ ap s.ghost.chain (sym same-lap);
        next-number = sh.next-number;
        held_next = sh.held_next;
        held-clean = sh.held-clean;
        next-lap = sh.next-lap;
        next-at = sh.next-at;
        written = sh.written;
        token = sh.token;
        read-written = sh.read-written;
        read-claimed = λ c l o p q m. omega (arith, sh.read-claimed c l o p q m, more_tickets);
        destroy_front = sh.destroy_front;
        destroy_below = sh.destroy_below;
        front-written = sh.front-written;
      }

  pub s4_rely : (j : ℕ) → (j ≡ i → ⊥) → Rely j s (claimed-on s i h a more)
  s4_rely j n =
      record {
        blocks = refl;
        ceiling = refl;
        tail = le_refl _;
        head = omega (arith, higher);
        tail-block = λ q r. refl;
        head-block = λ q r. refl;
        installing = λ q r. (refl, refl);
        leaving = λ q r. absurd (omega (arith, ok.slot));
        pushed = λ q p. refl;
        pusher = λ q p. refl;
        claimer = claimer-before;
        chain = λ l p. refl;
        first = put_other s.ghost.first i (tk h) j n;
        held = λ c q. q;
        walk = λ c q. refl;
        owed-serves = λ c l o h1 h2 h3 h4 h5. h1;
        owed-unwritten = λ c l o h1 h2 h3 h4 h5. h5;
        owed-token = λ c l o h1 h2 h3 h4 h5. refl;
        claim = λ c l o h1 h2 h3 h4 h5 h6 h7. (h1, h5, h6, h7);
        wrote = λ c l o h1 h2 h3. h3;
      }

  -- the block that was loaded with the index is open for its lap
  block : b ≡ s.ghost.chain (lp h)
  block = ok.at.same (sym e) ∙ sh.head_at (omega (arith, ok.slot)) ∙ ap (λ (q : ℕ). s.ghost.chain (lp q)) e

  owner : own s b ≡ Open (lp h)
  owner = rw block (sh.live (lp h) (omega arith) (omega (arith, sh.order)))

  -- so no slot at or above the last claimed ticket is marked READ, and none DESTROY
  unread : (o : ℕ) → off h ≤ o → o < 63 → R s b o ≡ false
  unread o p q =
      ⊎_elim
      (λ m. absurd (omega (arith, sh.read-claimed b (lp h) o (ap lap_of owner) q m)))
      (λ m. m)
      (true-or-false (R s b o))

  undestroyed : {A : Type 0} (o : ℕ) → o < 63 → D s b o ≡ true → A
  undestroyed o q m =
      let f : front (own s b) ≡ 63 = ap front owner in
      absurd (omega (arith, sh.destroy_front b (lp h) o (ap lap_of owner) q m, sh.destroy_below b (lp h) o (ap lap_of owner) q m))

  pub s4-claims : Claims (claimed-on s i h a more) i h b a
  s4-claims =
      record {
        some-slot = ok.some-slot;
        within = ok.within;
        below = omega (arith, more_tickets);
        claimer = λ q p r. fill-inside s.ghost.claimer (tk h) a i q p r;
        first = put_same s.ghost.first i (tk h);
        serves = ap lap_of owner;
        front = omega (arith, ap front owner, ok.within);
        unread = unread (off h + a - 1) (omega (arith, ok.some-slot)) (omega (arith, ok.within, ok.some-slot));
        mine = λ m. undestroyed (off h + a - 1) (omega (arith, ok.within, ok.some-slot)) m;
      }

  -- the line that the thief reaches: S5 where it has ended the block, else S9 at its first slot
  s4-leaves : off h + a ≡ 63 → Leaves (claimed-on s i h a more) i k count h b a
  s4-leaves q = record { room = ok.room; limit = ok.limit; claims = s4-claims; ended = q; head = new-position }

  s4-reads : (taken : List ℕ) → (off h + a ≡ 63 → ⊥) → S9Ok (claimed-on s i h a more) i k count taken h b a (off h)
  s4-reads taken n =
      record {
        room = ok.room;
        limit = ok.limit;
        claims = s4-claims;
        from = le_refl _;
        to = omega (arith, ok.some-slot);
        resp = λ q. absurd (n q);
        wrote = λ o p q. absurd (omega arith);
        tokens = λ j q. absurd (omega arith);
      }

module _ (s : State) (i count : ℕ) (taken : List ℕ) (k : Kind) (c : Claim) (more : Bool)
    (h : Shared s) (ok : StealOk s i count taken (S4 k c more)) where
  pub s4-won : H s ≡ c.head.raw → Kept s i count taken (s4_won s.queue k c more)
  s4-won e =
      record {
        ghost = claimed-by s.ghost i c.head.raw c.advance;
        shared = s4-shared s i count c.head.raw c.block c.advance k more h e ok;
        call =
            cond_elim (StealOk (claimed-on s i c.head.raw c.advance more) i count taken) (eqb (past c) 63) (S5 k c) (S9 k c (first c))
            (λ q. s4-leaves s i count c.head.raw c.block c.advance k more h e ok (eqb-true (past c) 63 q))
            (λ q. s4-reads s i count c.head.raw c.block c.advance k more h e ok taken (eqb-false (past c) 63 q));
        others = s4_rely s i count c.head.raw c.block c.advance k more h e ok;
      }

  -- by the compare's outcome d; whatever the head is, a compare that fails leaves all as it was
  s4-by : (d : Bool) → eqb (H s) c.head.raw ≡ d → Kept s i count taken (cond d (s4_won s.queue k c more) (ends s.queue Retry leaves))
  s4-by true e = s4-won (eqb-true (H s) c.head.raw e)
  s4-by false e = stops s i count taken Retry h

  pub s4-kept : Kept s i count taken (s4 s.queue k c more)
  unfolding s4
  s4-kept = s4-by (eqb (H s) c.head.raw) refl

  -- the ghost that is chosen, by the compare's outcome
  by-ghost : (d : Bool) (q : eqb (H s) c.head.raw ≡ d)
      → (s4-by d q).ghost ≡ cond d (claimed-by s.ghost i c.head.raw c.advance) s.ghost
  unfolding s4-by s4-won stops
  by-ghost true q = refl
  by-ghost false q = refl

  pub s4-ghost : s4-kept.ghost ≡ cond (eqb (H s) c.head.raw) (claimed-by s.ghost i c.head.raw c.advance) s.ghost
  unfolding s4 s4-kept
  s4-ghost = by-ghost (eqb (H s) c.head.raw) refl

  -- where it held, the ghost has the tickets as the thread's
  pub s4_logged : H s ≡ c.head.raw → s4-kept.ghost ≡ claimed-by s.ghost i c.head.raw c.advance
  s4_logged e = rw (eq-eqb (H s) c.head.raw e) at s4-ghost

-- the tickets are the next ones, whatever ghost is chosen
pub s4-claim : (s : State) (k : Kind) (c : Claim) (more : Bool) (g : Ghost) → off c.head.raw + c.advance ≤ 63 → H s ≡ c.head.raw
    → (tk c.head.raw ≡ nc s) × (nc (moved s (s4 s.queue k c more) g) ≡ nc s + c.advance)
unfolding s4
s4-claim s k c more g within e =
    (ap tk (sym e), rw (eq-eqb (H s) c.head.raw e) (claimed-ticket c.head.raw c.advance more within ∙ ap (λ (q : ℕ). tk q + c.advance) (sym e)))
