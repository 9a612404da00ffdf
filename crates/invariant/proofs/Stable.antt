-- What holds of a thread at its line holds again after a step of another thread: one lemma a bundle, then by the line.
use Rattle.std.specs.Prelude.{Option, None, Some}
use Prim.Native.Nat.{ℕ, ◌+◌, ◌*◌, ◌-◌, ◌≤◌, ◌<◌}
use mathlib.Core.Path.{◌≡◌, sym, ap, subst, ◌∙◌}
use mathlib.Core.List.{List}
use native.Mathlib.Omega.{arith}
use native.Mathlib.Nat.{le_trans, lt_of_lt_of_le}
use Rattle.index.specs.Position.{position}
use Rattle.index.proofs.Tickets.{ticket_mono}
use Rattle.state.specs.declared.Kind.{Kind}
use Rattle.state.specs.declared.Won.{Won}
use Rattle.state.specs.declared.Won.TheVariants.{Task, Moved}
use Rattle.state.specs.declared.PushLine.{PushLine}
use Rattle.state.specs.declared.PushLine.TheVariants.{P1, P2, P3, P4, P5, P6, P7, P8, P9, P10}
use Rattle.state.specs.declared.StealLine.{StealLine}
use Rattle.state.specs.declared.StealLine.TheVariants.{S1, S2, S3, S4, S5, S6, S7, S8, S9, S10, S11, S12, S13, S14}
use Rattle.state.specs.declared.LengthLine.{LengthLine}
use Rattle.state.specs.declared.LengthLine.TheVariants.{L1, L2, L3}
use Rattle.state.specs.declared.EmptyLine.{EmptyLine}
use Rattle.state.specs.declared.EmptyLine.TheVariants.{E1, E2}
use Rattle.state.specs.declared.Call.{Call}
use Rattle.state.specs.declared.Call.TheVariants.{Idle, Push, Steal, Length, Empty}
use Rattle.state.specs.declared.Thread.{Thread}
use Rattle.invariant.specs.Ghost.{some, lap_of, front, resp}
use Rattle.invariant.specs.State.{State, lp, off, tk, T, H, TB, HB, N, np, nc, own}
use Rattle.invariant.specs.Shared.{Shared}
use Rattle.invariant.specs.Lines.{HeldOk, AtTail, AtHead, Owes, Installs, PushOk}
use Rattle.invariant.specs.Lines.{Claims, Wrote, Leaves, S6Ok, S9Ok, WonOk, WalkOk, StealOk}
use Rattle.invariant.specs.Lines.{Seen, LengthOk, EmptyOk, CallOk, ThreadOk}
use Rattle.invariant.specs.Rely.{Rely}

-- a push that ended the lap has the last ticket, and the tail stands at offset 63
ended-tail : (t u : ℕ) → off t ≡ 62 → u ≡ t + 2 → (off u ≡ 63) × (tk u - 1 ≡ tk t)
ended-tail t u o e = rw e (omega arith, omega arith)

-- a claim that ended the block has the last claimed ticket, and the head stands at offset 63
ended-head : (h u a : ℕ) → off h + a ≡ 63 → position u ≡ position h + a → (off u ≡ 63) × (tk u ≡ tk h + a)
ended-head h u a o e = (omega arith, omega arith)

module _ (j : ℕ) (s s' : State) (r : Rely j s s') where
  np_up : np s ≤ np s'
  np_up = ticket_mono (position (T s)) (position (T s')) (let t : T s ≤ T s' = r.tail in omega arith)

  nc_up : nc s ≤ nc s'
  nc_up = ticket_mono (position (H s)) (position (H s')) (let t : H s ≤ H s' = r.head in omega arith)

  tail_up : position (T s) ≤ position (T s')
  tail_up = let t : T s ≤ T s' = r.tail in omega arith

  lap_up : lp (T s) ≤ lp (T s')
  lap_up = let t = tail_up in omega arith

  number-stays : (b : ℕ) → b < N s → b < N s'
  number-stays b p = subst (λ (n : ℕ). b < n) (sym r.blocks) p

  ceiling-stays : (l : ℕ) → l < s.queue.ceiling → l < s'.queue.ceiling
  ceiling-stays l p = subst (λ (n : ℕ). l < n) (sym r.ceiling) p

  held_stays : (x : Option ℕ) → HeldOk s j x → HeldOk s' j x
  held_stays None p = tt
  held_stays (Some x) p = r.held x p

  -- a loaded index that is the tail's afterwards was the tail's before, since the tail only grows
  at-tail-stays : (t b : ℕ) → off t < 63 → AtTail s t b → AtTail s' t b
  at-tail-stays t b o a =
      record { seen = le_trans a.seen r.tail; number = number-stays b a.number; same = same }
    where
      same : t ≡ T s' → b ≡ TB s'
      same e =
          let up : T s ≤ T s' = r.tail in
          let seen : t ≤ T s = a.seen in
          let was : t ≡ T s = omega arith in
          a.same was ∙ sym (r.tail-block (sym e ∙ was) (rw (← was) o))

  at-head-stays : (t b : ℕ) → off t < 63 → AtHead s t b → AtHead s' t b
  at-head-stays t b o a =
      record { seen = le_trans a.seen r.head; number = number-stays b a.number; same = same }
    where
      same : t ≡ H s' → b ≡ HB s'
      same e =
          let up : H s ≤ H s' = r.head in
          let seen : t ≤ H s = a.seen in
          let was : t ≡ H s = omega arith in
          a.same was ∙ sym (r.head-block (sym e ∙ was) (rw (← was) o))

  owes-stays : (v t b : ℕ) → Owes s j v t b → Owes s' j v t b
  owes-stays v t b o =
      record {
        slot = o.slot;
        below = lt_of_lt_of_le o.below np_up;
        pusher = r.pusher (tk t) o.below ∙ o.pusher;
        pushed = r.pushed (tk t) o.below ∙ o.pushed;
        serves = r.owed-serves b (lp t) (off t) o.serves o.slot o.below o.pusher o.unwritten;
        unwritten = r.owed-unwritten b (lp t) (off t) o.serves o.slot o.below o.pusher o.unwritten;
      }

  -- the tail waits for the push that ended the lap
  tail-waits : (v t b x : ℕ) → Installs s j v t b x → (T s' ≡ T s) × (TB s' ≡ TB s)
  tail-waits v t b x p =
      let e = ended-tail t (T s) p.last p.tail in
      r.installing e.0 (ap s.ghost.pusher e.1 ∙ p.owes.pusher)

  installs-stays : (v t b x : ℕ) → Installs s j v t b x → Installs s' j v t b x
  installs-stays v t b x p =
      record {
        owes = owes-stays v t b p.owes;
        last = p.last;
        holds = r.held x p.holds;
        tail = (tail-waits v t b x p).0 ∙ p.tail;
        lap = ceiling-stays (lp t) p.lap;
      }

  push-stays : (line : PushLine) → PushOk s j line → PushOk s' j line
  push-stays (P1 v held) p = held_stays held p
  push-stays (P2 v t held) p = record { holds = held_stays held p.holds; seen = le_trans p.seen r.tail }
  push-stays (P3 v t b) p =
      record {
        at = at-tail-stays t.raw b (let o = p.last in omega arith) p.at;
        last = p.last;
        lap = ceiling-stays (lp t.raw) p.lap;
      }
  push-stays (P4 v t b held) p =
      record {
        holds = held_stays held p.holds;
        at = at-tail-stays t.raw b p.slot p.at;
        slot = p.slot;
        last = p.last;
        lap = ceiling-stays (lp t.raw) p.lap;
      }
  push-stays (P5 v t b x) p = installs-stays v t.raw b x p
  push-stays (P6 v t b x) p =
      record {
        installs = installs-stays v t.raw b x p.installs;
        block = (tail-waits v t.raw b x p.installs).1 ∙ p.block;
      }
  push-stays (P7 v t b x) p =
      record {
        owes = owes-stays v t.raw b p.owes;
        last = p.last;
        lap = lt_of_lt_of_le p.lap lap_up;
        chain = r.chain (lp t.raw + 1) (let l : lp t.raw < lp (T s) = p.lap in omega arith) ∙ p.chain;
        number = number-stays x p.number;
      }
  push-stays (P8 v t b held) p = record { owes = owes-stays v t.raw b p.owes; holds = held_stays held p.holds }
  push-stays (P9 v t b held) p =
      record {
        owes = owes-stays v t.raw b p.owes;
        holds = held_stays held p.holds;
        token =
            (let o = p.owes in
            r.owed-token b (lp t.raw) (off t.raw) o.serves o.slot o.below o.pusher o.unwritten)
            ∙ p.token;
      }
  push-stays (P10 x spent) p = r.held x p

  -- ---- a thief's claim is kept through its top slot

  claims-stays : (h b a : ℕ) → Claims s j h b a → Claims s' j h b a
  claims-stays h b a c =
      let one : 1 ≤ a = c.some-slot in
      let fits : off h + a ≤ 63 = c.within in
      let below : tk h + a ≤ nc s = c.below in
      let top : off h + a - 1 + 1 ≡ off h + a = omega arith in
      let kept =
      r.claim b (lp h) (off h + a - 1) c.serves (omega arith) (omega arith)
      (c.claimer (63 * lp h + (off h + a - 1)) (omega arith) (omega arith))
      (subst (λ (e : ℕ). e ≤ front (own s b)) (sym top) c.front)
      c.unread
      c.mine
      in
      record {
        some-slot = c.some-slot;
        within = c.within;
        below = le_trans c.below nc_up;
        claimer = λ k from to. r.claimer k (lt_of_lt_of_le to c.below) ∙ c.claimer k from to;
        first = r.first ∙ c.first;
        serves = kept.0;
        front = subst (λ (e : ℕ). e ≤ front (own s' b)) top kept.1;
        unread = kept.2;
        mine = kept.3;
      }

  -- the head waits for the thief that ended the block
  head-waits : (k : Kind) (count h b a : ℕ) → Leaves s j k count h b a → (H s' ≡ H s) × (HB s' ≡ HB s)
  head-waits k count h b a p =
      let e = ended-head h (H s) a p.ended p.head in
      let one : 1 ≤ a = p.claims.some-slot in
      let all : tk (H s) ≡ tk h + a = e.1 in
      r.leaving e.0 (p.claims.claimer (nc s - 1) (omega arith) (omega arith))

  leaves-stays : (k : Kind) (count h b a : ℕ) → Leaves s j k count h b a → Leaves s' j k count h b a
  leaves-stays k count h b a p =
      record {
        room = p.room;
        limit = p.limit;
        claims = claims-stays h b a p.claims;
        ended = p.ended;
        head = ap position (head-waits k count h b a p).0 ∙ p.head;
      }

  next-stays : (k : Kind) (count h b a x : ℕ) → S6Ok s j k count h b a x → S6Ok s' j k count h b a x
  next-stays k count h b a x p =
      record {
        leaves = leaves-stays k count h b a p.leaves;
        lap = lt_of_lt_of_le p.lap lap_up;
        chain = r.chain (lp h + 1) (let l : lp h < lp (T s) = p.lap in omega arith) ∙ p.chain;
      }

  wrote-stays : (h b p q : ℕ) → q ≤ 63 → lap_of (own s b) ≡ some (lp h) → Wrote s b p q → Wrote s' b p q
  wrote-stays h b p q fits e w o from to = r.wrote b (lp h) o e (lt_of_lt_of_le to fits) (w o from to)

  resp-stays : (b : ℕ) → resp (own s b) ≡ some j → resp (own s' b) ≡ some j
  resp-stays b e = ap resp (r.walk b e) ∙ e

  won-stays : (won : Won) → WonOk s j won → WonOk s' j won
  won-stays (Task v) p =
      let e : s'.ghost.first j ≡ s.ghost.first j = r.first in (
        rw e (p.0 ∙ sym (r.pushed (s.ghost.first j) p.1)),
        rw e (lt_of_lt_of_le p.1 np_up),
      )
  won-stays Moved p = tt

  walk-stays : (won : Won) (b w : ℕ) → WalkOk s j won b w → WalkOk s' j won b w
  walk-stays won b w p =
      record {
        lap = p.lap;
        own = r.walk b (ap resp p.own) ∙ p.own;
        below = p.below;
        answer = won-stays won p.answer;
      }

  seen-stays : (i : ℕ) → Seen s i → Seen s' i
  seen-stays i p = le_trans p tail_up

  module _ (h : Shared s) where
    -- claimed tickets were pushed, so the log of tokens holds them
    reads-stays : (k : Kind) (count : ℕ) (taken : List ℕ) (t b a n : ℕ) → S9Ok s j k count taken t b a n → S9Ok s' j k count taken t b a n
    reads-stays k count taken t b a n p =
        record {
          room = p.room;
          limit = p.limit;
          claims = claims-stays t b a p.claims;
          from = p.from;
          to = p.to;
          resp = λ e. resp-stays b (p.resp e);
          wrote = wrote-stays t b (off t) n (omega (arith, p.claims.within, p.to)) p.claims.serves p.wrote;
          tokens = λ q q<. p.tokens q q< ∙ sym (r.pushed (tk t + q) (below q q<));
        }
      where
        below : (q : ℕ) → q < n - off t → tk t + q < np s
        below q q< =
            let all : nc s ≤ np s = ticket_mono (position (H s)) (position (T s)) h.order in
            let claimed : tk t + a ≤ nc s = p.claims.below in
            let to : n < off t + a = p.to in
            omega arith

    steal-stays : (count : ℕ) (taken : List ℕ) (line : StealLine) → StealOk s j count taken line → StealOk s' j count taken line
    steal-stays count taken (S1 k) p = p
    steal-stays count taken (S2 k t) p =
        record { room = p.room; seen = le_trans p.seen r.head; flag = λ e. lt_of_lt_of_le (p.flag e) lap_up }
    steal-stays count taken (S3 k t b) p =
        record { room = p.room; at = at-head-stays t.raw b p.slot p.at; slot = p.slot; plain = p.plain }
    steal-stays count taken (S4 k c more) p =
        record {
          room = p.room;
          limit = p.limit;
          at = at-head-stays c.head.raw c.block p.slot p.at;
          slot = p.slot;
          some-slot = p.some-slot;
          within = p.within;
          end = le_trans p.end tail_up;
          flag = λ e. lt_of_lt_of_le (p.flag e) lap_up;
        }
    steal-stays count taken (S5 k c) p = leaves-stays k count c.head.raw c.block c.advance p
    steal-stays count taken (S6 k c x) p = next-stays k count c.head.raw c.block c.advance x p
    steal-stays count taken (S7 k c x more) p =
        record {
          at = next-stays k count c.head.raw c.block c.advance x p.at;
          more-laps = λ e. le_trans (p.more-laps e) lap_up;
        }
    steal-stays count taken (S8 k c more) p =
        record {
          leaves = leaves-stays k count c.head.raw c.block c.advance p.leaves;
          lap = lt_of_lt_of_le p.lap lap_up;
          block =
              r.chain (lp c.head.raw + 1) (let l : lp c.head.raw < lp (T s) = p.lap in omega arith)
              ∙ p.block
              ∙ sym (head-waits k count c.head.raw c.block c.advance p.leaves).1;
          more-laps = λ e. le_trans (p.more-laps e) lap_up;
        }
    steal-stays count taken (S9 k c n) p = reads-stays k count taken c.head.raw c.block c.advance n p
    steal-stays count taken (S10 k c n) p =
        record {
          at = reads-stays k count taken c.head.raw c.block c.advance n p.at;
          written =
              r.wrote c.block (lp c.head.raw) n p.at.claims.serves
              (omega (arith, p.at.claims.within, p.at.to))
              p.written;
        }
    steal-stays count taken (S11 won c n) p =
        record {
          claims = claims-stays c.head.raw c.block c.advance p.claims;
          short = p.short;
          from = p.from;
          to = p.to;
          wrote =
              wrote-stays c.head.raw c.block (off c.head.raw) (off c.head.raw + c.advance) p.claims.within
              p.claims.serves
              p.wrote;
          answer = won-stays won p.answer;
        }
    steal-stays count taken (S12 won b w) p = walk-stays won b (w + 1) p
    steal-stays count taken (S13 won b w) p = walk-stays won b (w + 1) p
    steal-stays count taken (S14 won b) p = walk-stays won b 0 p

    length-stays : (line : LengthLine) → LengthOk s line → LengthOk s' line
    length-stays L1 p = tt
    length-stays (L2 t) p = seen-stays t.raw p
    length-stays (L3 t u) p = (seen-stays t.raw p.0, seen-stays u.raw p.1)

    empty-stays : (line : EmptyLine) → EmptyOk s line → EmptyOk s' line
    empty-stays E1 p = tt
    empty-stays (E2 t) p = seen-stays t.raw p

    call_stays : (count : ℕ) (taken : List ℕ) (call : Call) → CallOk s j count taken call → CallOk s' j count taken call
    call_stays count taken Idle p = tt
    call_stays count taken (Push line) p = push-stays line p
    call_stays count taken (Steal line) p = steal-stays count taken line p
    call_stays count taken (Length line) p = length-stays line p
    call_stays count taken (Empty line) p = empty-stays line p

pub stable : (j : ℕ) (s s' : State) (t : Thread) → Shared s → Rely j s s' → ThreadOk s j t → ThreadOk s' j t
stable j s s' t h r p =
    record {
      tokens = p.tokens;
      count = p.count;
      taken = p.taken;
      call = call_stays j s s' r h t.ring.count t.taken t.call p.call;
    }
