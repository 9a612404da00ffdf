-- P4: the compare that gives a push its ticket, won and lost.
use Rattle.std.specs.Prelude.{Option, None, Some}
use Prim.Native.Nat.{ℕ, ◌+◌, ◌*◌, ◌<◌}
use mathlib.Core.Path.{◌≡◌, refl, sym, ap, ◌∙◌}
use mathlib.Core.Bool.{Bool, true, false, cond}
use mathlib.Core.Logic.{⊎_elim}
use mathlib.Core.List.{List}
use native.Mathlib.Omega.{arith}
use native.Mathlib.Nat.{le_refl}
use lib.Dec.{eqb}
use borrow.Author.Tests.{eq-eqb, eqb-true}
use Rattle.index.specs.Claim.{advanced}
use Rattle.index.specs.declared.Index.{Index}
use Rattle.state.specs.Move.{with_tail}
use Rattle.state.specs.declared.PushLine.TheVariants.{P2, P4, P8}
use Rattle.state.specs.declared.Call.TheVariants.{Push}
use Rattle.machine.specs.Push.{p4, p4_won, p4_lost, p4_last}
use Rattle.invariant.specs.Ghost.{Ghost, some, lap_of}
use Rattle.invariant.specs.State.{State, lp, off, tk, T, TB, L, np, W, own}
use Rattle.invariant.specs.Shared.{Shared}
use Rattle.invariant.specs.Lines.{HeldOk, Owes, P4Ok, PushOk}
use Rattle.invariant.specs.Rely.{Rely}
use Rattle.invariant.specs.Kept.{Kept, moved}
use Rattle.invariant.proofs.Facts.{cond_elim, true-or-false, put, put_same, put_other}
use Rattle.invariant.proofs.Local.{goes_on}

-- the ticket of the index t is logged: its token v, and the thread i
abbrev pub ticketed : Ghost → ℕ → ℕ → ℕ → Ghost
ticketed g i v t =
    record {
      pushed = put g.pushed (tk t) v;
      pusher = put g.pusher (tk t) i;
      claimer = g.claimer;
      chain = g.chain;
      own = g.own;
      first = g.first;
    }

-- the state after the compare held
abbrev pub pushed-on : State → ℕ → ℕ → ℕ → State
pushed-on s i v t =
    record { queue = with_tail s.queue (record { raw = advanced t 1 }); pool = s.pool; ghost = ticketed s.ghost i v t }

module _ (s : State) (i v t : ℕ) (h : Shared s) (e : T s ≡ t) (slot : off t < 63) where
  -- one position on: the lap stays, and there is one ticket more
  same-lap : lp (advanced t 1) ≡ lp (T s)
  same-lap = omega arith

  one_more : tk (advanced t 1) ≡ np s + 1
  one_more = omega arith

  -- the logs are read below the old end
  pub pushed-before : (k : ℕ) → k < np s → put s.ghost.pushed (tk t) v k ≡ s.ghost.pushed k
  pushed-before k b = put_other s.ghost.pushed (tk t) v k (λ f. omega arith)

  pub pusher-before : (k : ℕ) → k < np s → put s.ghost.pusher (tk t) i k ≡ s.ghost.pusher k
  pusher-before k b = put_other s.ghost.pusher (tk t) i k (λ f. omega arith)

  pub p4-shared : lp t < L s → Shared (pushed-on s i v t)
  p4-shared room =
      record {
        sized = h.sized;
        even = omega (arith, h.even);
        ceiling = omega arith;
        order = omega (arith, h.order);
        flag = λ f. omega (arith, h.flag f);
        freed = h.freed;
        taken = h.taken;
        number = h.number;
        open_from = h.open_from;
        open_to = λ b l q. omega (arith, h.open_to b l q);
        open_at = h.open_at;
        back_to = h.back_to;
        back_at = h.back_at;
        live = λ l p q. h.live l p (omega arith);
        tail-number = h.tail-number;
        tail_at = λ q. h.tail_at (omega arith) ∙ ap s.ghost.chain (sym same-lap);
        head-number = h.head-number;
        head_at = h.head_at;
        next-number = h.next-number;
        held_next = h.held_next;
        held-clean = h.held-clean;
        next-lap = λ b l x p q. omega (arith, h.next-lap b l x p q);
        next-at = h.next-at;
        written = λ b l o p q w. omega (arith, h.written b l o p q w);
        token = λ b l o p q w. h.token b l o p q w ∙ sym (pushed-before (63 * l + o) (h.written b l o p q w));
        read-written = h.read-written;
        read-claimed = h.read-claimed;
        destroy_front = h.destroy_front;
        destroy_below = h.destroy_below;
        front-written = h.front-written;
      }

  pub p4_rely : (j : ℕ) → Rely j s (pushed-on s i v t)
  p4_rely j =
      record {
        blocks = refl;
        ceiling = refl;
        tail = omega arith;
        head = le_refl _;
        tail-block = λ q b. refl;
        head-block = λ q b. refl;
        installing = λ q b. absurd (omega arith);
        leaving = λ q b. (refl, refl);
        pushed = pushed-before;
        pusher = pusher-before;
        claimer = λ k b. refl;
        chain = λ l b. refl;
        first = refl;
        held = λ b q. q;
        walk = λ b q. refl;
        owed-serves = λ b l o h1 h2 h3 h4 h5. h1;
        owed-unwritten = λ b l o h1 h2 h3 h4 h5. h5;
        owed-token = λ b l o h1 h2 h3 h4 h5. refl;
        claim = λ b l o h1 h2 h3 h4 h5 h6 h7. (h1, h5, h6, h7);
        wrote = λ b l o h1 h2 h3. h3;
      }

  -- the block that was loaded with the index serves its lap, and a slot above the last ticket is not written
  pub p4-owes : (b : ℕ) → (t ≡ T s → b ≡ TB s) → Owes (pushed-on s i v t) i v t b
  p4-owes b same =
      record {
        slot = slot;
        below = omega arith;
        pusher = put_same s.ghost.pusher (tk t) i;
        pushed = put_same s.ghost.pushed (tk t) v;
        serves = serves;
        unwritten = unwritten;
      }
    where
      block : b ≡ s.ghost.chain (lp t)
      block = same (sym e) ∙ h.tail_at (omega arith) ∙ ap (λ (k : ℕ). s.ghost.chain (lp k)) e

      serves : lap_of (own s b) ≡ some (lp t)
      serves = rw block (ap lap_of (h.live (lp t) (omega (arith, h.order)) (omega arith)))

      unwritten : W s b (off t) ≡ false
      unwritten =
          ⊎_elim
          (λ w. absurd (omega (arith, h.written b (lp t) (off t) serves slot w)))
          (λ w. w)
          (true-or-false (W s b (off t)))

-- the line that the push reaches: P5 from the block's last slot, with the block that it holds, else P8
module _ (s : State) (i v : ℕ) (t : Index) (b : ℕ) (h : Shared s) (e : T s ≡ t.raw) where
  p4-last : (held : Option ℕ) → P4Ok s i t.raw b held → off t.raw ≡ 62 → PushOk (pushed-on s i v t.raw) i (p4_last v t b held)
  p4-last None ok last = absurd (ok.last last)
  p4-last (Some x) ok last =
      record {
        owes = p4-owes s i v t.raw h e ok.slot b ok.at.same;
        last = last;
        holds = ok.holds;
        tail = refl;
        lap = ok.lap;
      }

  held_on : (held : Option ℕ) → HeldOk s i held → HeldOk (pushed-on s i v t.raw) i held
  held_on None q = q
  held_on (Some x) q = q

  p4-next : (held : Option ℕ) → P4Ok s i t.raw b held
      → PushOk (pushed-on s i v t.raw) i (cond (eqb (off t.raw) 62) (p4_last v t b held) (P8 v t b held))
  p4-next held ok =
      cond_elim (PushOk (pushed-on s i v t.raw) i) (eqb (off t.raw) 62) (p4_last v t b held) (P8 v t b held)
      (λ q. p4-last held ok (eqb-true _ _ q))
      (λ q. record { owes = p4-owes s i v t.raw h e ok.slot b ok.at.same; holds = held_on held ok.holds })

  pub p4-won : (count : ℕ) (taken : List ℕ) (held : Option ℕ) → P4Ok s i t.raw b held
      → Kept s i count taken (p4_won s.queue v t b held)
  p4-won count taken held ok =
      record {
        ghost = ticketed s.ghost i v t.raw;
        shared = p4-shared s i v t.raw h e ok.slot ok.lap;
        call = p4-next held ok;
        others = λ j n. p4_rely s i v t.raw h e ok.slot j;
      }

-- whatever the tail is: a compare that fails leaves all as it was
pub p4_lost_lem : (s : State) (i count : ℕ) (taken : List ℕ) (v : ℕ) (held : Option ℕ)
    → Shared s → HeldOk s i held → Kept s i count taken (p4_lost s.queue v held)
p4_lost_lem s i count taken v held h q =
    goes_on s i count taken (Push (P2 v s.queue.tail held)) h (record { holds = q; seen = le_refl _ })

-- by the compare's outcome c
p4-by : (s : State) (i count : ℕ) (taken : List ℕ) (v : ℕ) (t : Index) (b : ℕ) (held : Option ℕ) → Shared s → PushOk s i (P4 v t b held)
    → (c : Bool) → eqb (T s) t.raw ≡ c → Kept s i count taken (cond c (p4_won s.queue v t b held) (p4_lost s.queue v held))
p4-by s i count taken v t b held h ok true e = p4-won s i v t b h (eqb-true (T s) t.raw e) count taken held ok
p4-by s i count taken v t b held h ok false e = p4_lost_lem s i count taken v held h ok.holds

pub p4-kept : (s : State) (i count : ℕ) (taken : List ℕ) (v : ℕ) (t : Index) (b : ℕ) (held : Option ℕ)
    → Shared s → PushOk s i (P4 v t b held) → Kept s i count taken (p4 s.queue v t b held)
unfolding p4
p4-kept s i count taken v t b held h ok = p4-by s i count taken v t b held h ok (eqb (T s) t.raw) refl

-- the ticket is the next one, whatever ghost is chosen
pub p4-ticket : (s : State) (v : ℕ) (t : Index) (b : ℕ) (held : Option ℕ) (g : Ghost) → off t.raw < 63 → T s ≡ t.raw
    → (tk t.raw ≡ np s) × (np (moved s (p4 s.queue v t b held) g) ≡ np s + 1)
unfolding p4
p4-ticket s v t b held g slot e = (ap tk (sym e), rw (eq-eqb (T s) t.raw e) (omega arith))

-- the ghost that is chosen, by the compare's outcome
module _ (s : State) (i count : ℕ) (taken : List ℕ) (v : ℕ) (t : Index) (b : ℕ) (held : Option ℕ)
    (h : Shared s) (ok : PushOk s i (P4 v t b held)) where
  by-ghost : (c : Bool) (q : eqb (T s) t.raw ≡ c)
      → (p4-by s i count taken v t b held h ok c q).ghost ≡ cond c (ticketed s.ghost i v t.raw) s.ghost
  unfolding p4-by p4-won p4_lost_lem goes_on
  by-ghost true q = refl
  by-ghost false q = refl

  pub p4-ghost : (p4-kept s i count taken v t b held h ok).ghost ≡ cond (eqb (T s) t.raw) (ticketed s.ghost i v t.raw) s.ghost
  unfolding p4 p4-kept
  p4-ghost = by-ghost (eqb (T s) t.raw) refl

  -- where it held, the ghost has the ticket's token and its thread
  pub p4_logged : T s ≡ t.raw → (p4-kept s i count taken v t b held h ok).ghost ≡ ticketed s.ghost i v t.raw
  p4_logged e = rw (eq-eqb (T s) t.raw e) at p4-ghost
