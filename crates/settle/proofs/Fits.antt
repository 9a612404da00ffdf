-- No step changes the counts that setup was given, and no entry the number of records.
use Rattle.std.specs.Prelude.{Option, None, Some, Result, Ok, Err}
use Rattle.state.specs.declared.Refusal.{Refusal}
use Prim.Native.Nat.{ℕ, zero, suc, ◌+◌}
use mathlib.Core.Path.{◌≡◌, refl, ◌∙◌}
use mathlib.Core.Bool.{Bool, true, false, cond}
use mathlib.Core.List.{List, [], ◌∷◌}
use lib.ListN.{length, set, length-set, length-map}
use lib.Dec.{eqb, leb}
use Rattle.index.specs.Position.{position, lap, offset, has_next}
use Rattle.index.specs.declared.Index.{Index}
use Rattle.memory.specs.Layout.{state, next, has}
use Rattle.memory.specs.Touch.{Touch}
use Rattle.memory.specs.Pool.{pick}
use Rattle.memory.specs.declared.Mark.TheVariants.{Write, Read, Destroy}
use Rattle.ring.specs.declared.Flavor.{Flavor}
use Rattle.state.specs.List.{counts_good, state_good}
use Rattle.state.specs.Move.{Move, Step}
use Rattle.state.specs.declared.Queue.{Queue}
use Rattle.state.specs.declared.Kind.{Kind}
use Rattle.state.specs.declared.Claim.{Claim}
use Rattle.state.specs.declared.PushLine.{PushLine}
use Rattle.state.specs.declared.PushLine.TheVariants.{P1, P2, P3, P4, P5, P6, P7, P8, P9, P10}
use Rattle.state.specs.declared.StealLine.{StealLine}
use Rattle.state.specs.declared.StealLine.TheVariants.{S1, S2, S3, S4, S5, S6, S7, S8, S9, S10, S11, S12, S13, S14}
use Rattle.state.specs.declared.LengthLine.{LengthLine}
use Rattle.state.specs.declared.LengthLine.TheVariants.{L1, L2, L3}
use Rattle.state.specs.declared.EmptyLine.{EmptyLine}
use Rattle.state.specs.declared.EmptyLine.TheVariants.{E1, E2}
use Rattle.state.specs.declared.Call.{Call}
use Rattle.state.specs.declared.Call.TheVariants.{Idle, Push, Steal, Length, Empty}
use Rattle.state.specs.declared.Thread.{Thread}
use Rattle.state.specs.declared.Stepped.{Stepped}
use Rattle.machine.specs.Push.{push, p2, p2_spent, p2_last, p3, p3_took, p4, p9, p9_ends}
use Rattle.machine.specs.Steal.{steal, s2, s3, s4, s5, s5_next, s9, s10, s11, s12, s13, past}
use Rattle.machine.specs.Count.{l3, e2}
use Rattle.machine.specs.Step.{After, step_at, step_of, once, counted, run_from, is_idle, is_open}
use Rattle.machine.specs.Entry.{idle_thread, tested, step_tested, step_entry, run_tested, run_entry}
use Rattle.history.specs.Board.{Board, Ask, begins, pops, steps, runs, start, thread_at, asked}
use Rattle.history.specs.History.{board}
use Rattle.invariant.proofs.Facts.{cond_elim}
use Rattle.settle.specs.Rounds.{step_all, after}
use Rattle.settle.proofs.Moves.{Fit}

-- the counts of two queues are the same
pub record Same (q r : Queue) : Type 0 where
  pub threads : r.threads ≡ q.threads
  pub blocks : r.blocks ≡ q.blocks
  pub ceiling : r.ceiling ≡ q.ceiling

same_queue : (q : Queue) → Same q q
same_queue q = record { threads = refl; blocks = refl; ceiling = refl }

module _ (q : Queue) (m : List ℕ) where
  abbrev Keeps : Move → Type 0
  Keeps move = Same q move.made.queue

  spent : (held : Option ℕ) → Keeps (p2_spent q held)
  spent None = same_queue q
  spent (Some x) = same_queue q

  last : (v : ℕ) (t : Index) (held : Option ℕ) → Keeps (p2_last q v t held)
  last v t None = same_queue q
  last v t (Some x) = same_queue q

  took : (v : ℕ) (t : Index) (b : ℕ) (x : Option ℕ) → Keeps (p3_took q v t b x)
  took v t b None = same_queue q
  took v t b (Some x) = same_queue q

  ended : (held : Option ℕ) (touch : Touch) → Keeps (p9_ends q held touch)
  ended None touch = same_queue q
  ended (Some x) touch = same_queue q

  push-same : (line : PushLine) → Keeps (push q m line)
  unfolding p2 p3 p4 p9
  push-same (P1 v held) = same_queue q
  push-same (P2 v t held) =
      cond_elim Keeps (eqb (offset (position t.raw)) 63) _ _
      (λ e. same_queue q)
      (λ e.
      cond_elim Keeps (leb q.ceiling (lap (position t.raw))) _ _
      (λ f. spent held)
      (λ f. cond_elim Keeps (eqb (offset (position t.raw)) 62) _ _ (λ g. last v t held) (λ g. same_queue q)))
  push-same (P3 v t b) = took v t b (pick m q.blocks)
  push-same (P4 v t b held) =
      cond_elim Keeps (eqb q.tail.raw t.raw) _ _
      (λ e. record { threads = refl; blocks = refl; ceiling = refl })
      (λ e. same_queue q)
  push-same (P5 v t b x) = record { threads = refl; blocks = refl; ceiling = refl }
  push-same (P6 v t b x) = record { threads = refl; blocks = refl; ceiling = refl }
  push-same (P7 v t b x) = same_queue q
  push-same (P8 v t b held) = same_queue q
  push-same (P9 v t b held) = ended held _
  push-same (P10 x spent) = same_queue q

  length-same : (line : LengthLine) → Keeps (Rattle.machine.specs.Count.length q line)
  unfolding l3
  length-same L1 = same_queue q
  length-same (L2 t) = same_queue q
  length-same (L3 t h) = cond_elim Keeps (eqb q.tail.raw t.raw) _ _ (λ e. same_queue q) (λ e. same_queue q)

  empty-same : (line : EmptyLine) → Keeps (Rattle.machine.specs.Count.empty q line)
  unfolding e2
  empty-same E1 = same_queue q
  empty-same (E2 h) =
      cond_elim Keeps (eqb (position h.raw) (position q.tail.raw)) _ _ (λ e. same_queue q) (λ e. same_queue q)

  linked : (k : Kind) (c : Claim) (x : Option ℕ) → Keeps (s5_next q k c x)
  linked k c None = same_queue q
  linked k c (Some x) = same_queue q

  module _ (t : Thread) where
    abbrev Leaves : Step → Type 0
    Leaves step = Same q step.stepped.queue

    steal-same : (line : StealLine) → Leaves (steal q m t line)
    unfolding s2 s3 s4 s5 s9 s10 s11 s12 s13
    steal-same (S1 k) = same_queue q
    steal-same (S2 k h) =
        cond_elim Keeps (eqb (offset (position h.raw)) 63) _ _
        (λ e. same_queue q)
        (λ e. cond_elim Keeps (has_next h.raw) _ _ (λ f. same_queue q) (λ f. same_queue q))
    steal-same (S3 k h b) =
        cond_elim Keeps (eqb (position h.raw) (position q.tail.raw)) _ _ (λ e. same_queue q) (λ e. same_queue q)
    steal-same (S4 k c more) =
        cond_elim Keeps (eqb q.head.raw c.head.raw) _ _
        (λ e. record { threads = refl; blocks = refl; ceiling = refl })
        (λ e. same_queue q)
    steal-same (S5 k c) = linked k c (next m c.block)
    steal-same (S6 k c x) = same_queue q
    steal-same (S7 k c x more) = record { threads = refl; blocks = refl; ceiling = refl }
    steal-same (S8 k c more) = record { threads = refl; blocks = refl; ceiling = refl }
    steal-same (S9 k c slot) = cond_elim Keeps (has Write (state m c.block slot)) _ _ (λ e. same_queue q) (λ e. same_queue q)
    steal-same (S10 k c slot) =
        cond_elim (λ (s : Stepped). Same q s.queue) (eqb (slot + 1) (past c)) _ _ (λ e. same_queue q) (λ e. same_queue q)
    steal-same (S11 won c slot) =
        cond_elim Keeps (has Destroy (state m c.block slot)) _ _
        (λ e. same_queue q)
        (λ e. cond_elim Keeps (eqb (slot + 1) (past c)) _ _ (λ f. same_queue q) (λ f. same_queue q))
    steal-same (S12 won b w) = cond_elim Keeps (has Read (state m b w)) _ _ (λ e. same_queue q) (λ e. same_queue q)
    steal-same (S13 won b w) = cond_elim Keeps (has Read (state m b w)) _ _ (λ e. same_queue q) (λ e. same_queue q)
    steal-same (S14 won b) = same_queue q

    call_same : (call : Call) → Leaves (step_at q m t call)
    call_same Idle = same_queue q
    call_same (Push line) = push-same line
    call_same (Steal line) = steal-same line
    call_same (Length line) = length-same line
    call_same (Empty line) = empty-same line

    pub step_same : Leaves (step_of q m t)
    unfolding step_of
    step_same = call_same t.call

then_same : (p q r : Queue) → Same p q → Same q r → Same p r
then_same p q r a b =
    record { threads = b.threads ∙ a.threads; blocks = b.blocks ∙ a.blocks; ceiling = b.ceiling ∙ a.ceiling }

run-same : (budget : ℕ) (q : Queue) (m : List ℕ) (t : Thread) → Same q (run_from budget q m t).ran.queue
unfolding run_from
run-same zero q m t = same_queue q
run-same (suc budget) q m t =
    go (run_from budget (step_of q m t).stepped.queue (Rattle.memory.specs.Touch.after m (step_of q m t).touch) (step_of q m t).stepped.thread)
    (run-same budget (step_of q m t).stepped.queue (Rattle.memory.specs.Touch.after m (step_of q m t).touch) (step_of q m t).stepped.thread)
    (is_open (step_of q m t).stepped.answer)
    (state_good (step_of q m t).stepped.queue (Rattle.memory.specs.Touch.after m (step_of q m t).touch) (step_of q m t).stepped.thread)
  where
    go : (a : After) → Same (step_of q m t).stepped.queue a.ran.queue → (b d : Bool)
        → Same q (cond b (cond d (counted a) (once m (step_of q m t))) (once m (step_of q m t))).ran.queue
    go a s true true = then_same _ _ _ (step_same q m t) s
    go a s true false = step_same q m t
    go a s false d = step_same q m t

-- ---- the board

module _ (w : Board) (f : Fit w) where
  fit_with : (q : Queue) (m : List ℕ) (n : ℕ) (t : Thread) → Same w.queue q → Fit (record { queue = q; pool = m; threads = set w.threads n t })
  fit_with q m n t s =
      record {
        counts = rw (s.threads, s.blocks, s.ceiling) f.counts;
        records = rw (length-set w.threads n t, s.threads) f.records;
      }

  stepped_same : (n : ℕ) (r : Result Unit Refusal) → Same w.queue (step_tested w.queue w.pool (thread_at w n) r).ran.queue
  stepped_same n (Err r) = same_queue w.queue
  stepped_same n (Ok tt) =
      cond_elim (λ (a : After). Same w.queue a.ran.queue) (is_idle (thread_at w n).call) _ _
      (λ e. same_queue w.queue)
      (λ e. step_same w.queue w.pool (thread_at w n))

  ran-same : (n budget : ℕ) (r : Result Unit Refusal) → Same w.queue (run_tested w.queue w.pool (thread_at w n) budget r).ran.queue
  ran-same n budget (Err r) = same_queue w.queue
  ran-same n budget (Ok tt) =
      cond_elim (λ (a : After). Same w.queue a.ran.queue) (is_idle (thread_at w n).call) _ _
      (λ e. same_queue w.queue)
      (λ e. run-same budget w.queue w.pool (thread_at w n))

  pub fit_ask : (ask : Ask) → Fit (asked w ask)
  unfolding step_entry run_entry
  fit_ask (begins n what) = fit_with w.queue w.pool n _ (same_queue w.queue)
  fit_ask (pops n) = fit_with w.queue w.pool n _ (same_queue w.queue)
  fit_ask (steps n) = fit_with _ _ n _ (stepped_same n (tested w.queue w.pool (thread_at w n) n))
  fit_ask (runs n budget) = fit_with _ _ n _ (ran-same n budget (tested w.queue w.pool (thread_at w n) n))

pub fit_all : (w : Board) (order : List ℕ) → Fit w → Fit (step_all w order)
fit_all w [] f = f
fit_all w (n ∷ order) f = fit_all (asked w (steps n)) order (fit_ask w f (steps n))

pub fit-after : (w : Board) (rounds : List (List ℕ)) → Fit w → Fit (after w rounds)
fit-after w [] f = f
fit-after w (order ∷ rounds) f = fit-after (step_all w order) rounds (fit_all w order f)

pub fit : (flavors : List Flavor) (blocks ceiling : ℕ) → counts_good (length flavors) blocks ceiling ≡ true → (asks : List Ask)
    → Fit (board (start flavors blocks ceiling) asks)
fit flavors blocks ceiling good [] = record { counts = good; records = length-map flavors idle_thread }
fit flavors blocks ceiling good (ask ∷ before) = fit_ask (board (start flavors blocks ceiling) before) (fit flavors blocks ceiling good before) ask
