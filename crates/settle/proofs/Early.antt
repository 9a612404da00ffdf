-- What a step makes of a call, as far as early calls go: it leaves the early lines, or is nearer to leaving them, or was
-- past them before; and then it moves the tail or the head only if that waited at offset 63.
use Rattle.std.specs.Prelude.{Option, None, Some}
use Prim.Native.Nat.{ℕ, ◌+◌, ◌<◌}
use mathlib.Core.Path.{◌≡◌, refl, sym, ◌∙◌}
use mathlib.Core.Bool.{Bool, true, false, cond}
use mathlib.Core.List.{List}
use native.Mathlib.Omega.{arith}
use lib.Dec.{eqb, leb}
use borrow.Author.Tests.{eq-eqb, eqb-true}
use Rattle.memory.specs.Layout.{state, next, has}
use Rattle.memory.specs.Pool.{pick}
use Rattle.memory.specs.declared.Mark.TheVariants.{Write, Read, Destroy}
use Rattle.index.specs.Position.{position, lap, has_next}
use Rattle.index.specs.declared.Index.{Index}
use Rattle.state.specs.Move.{Move, Step}
use Rattle.state.specs.declared.Queue.{Queue}
use Rattle.state.specs.declared.Stepped.{Stepped}
use Rattle.state.specs.declared.Kind.{Kind}
use Rattle.state.specs.declared.Claim.{Claim}
use Rattle.state.specs.declared.Won.{Won}
use Rattle.state.specs.declared.PushLine.{PushLine}
use Rattle.state.specs.declared.PushLine.TheVariants.{P1, P2, P3, P4, P5, P6, P7, P8, P9, P10}
use Rattle.state.specs.declared.StealLine.{StealLine}
use Rattle.state.specs.declared.StealLine.TheVariants.{S1, S2, S3, S4, S5, S6, S7, S8, S9, S10, S11, S12, S13, S14}
use Rattle.state.specs.declared.LengthLine.{LengthLine}
use Rattle.state.specs.declared.LengthLine.TheVariants.{L1, L2, L3}
use Rattle.state.specs.declared.EmptyLine.{EmptyLine}
use Rattle.state.specs.declared.EmptyLine.TheVariants.{E1, E2}
use Rattle.state.specs.declared.Call.{Call}
use Rattle.state.specs.declared.Call.TheVariants.{Idle, Push, Steal, Length, Empty}
use Rattle.state.specs.declared.Thread.{Thread}
use Rattle.machine.specs.Push.{push, p2, p2_spent, p2_last, p3, p3_took, p4, p4_last, p9}
use Rattle.machine.specs.Steal.{steal, first, past, walk_below, s2, s3, s4, s5, s5_next, s9, s10, s11, s12, s13}
use Rattle.machine.specs.Count.{l3, e2}
use Rattle.machine.specs.Step.{step_at, step_of, is_idle}
use Rattle.invariant.specs.Ghost.{none, some}
use Rattle.invariant.specs.State.{State, off, T, H}
use Rattle.invariant.specs.Lines.{PushOk, StealOk, CallOk}
use Rattle.invariant.proofs.Facts.{cond_elim, clash, none-some}
use Rattle.settle.specs.Views.{links}
use Rattle.settle.specs.Early.{early_push, early_steal, is_early, at_tail, at_head, blocked, rank}

-- an early call that goes on early: nothing is moved, and if it is not blocked its rank falls
pub record Again (q : Queue) (c : Call) (q' : Queue) (c' : Call) : Type 0 where
  pub early : is_early c ≡ true
  pub still : is_early c' ≡ true
  pub queue : q' ≡ q
  pub tail : at_tail c' ≡ at_tail c
  pub head : at_head c' ≡ at_head c
  pub lower : blocked q c ≡ false → rank q.tail.raw c' < rank q.tail.raw c

-- a call past the early lines stays past them; tail and head move only from offset 63, and nobody new has a block to link
pub record Past (q : Queue) (c : Call) (q' : Queue) (c' : Call) : Type 0 where
  pub late : is_early c ≡ false
  pub stays : is_early c' ≡ false
  pub tail : (off q.tail.raw ≡ 63 → ⊥) → q'.tail.raw ≡ q.tail.raw
  pub head : (off q.head.raw ≡ 63 → ⊥) → q'.head.raw ≡ q.head.raw
  pub links : (n : ℕ) → links c' ≡ some n → links c ≡ some n

pub data Went (q : Queue) (c : Call) (q' : Queue) (c' : Call) : Type 0 where
  left : is_early c ≡ true → is_early c' ≡ false → Went q c q' c'
  again : Again q c q' c' → Went q c q' c'
  further : Past q c q' c' → Went q c q' c'

abbrev Goes : Queue → Call → Move → Type 0
Goes q c move = Went q c move.made.queue move.made.call

-- past the early lines, with the shared words and the links as they were
on-past : (q : Queue) (c c' : Call) → is_early c ≡ false → is_early c' ≡ false → links c' ≡ none → Went q c q c'
on-past q c c' e f l =
    further (record { late = e; stays = f; tail = λ n. refl; head = λ n. refl; links = λ n m. none-some n (sym l ∙ m) })

goes-again : (q : Queue) (c c' : Call) → is_early c ≡ true → is_early c' ≡ true → at_tail c' ≡ at_tail c → at_head c' ≡ at_head c
    → (blocked q c ≡ false → rank q.tail.raw c' < rank q.tail.raw c) → Went q c q c'
goes-again q c c' e f t h l = again (record { early = e; still = f; queue = refl; tail = t; head = h; lower = l })

cond-less : (b : Bool) (x y u v : ℕ) → x < u → y < v → cond b x y < cond b u v
cond-less true x y u v p q = p
cond-less false x y u v p q = q

-- ---- push

module _ (q : Queue) (m : List ℕ) (v : ℕ) where
  p2-went : (t : Index) (held : Option ℕ) → Goes q (Push (P2 v t held)) (p2 q v t held)
  unfolding p2
  p2-went t held =
      cond_elim (Goes q (Push (P2 v t held))) (eqb (off t.raw) 63) _ _
      (λ e. goes-again q (Push (P2 v t held)) (Push (P1 v held)) refl refl refl refl (λ b. from_first e b))
      (λ e.
      cond_elim (Goes q (Push (P2 v t held))) (leb q.ceiling (lap (position t.raw))) _ _ (λ f. spent held)
      (λ f.
      cond_elim (Goes q (Push (P2 v t held))) (eqb (off t.raw) 62) _ _ (λ g. last held)
      (λ g. goes-again q (Push (P2 v t held)) (Push (P4 v t q.tail_block held)) refl refl refl refl (λ b. cond-less (eqb q.tail.raw t.raw) 1 4 3 6 (omega arith) (omega arith)))))
    where
      from_first : eqb (off t.raw) 63 ≡ true → eqb (off q.tail.raw) 63 ≡ false → 4 < cond (eqb q.tail.raw t.raw) 3 6
      from_first e b =
          cond_elim (λ n. 4 < n) (eqb q.tail.raw t.raw) 3 6
          (λ f. let g : q.tail.raw ≡ t.raw = eqb-true _ _ f in clash (eqb (off t.raw) 63) e (rw g at b))
          (λ f. omega arith)

      spent : (x : Option ℕ) → Goes q (Push (P2 v t held)) (p2_spent q x)
      spent None = left refl refl
      spent (Some x) = left refl refl

      last : (x : Option ℕ) → Goes q (Push (P2 v t held)) (p2_last q v t x)
      last None = goes-again q (Push (P2 v t held)) (Push (P3 v t q.tail_block)) refl refl refl refl (λ b. cond-less (eqb q.tail.raw t.raw) 2 5 3 6 (omega arith) (omega arith))
      last (Some x) =
          goes-again q (Push (P2 v t held)) (Push (P4 v t q.tail_block (Some x))) refl refl refl refl (λ b. cond-less (eqb q.tail.raw t.raw) 1 4 3 6 (omega arith) (omega arith))

  p3-went : (t : Index) (b : ℕ) → Goes q (Push (P3 v t b)) (p3 q m v t b)
  unfolding p3
  p3-went t b = go (pick m q.blocks)
    where
      go : (x : Option ℕ) → Goes q (Push (P3 v t b)) (p3_took q v t b x)
      go None = left refl refl
      go (Some x) = goes-again q (Push (P3 v t b)) (Push (P4 v t b (Some x))) refl refl refl refl (λ e. cond-less (eqb q.tail.raw t.raw) 1 4 2 5 (omega arith) (omega arith))

  last-late : (t : Index) (b : ℕ) (held : Option ℕ) → early_push (p4_last v t b held) ≡ false
  last-late t b None = refl
  last-late t b (Some x) = refl

  p4-went : (t : Index) (b : ℕ) (held : Option ℕ) → Goes q (Push (P4 v t b held)) (p4 q v t b held)
  unfolding p4
  p4-went t b held =
      cond_elim (Goes q (Push (P4 v t b held))) (eqb q.tail.raw t.raw) _ _
      (λ e.
      left refl (cond_elim (λ (l : PushLine). early_push l ≡ false) (eqb (off t.raw) 62) (p4_last v t b held) (P8 v t b held) (λ f. last-late t b held) (λ f. refl)))
      (λ e.
      goes-again q (Push (P4 v t b held)) (Push (P2 v q.tail held)) refl refl refl refl
      (λ f. rw (e, eq-eqb q.tail.raw q.tail.raw refl) (omega arith)))

  p9-went : (t : Index) (b : ℕ) (held : Option ℕ) → Goes q (Push (P9 v t b held)) (p9 q m v t b held)
  unfolding p9
  p9-went t b None = on-past q (Push (P9 v t b None)) Idle refl refl refl
  p9-went t b (Some x) = on-past q (Push (P9 v t b (Some x))) (Push (P10 x false)) refl refl refl

module _ (s : State) (i : ℕ) where
  push-went : (line : PushLine) → PushOk s i line → Goes s.queue (Push line) (push s.queue s.pool line)
  push-went (P1 v held) p =
      goes-again s.queue (Push (P1 v held)) (Push (P2 v s.queue.tail held)) refl refl refl refl
      (λ b. rw (eq-eqb (T s) (T s) refl) (omega arith))
  push-went (P2 v t held) p = p2-went s.queue s.pool v t held
  push-went (P3 v t b) p = p3-went s.queue s.pool v t b
  push-went (P4 v t b held) p = p4-went s.queue s.pool v t b held
  push-went (P5 v t b x) p = further (record { late = refl; stays = refl; tail = λ n. refl; head = λ n. refl; links = λ n e. e })
  push-went (P6 v t b x) p =
      let e : T s ≡ t.raw + 2 = p.installs.tail in
      let o : off t.raw ≡ 62 = p.installs.last in
      further (record { late = refl; stays = refl; tail = λ n. absurd (n (omega arith)); head = λ n. refl; links = λ n e. e })
  push-went (P7 v t b x) p = on-past s.queue (Push (P7 v t b x)) (Push (P8 v t b None)) refl refl refl
  push-went (P8 v t b held) p = on-past s.queue (Push (P8 v t b held)) (Push (P9 v t b held)) refl refl refl
  push-went (P9 v t b held) p = p9-went s.queue s.pool v t b held
  push-went (P10 x spent) p = on-past s.queue (Push (P10 x spent)) Idle refl refl refl

-- ---- a thief

module _ (q : Queue) (m : List ℕ) where
  abbrev Takes : StealLine → Queue → StealLine → Type 0
  Takes line q' line' = Went q (Steal line) q' (Steal line')

  walk-late : (won : Won) (b slot : ℕ) → early_steal (walk_below won b slot) ≡ false
  walk-late won b slot = cond_elim (λ (l : StealLine). early_steal l ≡ false) (eqb slot 0) _ _ (λ e. refl) (λ e. refl)

  on-late : (line line' : StealLine) → early_steal line ≡ false → early_steal line' ≡ false → Takes line q line'
  on-late line line' e f = on-past q (Steal line) (Steal line') e f refl

  s2-went : (k : Kind) (h : Index) → Goes q (Steal (S2 k h)) (s2 q k h)
  unfolding s2
  s2-went k h =
      cond_elim (Goes q (Steal (S2 k h))) (eqb (off h.raw) 63) _ _
      (λ e. goes-again q (Steal (S2 k h)) (Steal (S1 k)) refl refl refl refl (λ b. rw e (omega arith)))
      (λ e.
      cond_elim (Goes q (Steal (S2 k h))) (has_next h.raw) _ _
      (λ f. goes-again q (Steal (S2 k h)) _ refl refl refl refl (λ b. rw e (omega arith)))
      (λ f. goes-again q (Steal (S2 k h)) _ refl refl refl refl (λ b. rw e (omega arith))))

  s3-went : (k : Kind) (h : Index) (b : ℕ) → Goes q (Steal (S3 k h b)) (s3 q k h b)
  unfolding s3
  s3-went k h b =
      cond_elim (Goes q (Steal (S3 k h b))) (eqb (position h.raw) (position q.tail.raw)) _ _
      (λ e. left refl refl)
      (λ e. goes-again q (Steal (S3 k h b)) _ refl refl refl refl (λ x. omega arith))

  s4-went : (k : Kind) (c : Claim) (more : Bool) → Goes q (Steal (S4 k c more)) (s4 q k c more)
  unfolding s4
  s4-went k c more =
      cond_elim (Goes q (Steal (S4 k c more))) (eqb q.head.raw c.head.raw) _ _
      (λ e. left refl (cond_elim (λ (l : StealLine). early_steal l ≡ false) (eqb (past c) 63) (S5 k c) (S9 k c (first c)) (λ f. refl) (λ f. refl)))
      (λ e. left refl refl)

  s5-went : (k : Kind) (c : Claim) → Goes q (Steal (S5 k c)) (s5 q m k c)
  unfolding s5
  s5-went k c = go (next m c.block)
    where
      go : (x : Option ℕ) → Goes q (Steal (S5 k c)) (s5_next q k c x)
      go None = on-late (S5 k c) (S5 k c) refl refl
      go (Some x) = on-late (S5 k c) (S6 k c x) refl refl

  s9-went : (k : Kind) (c : Claim) (slot : ℕ) → Goes q (Steal (S9 k c slot)) (s9 q m k c slot)
  unfolding s9
  s9-went k c slot =
      cond_elim (Goes q (Steal (S9 k c slot))) (has Write (state m c.block slot)) _ _
      (λ e. on-late (S9 k c slot) (S10 k c slot) refl refl)
      (λ e. on-late (S9 k c slot) (S9 k c slot) refl refl)

  reads-late : (won : Won) (c : Claim) → early_steal (Rattle.machine.specs.Steal.after_reads won c) ≡ false
  reads-late won c =
      cond_elim (λ (l : StealLine). early_steal l ≡ false) (eqb (past c) 63) _ _ (λ e. walk-late won c.block (first c)) (λ e. refl)

  s10-went : (t : Thread) (k : Kind) (c : Claim) (slot : ℕ)
      → Went q (Steal (S10 k c slot)) (s10 q m t k c slot).queue (s10 q m t k c slot).thread.call
  unfolding s10
  s10-went t k c slot =
      cond_elim (λ (x : Stepped). Went q (Steal (S10 k c slot)) x.queue x.thread.call) (eqb (slot + 1) (past c)) _ _
      (λ e. on-late (S10 k c slot) _ refl (reads-late _ c))
      (λ e. on-late (S10 k c slot) (S9 k c (slot + 1)) refl refl)

  s11-went : (won : Won) (c : Claim) (slot : ℕ) → Goes q (Steal (S11 won c slot)) (s11 q m won c slot)
  unfolding s11
  s11-went won c slot =
      cond_elim (Goes q (Steal (S11 won c slot))) (has Destroy (state m c.block slot)) _ _
      (λ e. on-late (S11 won c slot) _ refl (walk-late won c.block (first c)))
      (λ e.
      cond_elim (Goes q (Steal (S11 won c slot))) (eqb (slot + 1) (past c)) _ _
      (λ f. on-past q (Steal (S11 won c slot)) Idle refl refl refl)
      (λ f. on-late (S11 won c slot) (S11 won c (slot + 1)) refl refl))

  s12-went : (won : Won) (b slot : ℕ) → Goes q (Steal (S12 won b slot)) (s12 q m won b slot)
  unfolding s12
  s12-went won b slot =
      cond_elim (Goes q (Steal (S12 won b slot))) (has Read (state m b slot)) _ _
      (λ e. on-late (S12 won b slot) _ refl (walk-late won b slot))
      (λ e. on-late (S12 won b slot) (S13 won b slot) refl refl)

  s13-went : (won : Won) (b slot : ℕ) → Goes q (Steal (S13 won b slot)) (s13 q m won b slot)
  unfolding s13
  s13-went won b slot =
      cond_elim (Goes q (Steal (S13 won b slot))) (has Read (state m b slot)) _ _
      (λ e. on-late (S13 won b slot) _ refl (walk-late won b slot))
      (λ e. on-past q (Steal (S13 won b slot)) Idle refl refl refl)

module _ (s : State) (i : ℕ) (t : Thread) where
  abbrev Steps : Call → Step → Type 0
  Steps c step = Went s.queue c step.stepped.queue step.stepped.thread.call

  steal-went : (line : StealLine) → StealOk s i t.ring.count t.taken line → Steps (Steal line) (steal s.queue s.pool t line)
  steal-went (S1 k) p =
      goes-again s.queue (Steal (S1 k)) (Steal (S2 k s.queue.head)) refl refl refl refl
      (λ (b : eqb (off (H s)) 63 ≡ false). rw b (omega arith))
  steal-went (S2 k h) p = s2-went s.queue s.pool k h
  steal-went (S3 k h b) p = s3-went s.queue s.pool k h b
  steal-went (S4 k c more) p = s4-went s.queue s.pool k c more
  steal-went (S5 k c) p = s5-went s.queue s.pool k c
  steal-went (S6 k c x) p = on-late s.queue s.pool (S6 k c x) (S7 k c x _) refl refl
  steal-went (S7 k c x more) p = further (record { late = refl; stays = refl; tail = λ n. refl; head = λ n. refl; links = λ n e. none-some n e })
  steal-went (S8 k c more) p =
      let e : position (H s) ≡ position c.head.raw + c.advance = p.leaves.head in
      let o : off c.head.raw + c.advance ≡ 63 = p.leaves.ended in
      further (record { late = refl; stays = refl; tail = λ n. refl; head = λ n. absurd (n (omega arith)); links = λ n e. none-some n e })
  steal-went (S9 k c slot) p = s9-went s.queue s.pool k c slot
  steal-went (S10 k c slot) p = s10-went s.queue s.pool t k c slot
  steal-went (S11 won c slot) p = s11-went s.queue s.pool won c slot
  steal-went (S12 won b slot) p = s12-went s.queue s.pool won b slot
  steal-went (S13 won b slot) p = s13-went s.queue s.pool won b slot
  steal-went (S14 won b) p = on-past s.queue (Steal (S14 won b)) Idle refl refl refl

  -- ---- length and empty

  length-went : (line : LengthLine) → Goes s.queue (Length line) (Rattle.machine.specs.Count.length s.queue line)
  unfolding l3
  length-went L1 =
      goes-again s.queue (Length L1) (Length (L2 s.queue.tail)) refl refl refl refl
      (λ b. rw (eq-eqb (T s) (T s) refl) (omega arith))
  length-went (L2 u) = goes-again s.queue (Length (L2 u)) (Length (L3 u s.queue.head)) refl refl refl refl (λ b. cond-less (eqb (T s) u.raw) 1 4 2 5 (omega arith) (omega arith))
  length-went (L3 u h) =
      cond_elim (Goes s.queue (Length (L3 u h))) (eqb (T s) u.raw) _ _
      (λ e. left refl refl)
      (λ e. goes-again s.queue (Length (L3 u h)) (Length L1) refl refl refl refl (λ b. rw e (omega arith)))

  empty-went : (line : EmptyLine) → Goes s.queue (Empty line) (Rattle.machine.specs.Count.empty s.queue line)
  unfolding e2
  empty-went E1 = goes-again s.queue (Empty E1) (Empty (E2 s.queue.head)) refl refl refl refl (λ b. omega arith)
  empty-went (E2 h) = cond_elim (Goes s.queue (Empty (E2 h))) (eqb (position h.raw) (position (T s))) _ _ (λ e. left refl refl) (λ e. left refl refl)

  call-went : (call : Call) → is_idle call ≡ false → CallOk s i t.ring.count t.taken call → Steps call (step_at s.queue s.pool t call)
  call-went Idle e p = clash true refl e
  call-went (Push line) e p = push-went s i line p
  call-went (Steal line) e p = steal-went line p
  call-went (Length line) e p = length-went line
  call-went (Empty line) e p = empty-went line

  pub went : is_idle t.call ≡ false → CallOk s i t.ring.count t.taken t.call → Steps t.call (step_of s.queue s.pool t)
  unfolding step_of
  went e p = call-went t.call e p
