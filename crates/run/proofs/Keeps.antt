-- What a step from a good record leaves as it is: the counts that the queue was set up with, the length of the lent
-- words, and that every next is good. So a run need not look at the pool again after each of its steps.
use Rattle.std.specs.Prelude.{Option, None, Some}
use Prim.Native.Nat.{ℕ, zero, suc, ◌+◌, ◌*◌, ◌-◌, ◌<◌, ◌≤◌}
use mathlib.Core.Path.{◌≡◌, refl, sym, ap, subst}
use mathlib.Core.Bool.{Bool, true, false, cond, ◌&&◌}
use mathlib.Core.List.{List}
use native.Mathlib.Omega.{arith}
use native.Mathlib.Decide.{ℕ_discrete}
use borrow.Author.Tests.{ltb-true, lt-ltb, eqb-true}
use lib.ListN.{length, set}
use lib.Dec.{ltb, leb, eqb}
use Rattle.index.specs.Position.{position, lap, offset, has_next}
use Rattle.index.specs.declared.Index.{Index}
use Rattle.memory.specs.Layout.{next, token, state, has}
use Rattle.memory.specs.Touch.{Touch, leaves, writes_token, writes_state, links, frees, clears, after}
use Rattle.memory.specs.Pool.{pool_len, pick}
use Rattle.memory.specs.Laws.{Room, length-after, next-linked, next-cleared}
use Rattle.memory.proofs.Apart.{next-writes_token, next-writes_state, next-links, next-frees, next-clears}
use Rattle.memory.specs.declared.Mark.TheVariants.{Write, Read, Destroy}
use Rattle.state.specs.Move.{Move}
use Rattle.state.specs.List.{counts_good, setup_good, block_good, held_good, next_good, nexts_good, slot_good, push_good, claim_good, in_claim, steal_good, call_good, record_good}
use Rattle.state.specs.ListLaws.{both, slot, claim, in_claim_lem, next-p7}
use Rattle.state.specs.declared.Queue.{Queue}
use Rattle.state.specs.declared.Kind.{Kind}
use Rattle.state.specs.declared.Claim.{Claim}
use Rattle.state.specs.declared.PushLine.{PushLine}
use Rattle.state.specs.declared.PushLine.TheVariants.{P1, P2, P3, P4, P5, P6, P7, P8, P9, P10}
use Rattle.state.specs.declared.StealLine.{StealLine}
use Rattle.state.specs.declared.StealLine.TheVariants.{S1, S2, S3, S4, S5, S6, S7, S8, S9, S10, S11, S12, S13, S14}
use Rattle.state.specs.declared.LengthLine.{LengthLine}
use Rattle.state.specs.declared.LengthLine.TheVariants.{L1, L2, L3}
use Rattle.state.specs.declared.EmptyLine.{EmptyLine}
use Rattle.state.specs.declared.EmptyLine.TheVariants.{E1, E2}
use Rattle.state.specs.declared.Call.{Call}
use Rattle.state.specs.declared.Call.TheVariants.{Idle, Push, Steal, Length, Empty}
use Rattle.state.specs.declared.Answer.{Answer}
use Rattle.state.specs.declared.Won.{Won}
use Rattle.state.specs.declared.Thread.{Thread}
use Rattle.state.specs.declared.Stepped.{Stepped}
use Rattle.machine.specs.Push.{push, p2, p2_spent, p2_last, p3, p3_took, p4, p9, p9_ends}
use Rattle.machine.specs.Steal.{steal, first, past, s2, s3, s4, s5, s5_next, s9, s10, handed_over, read_on, s11, s12, s13}
use Rattle.machine.specs.Count.{empty, l3, e2}
use Rattle.machine.specs.Step.{step_at, step_of}

pub both_true : (a b : Bool) → a ≡ true → b ≡ true → (a && b) ≡ true
both_true true b e f = f
both_true false b e f = e

-- ---- the nexts after a touch

-- A touch that breaks no next of n blocks: it stays within the slots, and links one of them.
abbrev Mild : ℕ → Touch → Type 0
Mild n leaves = Unit
Mild n (writes_token b s v) = s < 63
Mild n (writes_state b s w) = s < 63
Mild n (links b x) = x < n
Mild n (frees b) = Unit
Mild n (clears b) = Unit

module _ (m : List ℕ) (n b : ℕ) where
  -- a next that is as good as another
  like : (x y : Option ℕ) → x ≡ y → next_good n y ≡ true → next_good n x ≡ true
  like x y e g = subst (λ (k : Option ℕ). next_good n k ≡ true) (sym e) g

  links-good : (a x : ℕ) → Dec (b ≡ a) → x < n → Room m b → next_good n (next m b) ≡ true → next_good n (next (after m (links a x)) b) ≡ true
  links-good a x (yes e) h r g =
      like (next (after m (links a x)) b) (Some x)
      (subst (λ (k : ℕ). next (after m (links k x)) b ≡ Some x) e (next-linked m b x r))
      (lt-ltb x n h)
  links-good a x (no d) h r g = like (next (after m (links a x)) b) (next m b) (next-links m a x b d) g

  clears-good : (a : ℕ) → Dec (b ≡ a) → next_good n (next m b) ≡ true → next_good n (next (after m (clears a)) b) ≡ true
  clears-good a (yes e) g =
      like (next (after m (clears a)) b) None
      (subst (λ (k : ℕ). next (after m (clears k)) b ≡ None) e (next-cleared m b))
      refl
  clears-good a (no d) g = like (next (after m (clears a)) b) (next m b) (next-clears m a b d) g

  next-after : (t : Touch) → Mild n t → Room m b → next_good n (next m b) ≡ true → next_good n (next (after m t) b) ≡ true
  next-after leaves h r g = g
  next-after (writes_token a s v) h r g = like (next (after m (writes_token a s v)) b) (next m b) (next-writes_token m a s v b h) g
  next-after (writes_state a s w) h r g = like (next (after m (writes_state a s w)) b) (next m b) (next-writes_state m a s w b h) g
  next-after (links a x) h r g = links-good a x (ℕ_discrete b a) h r g
  next-after (frees a) h r g = like (next (after m (frees a)) b) (next m b) (next-frees m a b) g
  next-after (clears a) h r g = clears-good a (ℕ_discrete b a) g

nexts-after : (m : List ℕ) (n : ℕ) (t : Touch) → Mild n t → length m ≡ n * 128 → (k : ℕ) → k ≤ n → nexts_good m n k ≡ true → nexts_good (after m t) n k ≡ true
unfolding nexts_good
nexts-after m n t h l zero i g = refl
nexts-after m n t h l (suc k) i g =
    let s = both (next_good n (next m k)) (nexts_good m n k) g in
    both_true (next_good n (next (after m t) k)) (nexts_good (after m t) n k)
    (next-after m n k t h (omega arith) s.0)
    (nexts-after m n t h l k (omega arith) s.1)

-- ---- what a line changes

-- what a queue was set up with
abbrev counts : Queue → ℕ × ℕ × ℕ
counts q = (q.threads, q.blocks, q.ceiling)

-- those counts stay, and the touch is mild
record Tame (q r : Queue) (t : Touch) : Type 0 where
  same : counts r ≡ counts q
  mild : Mild q.blocks t

record TameMove (q : Queue) (x : Move) : Type 0 where
  tame : Tame q x.made.queue x.touch

either : (q : Queue) (b : Bool) (x y : Move) → TameMove q x → TameMove q y → TameMove q (cond b x y)
either q true x y f g = f
either q false x y f g = g

either-stepped : (q : Queue) (b : Bool) (x y : Stepped) → x.queue ≡ q → y.queue ≡ q → (cond b x y).queue ≡ q
either-stepped q true x y f g = f
either-stepped q false x y f g = g

module _ (q : Queue) where
  -- a line that changes no shared word
  only : {call : Call} {answer : Answer} (t : Touch) → Mild q.blocks t → TameMove q (record { made = record { queue = q; call = call; answer = answer }; touch = t })
  only t h = record { tame = record { same = refl; mild = h } }

  plain : {call : Call} {answer : Answer} → TameMove q (record { made = record { queue = q; call = call; answer = answer }; touch = leaves })
  plain = only leaves tt

  spent-tame : (held : Option ℕ) → TameMove q (p2_spent q held)
  spent-tame None = plain
  spent-tame (Some x) = plain

  last-tame : (token : ℕ) (t : Index) (held : Option ℕ) → TameMove q (p2_last q token t held)
  last-tame token t None = plain
  last-tame token t (Some x) = plain

  took-tame : (token : ℕ) (t : Index) (b : ℕ) (picked : Option ℕ) → TameMove q (p3_took q token t b picked)
  took-tame token t b None = plain
  took-tame token t b (Some x) = only (clears x) tt

  ends-tame : (held : Option ℕ) (touch : Touch) → Mild q.blocks touch → TameMove q (p9_ends q held touch)
  ends-tame None touch h = only touch h
  ends-tame (Some x) touch h = only touch h

  inside : (t : Index) (b : ℕ) (held : Option ℕ) → (slot_good q t && block_good q b && held_good q held) ≡ true → offset (position t.raw) < 63
  inside t b held e = (slot q t (both (slot_good q t) (block_good q b) (both (slot_good q t && block_good q b) (held_good q held) e).0).0).inside

  push-tame : (m : List ℕ) (line : PushLine) → push_good q line ≡ true → TameMove q (push q m line)
  unfolding push_good p2 p3 p4 p9
  push-tame m (P1 token held) e = plain
  push-tame m (P2 token t held) e =
      either q (eqb (offset (position t.raw)) 63) _ _ plain
      (either q (leb q.ceiling (lap (position t.raw))) _ _ (spent-tame held)
      (either q (eqb (offset (position t.raw)) 62) _ _ (last-tame token t held) plain))
  push-tame m (P3 token t b) e = took-tame token t b (pick m q.blocks)
  push-tame m (P4 token t b held) e = either q (eqb q.tail.raw t.raw) _ _ (record { tame = record { same = refl; mild = tt } }) plain
  push-tame m (P5 token t b x) e = record { tame = record { same = refl; mild = tt } }
  push-tame m (P6 token t b x) e = record { tame = record { same = refl; mild = tt } }
  push-tame m (P7 token t b x) e = only (links b x) (next-p7 q token t b x e)
  push-tame m (P8 token t b held) e = only _ (inside t b held e)
  push-tame m (P9 token t b held) e = ends-tame held _ (inside t b held e)
  push-tame m (P10 x spent) e = only (frees x) tt

  next-tame : (k : Kind) (c : Claim) (x : Option ℕ) → TameMove q (s5_next q k c x)
  next-tame k c None = plain
  next-tame k c (Some x) = plain

  s2-tame : (k : Kind) (h : Index) → TameMove q (s2 q k h)
  unfolding s2
  s2-tame k h = either q (eqb (offset (position h.raw)) 63) _ _ plain (either q (has_next h.raw) _ _ plain plain)

  s3-tame : (k : Kind) (h : Index) (b : ℕ) → TameMove q (s3 q k h b)
  unfolding s3
  s3-tame k h b = either q (eqb (position h.raw) (position q.tail.raw)) _ _ plain plain

  s4-tame : (k : Kind) (c : Claim) (more : Bool) → TameMove q (s4 q k c more)
  unfolding s4
  s4-tame k c more = either q (eqb q.head.raw c.head.raw) _ _ (record { tame = record { same = refl; mild = tt } }) plain

  s9-tame : (m : List ℕ) (k : Kind) (c : Claim) (slot : ℕ) → TameMove q (s9 q m k c slot)
  unfolding s9
  s9-tame m k c slot = either q (has Write (state m c.block slot)) _ _ plain plain

  s11-tame : (m : List ℕ) (won : Won) (c : Claim) (slot : ℕ) → slot < 63 → TameMove q (s11 q m won c slot)
  unfolding s11
  s11-tame m won c slot h = either q (has Destroy (state m c.block slot)) _ _ (only _ h) (either q (eqb (slot + 1) (past c)) _ _ (only _ h) (only _ h))

  s12-tame : (m : List ℕ) (won : Won) (b slot : ℕ) → TameMove q (s12 q m won b slot)
  unfolding s12
  s12-tame m won b slot = either q (has Read (state m b slot)) _ _ plain plain

  s13-tame : (m : List ℕ) (won : Won) (b slot : ℕ) → slot < 63 → TameMove q (s13 q m won b slot)
  unfolding s13
  s13-tame m won b slot h = either q (has Read (state m b slot)) _ _ (only _ h) (only _ h)

  claimed-slot : (c : Claim) (s : ℕ) → (claim_good q c && in_claim c s) ≡ true → s < 63
  claimed-slot c s e =
      let b = both (claim_good q c) (in_claim c s) e in
      let k = claim q c b.0 in
      let i = in_claim_lem c s b.1 in
      omega arith

  walked-slot : (b s : ℕ) → (block_good q b && ltb s 63) ≡ true → s < 63
  walked-slot b s e = ltb-true s 63 (both (block_good q b) (ltb s 63) e).1

  read-tame : (m : List ℕ) (t : Thread) (k : Kind) (c : Claim) (slot : ℕ) → (s10 q m t k c slot).queue ≡ q
  unfolding s10
  read-tame m t k c slot =
      let taken = set t.taken (slot - first c) (token m c.block slot) in
      either-stepped q (eqb (slot + 1) (past c)) (handed_over q t taken k c) (read_on q t taken k c slot) refl refl

  steal-tame : (m : List ℕ) (t : Thread) (line : StealLine) → steal_good q t.ring.count line ≡ true → Tame q (steal q m t line).stepped.queue (steal q m t line).touch
  unfolding steal_good s2 s3 s4 s5 s9 s11 s12 s13
  steal-tame m t (S1 k) e = record { same = refl; mild = tt }
  steal-tame m t (S2 k h) e = (s2-tame k h).tame
  steal-tame m t (S3 k h b) e = (s3-tame k h b).tame
  steal-tame m t (S4 k c more) e = (s4-tame k c more).tame
  steal-tame m t (S5 k c) e = (next-tame k c (next m c.block)).tame
  steal-tame m t (S6 k c x) e = record { same = refl; mild = tt }
  steal-tame m t (S7 k c x more) e = record { same = refl; mild = tt }
  steal-tame m t (S8 k c more) e = record { same = refl; mild = tt }
  steal-tame m t (S9 k c slot) e = (s9-tame m k c slot).tame
  steal-tame m t (S10 k c slot) e =
      record { same = ap counts (read-tame m t k c slot); mild = tt }
  steal-tame m t (S11 won c slot) e = (s11-tame m won c slot (claimed-slot c slot e)).tame
  steal-tame m t (S12 won b slot) e = (s12-tame m won b slot).tame
  steal-tame m t (S13 won b slot) e = (s13-tame m won b slot (walked-slot b slot e)).tame
  steal-tame m t (S14 won b) e = record { same = refl; mild = tt }

  length-tame : (line : LengthLine) → TameMove q (Rattle.machine.specs.Count.length q line)
  unfolding l3
  length-tame L1 = plain
  length-tame (L2 t) = plain
  length-tame (L3 t h) = either q (eqb q.tail.raw t.raw) _ _ plain plain

  empty-tame : (line : EmptyLine) → TameMove q (empty q line)
  unfolding e2
  empty-tame E1 = plain
  empty-tame (E2 h) = either q (eqb (position h.raw) (position q.tail.raw)) _ _ plain plain

  call-tame : (m : List ℕ) (t : Thread) (call : Call) → call_good q t.ring.count call ≡ true → Tame q (step_at q m t call).stepped.queue (step_at q m t call).touch
  call-tame m t Idle e = record { same = refl; mild = tt }
  call-tame m t (Push line) e = (push-tame m line e).tame
  call-tame m t (Steal line) e = steal-tame m t line e
  call-tame m t (Length line) e = (length-tame line).tame
  call-tame m t (Empty line) e = (empty-tame line).tame

-- ---- what a step leaves

step-tame : (q : Queue) (m : List ℕ) (t : Thread) → record_good q t ≡ true → Tame q (step_of q m t).stepped.queue (step_of q m t).touch
unfolding step_of record_good
step-tame q m t e = call-tame q m t t.call (both (leb t.ring.count 64) (call_good q t.ring.count t.call) e).1

-- the lent words of a setup are 128 a block
setup-length : (q : Queue) (len : ℕ) → setup_good q len ≡ true → len ≡ q.blocks * 128
unfolding setup_good
setup-length q len e =
    eqb-true len (q.blocks * 128)
    (both (counts_good q.threads q.blocks q.ceiling) (eqb len (pool_len q.threads q.blocks)) e).1

setup-like : (q r : Queue) (len l : ℕ) → counts r ≡ counts q → l ≡ len → setup_good q len ≡ true → setup_good r l ≡ true
unfolding setup_good
setup-like q r len l c e g =
    subst (λ (k : ℕ × ℕ × ℕ). (counts_good k.0 k.1 k.2 && eqb l (pool_len k.0 k.1)) ≡ true) (sym c) (rw e g)

-- after a step from a good state
pub record Kept (q : Queue) (m : List ℕ) (t : Thread) : Type 0 where
  pub setup : setup_good (step_of q m t).stepped.queue (length (after m (step_of q m t).touch)) ≡ true
  pub nexts : nexts_good (after m (step_of q m t).touch) (step_of q m t).stepped.queue.blocks (step_of q m t).stepped.queue.blocks ≡ true

pub kept : (q : Queue) (m : List ℕ) (t : Thread) → setup_good q (length m) ≡ true → nexts_good m q.blocks q.blocks ≡ true → record_good q t ≡ true → Kept q m t
kept q m t setup nexts good =
    let h = step-tame q m t good in
    let touch = (step_of q m t).touch in
    record {
      setup =
          setup-like q (step_of q m t).stepped.queue (length m) (length (after m touch)) h.same (length-after m touch) setup;
      nexts =
          rw (ap (λ (k : ℕ × ℕ × ℕ). k.1) h.same)
          (nexts-after m q.blocks touch h.mild (setup-length q (length m) setup) q.blocks (omega arith) nexts);
    }
