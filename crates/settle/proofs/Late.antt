-- A step of a late call ends it or leaves it late with fewer lines to make, or the call waits for a push.
use Rattle.std.specs.Prelude.{Option, None, Some}
use Prim.Native.Nat.{ℕ, ◌+◌, ◌<◌}
use mathlib.Core.Path.{◌≡◌, refl}
use mathlib.Core.Bool.{Bool, true, false, cond}
use mathlib.Core.Logic.{◌⊎◌, inl, inr}
use mathlib.Core.List.{List}
use native.Mathlib.Omega.{arith}
use lib.Dec.{eqb}
use borrow.Author.Tests.{eqb-true, eqb-false}
use Rattle.index.specs.declared.Index.{Index}
use Rattle.memory.specs.Layout.{state, has}
use Rattle.memory.specs.declared.Mark.TheVariants.{Write, Read, Destroy}
use Rattle.memory.specs.Touch.{Touch}
use Rattle.state.specs.Move.{Move}
use Rattle.state.specs.declared.Kind.{Kind}
use Rattle.state.specs.declared.Claim.{Claim}
use Rattle.state.specs.declared.Won.{Won}
use Rattle.state.specs.declared.PushLine.{PushLine}
use Rattle.state.specs.declared.PushLine.TheVariants.{P1, P2, P3, P4, P5, P6, P7, P8, P9, P10}
use Rattle.state.specs.declared.StealLine.{StealLine}
use Rattle.state.specs.declared.StealLine.TheVariants.{S1, S2, S3, S4, S5, S6, S7, S8, S9, S10, S11, S12, S13, S14}
use Rattle.state.specs.declared.Call.{Call}
use Rattle.state.specs.declared.Call.TheVariants.{Idle, Push, Steal, Length, Empty}
use Rattle.state.specs.declared.Queue.{Queue}
use Rattle.state.specs.declared.Stepped.{Stepped}
use Rattle.state.specs.declared.Thread.{Thread}
use Rattle.machine.specs.Push.{push, p9, p9_ends}
use Rattle.machine.specs.Steal.{steal, s5, s5_next, s9, s10, s11, s12, s13, first, past, walk_below, after_reads}
use Rattle.machine.specs.Step.{step_at, step_of, is_idle}
use Rattle.invariant.specs.State.{State, off, nxt}
use Rattle.invariant.specs.Lines.{StealOk, CallOk, ThreadOk}
use Rattle.invariant.proofs.Facts.{cond_elim, clash}
use Rattle.settle.specs.Late.{is_late, is_late_push, late, marks, walk, is_push, StealWaits, Waits}

-- ended or late
abbrev pub is_calm : Call → Bool
is_calm c = cond (is_idle c) true (is_late c)

-- fewer lines are left, and a thief stays no push
pub record Falls (old new : Call) : Type 0 where
  pub calm : is_calm new ≡ true
  pub less : late new < late old
  pub kind : is_push old ≡ false → is_push new ≡ false

-- ---- pushes never wait

module _ (q : Queue) (m : List ℕ) where
  ends-late : (v : ℕ) (t : Index) (b : ℕ) (held : Option ℕ) (touch : Touch) → Falls (Push (P9 v t b held)) (p9_ends q held touch).made.call
  ends-late v t b None touch = record { calm = refl; less = omega arith; kind = λ e. clash true refl e }
  ends-late v t b (Some x) touch = record { calm = refl; less = omega arith; kind = λ e. clash true refl e }

  pub push-late : (line : PushLine) → is_late_push line ≡ true → Falls (Push line) (push q m line).made.call
  unfolding p9
  push-late (P1 v held) e = clash false e refl
  push-late (P2 v t held) e = clash false e refl
  push-late (P3 v t b) e = clash false e refl
  push-late (P4 v t b held) e = clash false e refl
  push-late (P5 v t b x) e = record { calm = refl; less = omega arith; kind = λ e. clash true refl e }
  push-late (P6 v t b x) e = record { calm = refl; less = omega arith; kind = λ e. clash true refl e }
  push-late (P7 v t b x) e = record { calm = refl; less = omega arith; kind = λ e. clash true refl e }
  push-late (P8 v t b held) e = record { calm = refl; less = omega arith; kind = λ e. clash true refl e }
  push-late (P9 v t b held) e = ends-late v t b held _
  push-late (P10 x spent) e = record { calm = refl; less = omega arith; kind = λ e. clash true refl e }

-- ---- thieves

-- a thief's walk below a slot
walk-falls : (old : Call) (won : Won) (b slot : ℕ) → walk slot < late old → Falls old (Steal (walk_below won b slot))
walk-falls old won b slot l =
    cond_elim (λ (line : StealLine). Falls old (Steal line)) (eqb slot 0) _ _
    (λ e. record { calm = refl; less = omega arith; kind = λ f. refl })
    (λ e. let n = eqb-false slot 0 e in record { calm = refl; less = omega arith; kind = λ f. refl })

no-marks : (c : Claim) → eqb (past c) 63 ≡ true → marks c ≡ 0
no-marks c e = rw e

all-marks : (c : Claim) → eqb (past c) 63 ≡ false → marks c ≡ c.advance
all-marks c e = rw e

-- from the last S10
reads-falls : (k : Kind) (won : Won) (c : Claim) (r : ℕ) → r + 1 ≡ past c → Falls (Steal (S10 k c r)) (Steal (after_reads won c))
reads-falls k won c r e =
    cond_elim (λ (line : StealLine). Falls (Steal (S10 k c r)) (Steal line)) (eqb (past c) 63) _ _
    (λ f. let z = no-marks c f in walk-falls (Steal (S10 k c r)) won c.block (first c) (omega arith))
    (λ f. let z = all-marks c f in record { calm = refl; less = omega arith; kind = λ g. refl })

module _ (s : State) (i count : ℕ) (taken : List ℕ) (t : Thread) where
  abbrev Moves : StealLine → Call → Type 0
  Moves line new = Falls (Steal line) new ⊎ ((new ≡ Steal line) × StealWaits s line)

  s5-late : (k : Kind) (c : Claim) (x : Option ℕ) → nxt s c.block ≡ x → Moves (S5 k c) (s5_next s.queue k c x).made.call
  s5-late k c None e = inr (refl, e)
  s5-late k c (Some x) e = inl (record { calm = refl; less = omega arith; kind = λ g. refl })

  steal-late : (line : StealLine) → StealOk s i count taken line → is_late (Steal line) ≡ true
      → Moves line (steal s.queue s.pool t line).stepped.thread.call
  unfolding s5 s9 s10 s11 s12 s13
  steal-late (S1 k) p e = clash false e refl
  steal-late (S2 k h) p e = clash false e refl
  steal-late (S3 k h b) p e = clash false e refl
  steal-late (S4 k c more) p e = clash false e refl
  steal-late (S5 k c) p e = s5-late k c (nxt s c.block) refl
  steal-late (S6 k c x) p e = inl (record { calm = refl; less = omega arith; kind = λ g. refl })
  steal-late (S7 k c x more) p e = inl (record { calm = refl; less = omega arith; kind = λ g. refl })
  steal-late (S8 k c more) p e = inl (record { calm = refl; less = omega arith; kind = λ g. refl })
  steal-late (S9 k c r) p e =
      let to : r < off c.head.raw + c.advance = p.to in
      cond_elim (λ (move : Move). Moves (S9 k c r) move.made.call) (has Write (state s.pool c.block r)) _ _
      (λ f. inl (record { calm = refl; less = omega arith; kind = λ g. refl }))
      (λ f. inr (refl, f))
  steal-late (S10 k c r) p e =
      let to : r < off c.head.raw + c.advance = p.at.to in
      inl
      (cond_elim (λ (x : Stepped). Falls (Steal (S10 k c r)) x.thread.call) (eqb (r + 1) (past c)) _ _
      (λ f. reads-falls k _ c r (eqb-true (r + 1) (past c) f))
      (λ f. record { calm = refl; less = omega arith; kind = λ g. refl }))
  steal-late (S11 won c r) p e =
      let to : r < off c.head.raw + c.advance = p.to in
      inl
      (cond_elim (λ (move : Move). Falls (Steal (S11 won c r)) move.made.call) (has Destroy (state s.pool c.block r)) _ _
      (λ f. walk-falls (Steal (S11 won c r)) won c.block (first c) (omega arith))
      (λ f.
      cond_elim (λ (move : Move). Falls (Steal (S11 won c r)) move.made.call) (eqb (r + 1) (past c)) _ _
      (λ g. record { calm = refl; less = omega arith; kind = λ z. refl })
      (λ g. record { calm = refl; less = omega arith; kind = λ z. refl })))
  steal-late (S12 won b w) p e =
      inl
      (cond_elim (λ (move : Move). Falls (Steal (S12 won b w)) move.made.call) (has Read (state s.pool b w)) _ _
      (λ f. walk-falls (Steal (S12 won b w)) won b w (omega arith))
      (λ f. record { calm = refl; less = omega arith; kind = λ z. refl }))
  steal-late (S13 won b w) p e =
      inl
      (cond_elim (λ (move : Move). Falls (Steal (S13 won b w)) move.made.call) (has Read (state s.pool b w)) _ _
      (λ f. walk-falls (Steal (S13 won b w)) won b w (omega arith))
      (λ f. record { calm = refl; less = omega arith; kind = λ z. refl }))
  steal-late (S14 won b) p e = inl (record { calm = refl; less = omega arith; kind = λ z. refl })

-- ---- any late call

abbrev pub Goes : State → Call → Call → Type 0
Goes s old new = Falls old new ⊎ ((new ≡ old) × Waits s old)

call-late : (s : State) (i : ℕ) (t : Thread) (call : Call) → CallOk s i t.ring.count t.taken call → is_late call ≡ true
    → Goes s call (step_at s.queue s.pool t call).stepped.thread.call
call-late s i t Idle p e = clash false e refl
call-late s i t (Push line) p e = inl (push-late s.queue s.pool line e)
call-late s i t (Steal line) p e = steal-late s i t.ring.count t.taken t line p e
call-late s i t (Length line) p e = clash false e refl
call-late s i t (Empty line) p e = clash false e refl

pub late-step : (s : State) (i : ℕ) (t : Thread) → ThreadOk s i t → is_late t.call ≡ true
    → Goes s t.call (step_of s.queue s.pool t).stepped.thread.call
unfolding step_of
late-step s i t ok e = call-late s i t t.call ok.call e
