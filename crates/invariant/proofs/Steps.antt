-- A whole step keeps the invariant, whatever line its call stands at: by cases on the line.
use Prim.Native.Nat.{ℕ}
use mathlib.Core.List.{List}
use Rattle.state.specs.Move.{Move, settled}
use Rattle.state.specs.declared.PushLine.{PushLine}
use Rattle.state.specs.declared.PushLine.TheVariants.{P1, P2, P3, P4, P5, P6, P7, P8, P9, P10}
use Rattle.state.specs.declared.StealLine.{StealLine}
use Rattle.state.specs.declared.StealLine.TheVariants.{S1, S2, S3, S4, S5, S6, S7, S8, S9, S10, S11, S12, S13, S14}
use Rattle.state.specs.declared.LengthLine.{LengthLine}
use Rattle.state.specs.declared.LengthLine.TheVariants.{L1, L2, L3}
use Rattle.state.specs.declared.EmptyLine.{EmptyLine}
use Rattle.state.specs.declared.EmptyLine.TheVariants.{E1, E2}
use Rattle.state.specs.declared.Call.{Call}
use Rattle.state.specs.declared.Call.TheVariants.{Idle, Push, Steal, Length, Empty}
use Rattle.state.specs.declared.Thread.{Thread}
use Rattle.machine.specs.Push.{push}
use Rattle.machine.specs.Steal.{steal}
use Rattle.machine.specs.Step.{step_at, step_of}
use Rattle.invariant.specs.State.{State}
use Rattle.invariant.specs.Shared.{Shared}
use Rattle.invariant.specs.Lines.{PushOk, StealOk, LengthOk, EmptyOk, CallOk, ThreadOk}
use Rattle.invariant.specs.Kept.{Kept, StepKept}
use Rattle.invariant.proofs.Local.{rely_refl}
use Rattle.invariant.proofs.LocalPush.{p1-kept, p2-kept}
use Rattle.invariant.proofs.LocalSteal.{s1-kept, s2-kept, s3-kept, s5-kept, s6-kept, s9-kept}
use Rattle.invariant.proofs.LocalCount.{l1-kept, l2-kept, l3-kept, e1-kept, e2-kept}
use Rattle.invariant.proofs.Ticket.{p4-kept}
use Rattle.invariant.proofs.Install.{p5-kept, p6-kept}
use Rattle.invariant.proofs.Link.{p7-kept}
use Rattle.invariant.proofs.Claim.{s4-kept}
use Rattle.invariant.proofs.Read.{s10-kept}
use Rattle.invariant.proofs.Mark.{s11-kept}
use Rattle.invariant.proofs.Walk.{s12-kept, s13-kept}
use Rattle.invariant.proofs.Pool.{p3-kept, p10-kept, s14-kept}
use Rattle.invariant.proofs.Write.{p8-kept, p9-kept}
use Rattle.invariant.proofs.Leave.{s7-kept, s8-kept}

-- a line that changes of its thread the call alone: its ring and its array are as they were
unfoldable pub settles : (s : State) (i : ℕ) (t : Thread) (move : Move) → ThreadOk s i t → Kept s i t.ring.count t.taken move → StepKept s i (settled t move)
settles s i t move p k =
    record {
      ghost = k.ghost;
      shared = k.shared;
      thread = record { tokens = p.tokens; count = p.count; taken = p.taken; call = k.call };
      others = k.others;
    }

module _ (s : State) (i count : ℕ) (taken : List ℕ) (h : Shared s) where
  unfoldable pub push_kept : (line : PushLine) → PushOk s i line → Kept s i count taken (push s.queue s.pool line)
  push_kept (P1 v held) p = p1-kept s i count taken v held h p
  push_kept (P2 v t held) p = p2-kept s i count taken v t held h p
  push_kept (P3 v t b) p = p3-kept s i count taken v t b h p
  push_kept (P4 v t b held) p = p4-kept s i count taken v t b held h p
  push_kept (P5 v t b x) p = p5-kept s i count taken v t b x h p
  push_kept (P6 v t b x) p = p6-kept s i count taken v t b x h p
  push_kept (P7 v t b x) p = p7-kept s i count taken v t b x h p
  push_kept (P8 v t b held) p = p8-kept s i count taken v t b held h p
  push_kept (P9 v t b held) p = p9-kept s i count taken v t b held h p
  push_kept (P10 x spent) p = p10-kept s i count taken x spent h p

  unfoldable pub length-kept : (line : LengthLine) → LengthOk s line → Kept s i count taken (Rattle.machine.specs.Count.length s.queue line)
  length-kept L1 p = l1-kept s i count taken h p
  length-kept (L2 t) p = l2-kept s i count taken t h p
  length-kept (L3 t u) p = l3-kept s i count taken t u h p

  unfoldable pub empty-kept : (line : EmptyLine) → EmptyOk s line → Kept s i count taken (Rattle.machine.specs.Count.empty s.queue line)
  empty-kept E1 p = e1-kept s i count taken h p
  empty-kept (E2 t) p = e2-kept s i count taken t h p

module _ (s : State) (i : ℕ) (t : Thread) (h : Shared s) where
  unfoldable pub steal-kept : (line : StealLine) → ThreadOk s i t → StealOk s i t.ring.count t.taken line
      → StepKept s i (steal s.queue s.pool t line)
  steal-kept (S1 k) q p = settles s i t _ q (s1-kept s i t.ring.count t.taken k h p)
  steal-kept (S2 k u) q p = settles s i t _ q (s2-kept s i t.ring.count t.taken k u h p)
  steal-kept (S3 k u b) q p = settles s i t _ q (s3-kept s i t.ring.count t.taken k u b h p)
  steal-kept (S4 k c more) q p = settles s i t _ q (s4-kept s i t.ring.count t.taken k c more h p)
  steal-kept (S5 k c) q p = settles s i t _ q (s5-kept s i t.ring.count t.taken k c h p)
  steal-kept (S6 k c x) q p = settles s i t _ q (s6-kept s i t.ring.count t.taken k c x h p)
  steal-kept (S7 k c x more) q p = settles s i t _ q (s7-kept s i t.ring.count t.taken k c x more h p)
  steal-kept (S8 k c more) q p = settles s i t _ q (s8-kept s i t.ring.count t.taken k c more h p)
  steal-kept (S9 k c slot) q p = settles s i t _ q (s9-kept s i t.ring.count t.taken k c slot h p)
  steal-kept (S10 k c slot) q p = s10-kept s i t k c slot h q.tokens q.count q.taken p
  steal-kept (S11 won c slot) q p = settles s i t _ q (s11-kept s i t.ring.count t.taken won c slot h p)
  steal-kept (S12 won b slot) q p = settles s i t _ q (s12-kept s i t.ring.count t.taken won b slot h p)
  steal-kept (S13 won b slot) q p = settles s i t _ q (s13-kept s i t.ring.count t.taken won b slot h p)
  steal-kept (S14 won b) q p = settles s i t _ q (s14-kept s i t.ring.count t.taken won b h p)

  -- with no call open nothing is done
  unfoldable pub call_kept : (call : Call) → ThreadOk s i t → CallOk s i t.ring.count t.taken call
      → StepKept s i (step_at s.queue s.pool t call)
  call_kept Idle q p = record { ghost = s.ghost; shared = h; thread = q; others = λ j n. rely_refl j s }
  call_kept (Push line) q p = settles s i t _ q (push_kept s i t.ring.count t.taken h line p)
  call_kept (Steal line) q p = steal-kept line q p
  call_kept (Length line) q p = settles s i t _ q (length-kept s i t.ring.count t.taken h line p)
  call_kept (Empty line) q p = settles s i t _ q (empty-kept s i t.ring.count t.taken h line p)

unfoldable pub step_kept : (s : State) (i : ℕ) (t : Thread) → Shared s → ThreadOk s i t → StepKept s i (step_of s.queue s.pool t)
unfolding step_of
step_kept s i t h p = call_kept s i t h t.call p p.call
