-- A step of any thread keeps what is owed: by cases on the line.
use Prim.Native.Nat.{ℕ}
use mathlib.Core.Path.{◌≡◌, sym, subst}
use mathlib.Core.List.{List}
use Rattle.state.specs.Move.{Move, Step}
use Rattle.state.specs.declared.PushLine.{PushLine}
use Rattle.state.specs.declared.PushLine.TheVariants.{P1, P2, P3, P4, P5, P6, P7, P8, P9, P10}
use Rattle.state.specs.declared.StealLine.{StealLine}
use Rattle.state.specs.declared.StealLine.TheVariants.{S1, S2, S3, S4, S5, S6, S7, S8, S9, S10, S11, S12, S13, S14}
use Rattle.state.specs.declared.LengthLine.{LengthLine}
use Rattle.state.specs.declared.LengthLine.TheVariants.{L1, L2, L3}
use Rattle.state.specs.declared.EmptyLine.{EmptyLine}
use Rattle.state.specs.declared.EmptyLine.TheVariants.{E1, E2}
use Rattle.state.specs.declared.Call.{Call}
use Rattle.state.specs.declared.Call.TheVariants.{Idle, Push, Steal, Length, Empty}
use Rattle.state.specs.declared.Thread.{Thread}
use Rattle.machine.specs.Push.{push}
use Rattle.machine.specs.Steal.{steal}
use Rattle.machine.specs.Step.{step_at, step_of}
use Rattle.invariant.specs.Ghost.{Ghost}
use Rattle.invariant.specs.State.{State}
use Rattle.invariant.specs.Shared.{Shared}
use Rattle.invariant.specs.Lines.{PushOk, StealOk, LengthOk, EmptyOk, CallOk, ThreadOk}
use Rattle.invariant.specs.Kept.{moved, stepped}
use Rattle.invariant.proofs.Facts.{put}
use Rattle.invariant.proofs.LocalPush.{p1-ghost, p2-ghost}
use Rattle.invariant.proofs.LocalSteal.{s1-ghost, s2-ghost, s3-ghost, s5-ghost, s6-ghost, s9-ghost}
use Rattle.invariant.proofs.LocalCount.{l1-ghost, l2-ghost, l3-ghost, e1-ghost, e2-ghost}
use Rattle.invariant.proofs.Ticket.{p4-ghost}
use Rattle.invariant.proofs.Install.{p5-ghost, p6-ghost}
use Rattle.invariant.proofs.Link.{p7-ghost}
use Rattle.invariant.proofs.Write.{p8-ghost, p9-ghost}
use Rattle.invariant.proofs.Pool.{p3-ghost, p10-ghost, s14-ghost}
use Rattle.invariant.proofs.Claim.{s4-ghost}
use Rattle.invariant.proofs.Leave.{s7-ghost, s8-ghost}
use Rattle.invariant.proofs.Read.{s10-ghost}
use Rattle.invariant.proofs.Mark.{s11-ghost}
use Rattle.invariant.proofs.Walk.{s12-ghost, s13-ghost}
use Rattle.invariant.proofs.Steps.{settles, push_kept, length-kept, empty-kept, steal-kept, call_kept, step_kept}
use Rattle.settle.specs.Owed.{Owed}
use Rattle.settle.proofs.OwedFrame.{Line, same-push, same-take}
use Rattle.settle.proofs.OwedLocal.{stays, p1-owed, p2-owed, s1-owed, s2-owed, s3-owed, s5-owed, s6-owed, s9-owed, l1-owed, l2-owed, l3-owed, e1-owed, e2-owed}
use Rattle.settle.proofs.OwedPushLines.{p3-owed, p4-owed, p5-owed, p6-owed, p7-owed, p8-owed, p9-owed, p10-owed}
use Rattle.settle.proofs.OwedTake.{s4-owed, s7-owed, s8-owed}
use Rattle.settle.proofs.OwedStealLines.{s10-owed, s11-owed, s12-owed, s13-owed, s14-owed}

module _ (s : State) (calls : ℕ → Call) (i : ℕ) (h : Shared s) (lines : (j : ℕ) → Line s j (calls j)) (owed : Owed s calls) where
  abbrev Goes : Move → Ghost → Type 0
  Goes m g = Owed (moved s m g) (put calls i m.made.call)

  -- the ghost that the line's lemma chose
  chosen : (m : Move) (g x : Ghost) → g ≡ x → Goes m x → Goes m g
  chosen m g x e = subst (Goes m) (sym e)

  module _ (count : ℕ) (taken : List ℕ) where
    chosen-push : (line : PushLine) (g x : Ghost) → g ≡ x → Goes (push s.queue s.pool line) x → Goes (push s.queue s.pool line) g
    chosen-push line = chosen (push s.queue s.pool line)

    push-owed : (line : PushLine) (p : PushOk s i line) → calls i ≡ Push line
        → Goes (push s.queue s.pool line) (push_kept s i count taken h line p).ghost
    unfolding push_kept
    push-owed (P1 v held) p at = chosen-push (P1 v held) _ _ (p1-ghost s i count taken v held h p) (p1-owed s calls i owed v held at)
    push-owed (P2 v t held) p at = chosen-push (P2 v t held) _ _ (p2-ghost s i count taken v t h held p) (p2-owed s calls i owed v t held at)
    push-owed (P3 v t b) p at = chosen-push (P3 v t b) _ _ (p3-ghost s i count taken h v t b p) (p3-owed s calls i h lines owed v t b at)
    push-owed (P4 v t b held) p at = chosen-push (P4 v t b held) _ _ (p4-ghost s i count taken v t b held h p) (p4-owed s calls i h lines owed v t b held p at)
    push-owed (P5 v t b x) p at = chosen-push (P5 v t b x) _ _ (p5-ghost s i count taken v t b x h p) (p5-owed s calls i h lines owed v t b x at)
    push-owed (P6 v t b x) p at = chosen-push (P6 v t b x) _ _ (p6-ghost s i count taken v t b x h p) (p6-owed s calls i h lines owed v t b x p at)
    push-owed (P7 v t b x) p at = chosen-push (P7 v t b x) _ _ (p7-ghost s i count taken v t b x h p) (p7-owed s calls i h lines owed v t b x p at)
    push-owed (P8 v t b held) p at = chosen-push (P8 v t b held) _ _ (p8-ghost s i count taken v t b h held p) (p8-owed s calls i h lines owed v t b held p at)
    push-owed (P9 v t b held) p at = chosen-push (P9 v t b held) _ _ (p9-ghost s i count taken v t b h held p) (p9-owed s calls i h lines owed v t b held p at)
    push-owed (P10 x spent) p at = chosen-push (P10 x spent) _ _ (p10-ghost s i count taken h x spent p) (p10-owed s calls i h lines owed x spent p at)

    length-owed : (line : LengthLine) (p : LengthOk s line) → calls i ≡ Length line
        → Goes (Rattle.machine.specs.Count.length s.queue line) (length-kept s i count taken h line p).ghost
    unfolding length-kept
    length-owed L1 p at = chosen (Rattle.machine.specs.Count.length s.queue L1) _ _ (l1-ghost s i count taken h p) (l1-owed s calls i owed at)
    length-owed (L2 t) p at = chosen (Rattle.machine.specs.Count.length s.queue (L2 t)) _ _ (l2-ghost s i count taken t h p) (l2-owed s calls i owed t at)
    length-owed (L3 t u) p at = chosen (Rattle.machine.specs.Count.length s.queue (L3 t u)) _ _ (l3-ghost s i count taken t u h p) (l3-owed s calls i owed t u at)

    empty-owed : (line : EmptyLine) (p : EmptyOk s line) → calls i ≡ Empty line
        → Goes (Rattle.machine.specs.Count.empty s.queue line) (empty-kept s i count taken h line p).ghost
    unfolding empty-kept
    empty-owed E1 p at = chosen (Rattle.machine.specs.Count.empty s.queue E1) _ _ (e1-ghost s i count taken h p) (e1-owed s calls i owed at)
    empty-owed (E2 t) p at = chosen (Rattle.machine.specs.Count.empty s.queue (E2 t)) _ _ (e2-ghost s i count taken t h p) (e2-owed s calls i owed t at)

  module _ (t : Thread) where
    abbrev n : ℕ
    n = t.ring.count

    abbrev d : List ℕ
    d = t.taken

    abbrev After : Step → Ghost → Type 0
    After step g = Owed (stepped s step g) (put calls i step.stepped.thread.call)

    chosen-steal : (line : StealLine) (g x : Ghost) → g ≡ x → After (steal s.queue s.pool t line) x → After (steal s.queue s.pool t line) g
    chosen-steal line g x e = subst (After (steal s.queue s.pool t line)) (sym e)

    steal-owed : (line : StealLine) (q : ThreadOk s i t) (p : StealOk s i t.ring.count t.taken line) → calls i ≡ Steal line
        → After (steal s.queue s.pool t line) (steal-kept s i t h line q p).ghost
    unfolding steal-kept settles
    steal-owed (S1 k) q p at = chosen-steal (S1 k) _ _ (s1-ghost s i n d k h p) (s1-owed s calls i owed k at)
    steal-owed (S2 k u) q p at = chosen-steal (S2 k u) _ _ (s2-ghost s i n d k h u p) (s2-owed s calls i owed k u at)
    steal-owed (S3 k u b) q p at = chosen-steal (S3 k u b) _ _ (s3-ghost s i n d k h u b p) (s3-owed s calls i owed k u b at)
    steal-owed (S4 k c more) q p at = chosen-steal (S4 k c more) _ _ (s4-ghost s i n d k c more h p) (s4-owed s calls i n d h lines owed k c more p at)
    steal-owed (S5 k c) q p at = chosen-steal (S5 k c) _ _ (s5-ghost s i n d k h c p) (s5-owed s calls i owed k c at)
    steal-owed (S6 k c x) q p at = chosen-steal (S6 k c x) _ _ (s6-ghost s i n d k h c x p) (s6-owed s calls i owed k c x at)
    steal-owed (S7 k c x more) q p at = chosen-steal (S7 k c x more) _ _ (s7-ghost s i n d k c h x more p) (s7-owed s calls i n d h lines owed k c x more at)
    steal-owed (S8 k c more) q p at = chosen-steal (S8 k c more) _ _ (s8-ghost s i n d k c h more p) (s8-owed s calls i n d h lines owed k c more p at)
    steal-owed (S9 k c slot) q p at = chosen-steal (S9 k c slot) _ _ (s9-ghost s i n d k h c slot p) (s9-owed s calls i owed k c slot at)
    steal-owed (S10 k c slot) q p at =
        chosen-steal (S10 k c slot) _ _ (s10-ghost s i t k c slot h q.tokens q.count q.taken p) (s10-owed s calls i h lines owed t k c slot p at)
    steal-owed (S11 won c slot) q p at = chosen-steal (S11 won c slot) _ _ (s11-ghost s i n d won c slot h p) (s11-owed s calls i h lines owed n d won c slot p at)
    steal-owed (S12 won b w) q p at = chosen-steal (S12 won b w) _ _ (s12-ghost s i n d won b w h p) (s12-owed s calls i h lines owed n d won b w p at)
    steal-owed (S13 won b w) q p at = chosen-steal (S13 won b w) _ _ (s13-ghost s i n d won b w h p) (s13-owed s calls i h lines owed n d won b w p at)
    steal-owed (S14 won b) q p at = chosen-steal (S14 won b) _ _ (s14-ghost s i n d h won b p) (s14-owed s calls i h lines owed n d won b p at)

    call-owed : (call : Call) (q : ThreadOk s i t) (p : CallOk s i t.ring.count t.taken call) → calls i ≡ call → calls i ≡ t.call
        → After (step_at s.queue s.pool t call) (call_kept s i t h call q p).ghost
    unfolding call_kept settles
    call-owed Idle q p at same = stays s calls i owed t.call t.call same (same-push t.call) (same-take s t.call)
    call-owed (Push line) q p at same = push-owed n d line p at
    call-owed (Steal line) q p at same = steal-owed line q p at
    call-owed (Length line) q p at same = length-owed n d line p at
    call-owed (Empty line) q p at same = empty-owed n d line p at

pub owed-kept : (s : State) (i : ℕ) (calls : ℕ → Call) (t : Thread) (h : Shared s) (ok : ThreadOk s i t) → calls i ≡ t.call
    → ((j : ℕ) → Line s j (calls j)) → Owed s calls
    → Owed (stepped s (step_of s.queue s.pool t) (step_kept s i t h ok).ghost)
    (put calls i (step_of s.queue s.pool t).stepped.thread.call)
unfolding step_of step_kept
owed-kept s i calls t h ok at lines owed = call-owed s calls i h lines owed t t.call ok ok.call at at
