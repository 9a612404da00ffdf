-- HAND: the claimer of a slot that is not marked still reads there, and the slot is its top one; so DESTROY there tells it
-- to carry the block on.
use Prim.Native.Nat.{ℕ, ◌+◌, ◌*◌, ◌-◌, ◌≤◌, ◌<◌}
use mathlib.Core.Path.{◌≡◌, ap, ◌∙◌}
use mathlib.Core.Bool.{true}
use mathlib.Core.Logic.{inr}
use mathlib.Core.List.{List}
use native.Mathlib.Omega.{arith}
use Rattle.state.specs.declared.Claim.{Claim}
use Rattle.state.specs.declared.StealLine.{StealLine}
use Rattle.state.specs.declared.StealLine.TheVariants.{S1, S2, S3, S4, S5, S6, S7, S8, S9, S10, S11, S12, S13, S14}
use Rattle.state.specs.declared.Call.{Call}
use Rattle.state.specs.declared.Call.TheVariants.{Idle, Push, Steal, Length, Empty}
use Rattle.invariant.specs.Ghost.{Back, some, lap_of, front}
use Rattle.invariant.specs.State.{State, lp, off, tk, D, own}
use Rattle.invariant.specs.Shared.{Shared}
use Rattle.invariant.specs.Lines.{StealOk, Claims}
use Rattle.invariant.proofs.Facts.{one_block}
use Rattle.settle.specs.Views.{Reads, StealReads, UpTo, EndsAt, Told, Carries, StealCarries}
use Rattle.settle.proofs.OwedFrame.{Line}

module _ (s s' : State) (h : Shared s) (b l w i : ℕ) (was : own s b ≡ Back l (w + 1) i) (slot : w < 63) (told : D s' b w ≡ true) where
  ends-here : (j : ℕ) (c : Claim) → Claims s j c.head.raw c.block c.advance → UpTo c (tk c.head.raw) (63 * l + w)
      → EndsAt c b l (w + 1) × Told s' c
  ends-here j c k u =
      let within : off c.head.raw + c.advance ≤ 63 = k.within in
      let from : tk c.head.raw ≤ 63 * l + w = u.0 in
      let to : 63 * l + w < tk c.head.raw + c.advance = u.1 in
      let lap : lp c.head.raw ≡ l = omega arith in
      let here : c.block ≡ b = one_block s h c.block b l (k.serves ∙ ap some lap) (ap lap_of was) in
      let top : off c.head.raw + c.advance ≤ w + 1 = rw (ap (λ (x : ℕ). front (own s x)) here ∙ ap front was) at k.front in
      let end : off c.head.raw + c.advance ≡ w + 1 = omega arith in
      let last : off c.head.raw + c.advance - 1 ≡ w = omega arith in
      ((here, lap, end), rw (here, last) told)

  reads_carries : (j count : ℕ) (taken : List ℕ) (line : StealLine) → StealOk s j count taken line → StealReads line (63 * l + w)
      → StealCarries s' line b l (w + 1)
  reads_carries j count taken (S1 k) ok u = u
  reads_carries j count taken (S2 k x) ok u = u
  reads_carries j count taken (S3 k x y) ok u = u
  reads_carries j count taken (S4 k c more) ok u = u
  reads_carries j count taken (S5 k c) ok u = ends-here j c ok.claims u
  reads_carries j count taken (S6 k c x) ok u = ends-here j c ok.leaves.claims u
  reads_carries j count taken (S7 k c x more) ok u = ends-here j c ok.at.leaves.claims u
  reads_carries j count taken (S8 k c more) ok u = ends-here j c ok.leaves.claims u
  reads_carries j count taken (S9 k c r) ok u = let z = ends-here j c ok.claims u in (z.0, inr z.1)
  reads_carries j count taken (S10 k c r) ok u = let z = ends-here j c ok.at.claims u in (z.0, inr z.1)
  reads_carries j count taken (S11 won c r) ok u = ends-here j c ok.claims (omega (arith, u.0, ok.from), u.1)
  reads_carries j count taken (S12 won x y) ok u = absurd u
  reads_carries j count taken (S13 won x y) ok u = absurd u
  reads_carries j count taken (S14 won x) ok u = absurd u

  pub reader_carries : (j : ℕ) (call : Call) → Line s j call → Reads call (63 * l + w) → Carries s' call b l (w + 1)
  reader_carries j Idle k u = u
  reader_carries j (Push line) k u = u
  reader_carries j (Steal line) k u = reads_carries j k.count k.taken line k.ok u
  reader_carries j (Length line) k u = u
  reader_carries j (Empty line) k u = u
