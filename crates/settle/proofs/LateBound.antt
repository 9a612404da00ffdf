-- How many lines a late call can have left, and why no thief waits when no push is open.
use Rattle.std.specs.Prelude.{Option, None, Some}
use Prim.Native.Nat.{ℕ, ◌+◌, ◌*◌, ◌-◌, ◌≤◌, ◌<◌}
use mathlib.Core.Path.{◌≡◌, refl}
use mathlib.Core.Bool.{true, false}
use mathlib.Core.Logic.{◌⊎◌, inl, inr, ⊎_elim}
use mathlib.Core.List.{List}
use native.Mathlib.Omega.{arith}
use lib.Dec.{eqb}
use borrow.Author.Tests.{eqb-true, eqb-false}
use Rattle.index.specs.Position.{position}
use Rattle.index.proofs.Tickets.{ticket_mono}
use Rattle.state.specs.declared.Kind.{Kind}
use Rattle.state.specs.declared.Claim.{Claim}
use Rattle.state.specs.declared.PushLine.{PushLine}
use Rattle.state.specs.declared.PushLine.TheVariants.{P1, P2, P3, P4, P5, P6, P7, P8, P9, P10}
use Rattle.state.specs.declared.StealLine.{StealLine}
use Rattle.state.specs.declared.StealLine.TheVariants.{S1, S2, S3, S4, S5, S6, S7, S8, S9, S10, S11, S12, S13, S14}
use Rattle.state.specs.declared.Call.{Call}
use Rattle.state.specs.declared.Call.TheVariants.{Idle, Push, Steal, Length, Empty}
use Rattle.machine.specs.Steal.{first, past}
use Rattle.invariant.specs.Ghost.{some}
use Rattle.invariant.specs.State.{State, lp, off, tk, T, H, np, nc, W, nxt}
use Rattle.invariant.specs.Shared.{Shared}
use Rattle.invariant.specs.Lines.{Leaves, S9Ok, StealOk, CallOk}
use Rattle.invariant.proofs.Facts.{clash, none-some, true-or-false}
use Rattle.settle.specs.Views.{owes, links}
use Rattle.settle.specs.Owed.{Owed}
use Rattle.settle.specs.Late.{late, late_push, marks, gives_back, is_push, StealWaits, Waits}

-- ---- at most 5 lines of a push, and 187 of a thief

gives_one : (held : Option ℕ) → gives_back held ≤ 1
gives_one None = omega arith
gives_one (Some x) = omega arith

pub push_bound : (line : PushLine) → late_push line ≤ 5
push_bound (P1 v held) = omega arith
push_bound (P2 v t held) = omega arith
push_bound (P3 v t b) = omega arith
push_bound (P4 v t b held) = omega arith
push_bound (P5 v t b x) = omega arith
push_bound (P6 v t b x) = omega arith
push_bound (P7 v t b x) = omega arith
push_bound (P8 v t b held) = let g = gives_one held in omega arith
push_bound (P9 v t b held) = let g = gives_one held in omega arith
push_bound (P10 x spent) = omega arith

-- a claim that ends its block has no marks to make
marks_are : (c : Claim) → ((past c ≡ 63) × (marks c ≡ 0)) ⊎ ((past c ≡ 63 → ⊥) × (marks c ≡ c.advance))
marks_are c =
    ⊎_elim
    (λ (e : eqb (past c) 63 ≡ true). let z : marks c ≡ 0 = rw e in inl (eqb-true (past c) 63 e, z))
    (λ (e : eqb (past c) 63 ≡ false). let z : marks c ≡ c.advance = rw e in inr (eqb-false (past c) 63 e, z))
    (true-or-false (eqb (past c) 63))

-- with at most 4 lines before the reads, where the claim ends its block
claim_bound : (c : Claim) (before r : ℕ) → off c.head.raw + c.advance ≤ 63 → first c ≤ r
    → before ≤ 4 → (before ≡ 0) ⊎ (past c ≡ 63) → before + 2 * (past c - r) + marks c + (2 * first c + 1) ≤ 187
claim_bound c before r within from b4 when =
    ⊎_elim
    (λ (p : (past c ≡ 63) × (marks c ≡ 0)). let e = p.0 in let z = p.1 in omega arith)
    (λ (p : (past c ≡ 63 → ⊥) × (marks c ≡ c.advance)).
    let z = p.1 in
    let short : past c < 63 = (let n = p.0 in omega arith) in
    ⊎_elim (λ (e : before ≡ 0). omega arith) (λ (e : past c ≡ 63). absurd (p.0 e)) when)
    (marks_are c)

module _ (s : State) (i count : ℕ) (taken : List ℕ) where
  leaves_bound : (c : Claim) (before : ℕ) → off c.head.raw + c.advance ≡ 63 → before ≤ 4
      → before + 2 * c.advance + marks c + (2 * first c + 1) ≤ 187
  leaves_bound c before ended b4 =
      let z = claim_bound c before (first c) (omega arith) (omega arith) b4 (inr ended) in
      omega arith

  steal_bound : (line : StealLine) → StealOk s i count taken line → late (Steal line) ≤ 187
  steal_bound (S1 k) p = omega arith
  steal_bound (S2 k h) p = omega arith
  steal_bound (S3 k h b) p = omega arith
  steal_bound (S4 k c more) p = omega arith
  steal_bound (S5 k c) p = leaves_bound c 4 p.ended (omega arith)
  steal_bound (S6 k c x) p = leaves_bound c 3 p.leaves.ended (omega arith)
  steal_bound (S7 k c x more) p = leaves_bound c 2 p.at.leaves.ended (omega arith)
  steal_bound (S8 k c more) p = leaves_bound c 1 p.leaves.ended (omega arith)
  steal_bound (S9 k c r) p =
      let z = claim_bound c 0 r p.claims.within p.from (omega arith) (inl refl) in
      omega arith
  steal_bound (S10 k c r) p =
      let z = claim_bound c 0 r p.at.claims.within p.at.from (omega arith) (inl refl) in
      omega arith
  steal_bound (S11 won c r) p =
      let short : off c.head.raw + c.advance < 63 = p.short in
      let from : off c.head.raw ≤ r = p.from in
      omega arith
  steal_bound (S12 won b w) p = let z : w + 1 < 63 = p.below in omega arith
  steal_bound (S13 won b w) p = let z : w + 1 < 63 = p.below in omega arith
  steal_bound (S14 won b) p = omega arith

  pub late_bound : (call : Call) → CallOk s i count taken call → late call ≤ 187
  late_bound Idle p = omega arith
  late_bound (Push line) p = let z = push_bound line in omega arith
  late_bound (Steal line) p = steal_bound line p
  late_bound (Length line) p = omega arith
  late_bound (Empty line) p = omega arith

-- ---- who waits, waits for an open push

owes_nothing : {A : Type 0} (call : Call) (k : ℕ) → is_push call ≡ false → owes call ≡ some k → A
owes_nothing Idle k n e = none-some k e
owes_nothing (Push line) k n e = clash true refl n
owes_nothing (Steal line) k n e = none-some k e
owes_nothing (Length line) k n e = none-some k e
owes_nothing (Empty line) k n e = none-some k e

links-nothing : {A : Type 0} (call : Call) (k : ℕ) → is_push call ≡ false → links call ≡ some k → A
links-nothing Idle k n e = none-some k e
links-nothing (Push line) k n e = clash true refl n
links-nothing (Steal line) k n e = none-some k e
links-nothing (Length line) k n e = none-some k e
links-nothing (Empty line) k n e = none-some k e

module _ (s : State) (calls : ℕ → Call) (h : Shared s) (owed : Owed s calls) (bare : (j : ℕ) → is_push (calls j) ≡ false) where
  claimed-pushed : nc s ≤ np s
  claimed-pushed = ticket_mono (position (H s)) (position (T s)) h.order

  linked : (i count : ℕ) (k : Kind) (c : Claim) → Leaves s i k count c.head.raw c.block c.advance → nxt s c.block ≡ None → ⊥
  linked i count k c p e =
      let below : tk c.head.raw + c.advance ≤ nc s = p.claims.below in
      let ended : off c.head.raw + c.advance ≡ 63 = p.ended in
      let l = claimed-pushed in
      links-nothing (calls (s.ghost.pusher (63 * lp c.head.raw + 62))) (63 * lp c.head.raw + 62) (bare _)
      (owed.link c.block (lp c.head.raw) p.claims.serves e (omega arith))

  wrote : (i count : ℕ) (taken : List ℕ) (k : Kind) (c : Claim) (r : ℕ) → S9Ok s i k count taken c.head.raw c.block c.advance r
      → W s c.block r ≡ false → ⊥
  wrote i count taken k c r p e =
      let below : tk c.head.raw + c.advance ≤ nc s = p.claims.below in
      let within : off c.head.raw + c.advance ≤ 63 = p.claims.within in
      let to : r < off c.head.raw + c.advance = p.to in
      let l = claimed-pushed in
      owes_nothing (calls (s.ghost.pusher (63 * lp c.head.raw + r))) (63 * lp c.head.raw + r) (bare _)
      (owed.write c.block (lp c.head.raw) r p.claims.serves (omega arith) (omega arith) e)

  steal-waits : (i count : ℕ) (taken : List ℕ) (line : StealLine) → StealOk s i count taken line → StealWaits s line → ⊥
  steal-waits i count taken (S1 k) p e = e
  steal-waits i count taken (S2 k h) p e = e
  steal-waits i count taken (S3 k h b) p e = e
  steal-waits i count taken (S4 k c more) p e = e
  steal-waits i count taken (S5 k c) p e = linked i count k c p e
  steal-waits i count taken (S6 k c x) p e = e
  steal-waits i count taken (S7 k c x more) p e = e
  steal-waits i count taken (S8 k c more) p e = e
  steal-waits i count taken (S9 k c r) p e = wrote i count taken k c r p e
  steal-waits i count taken (S10 k c r) p e = e
  steal-waits i count taken (S11 won c r) p e = e
  steal-waits i count taken (S12 won b w) p e = e
  steal-waits i count taken (S13 won b w) p e = e
  steal-waits i count taken (S14 won b) p e = e

  pub nobody_waits : (i count : ℕ) (taken : List ℕ) (call : Call) → CallOk s i count taken call → Waits s call → ⊥
  nobody_waits i count taken Idle p e = e
  nobody_waits i count taken (Push line) p e = e
  nobody_waits i count taken (Steal line) p e = steal-waits i count taken line p e
  nobody_waits i count taken (Length line) p e = e
  nobody_waits i count taken (Empty line) p e = e
