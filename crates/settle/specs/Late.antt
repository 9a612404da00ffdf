-- A late call is past its compare: nobody can send it back, and a count of the lines that it has still to make falls with
-- each of its steps.
use Rattle.std.specs.Prelude.{ℕ, ◌+◌, ◌*◌, ◌-◌, ◌≡◌, Bool, true, false, cond, eqb, Option, None, Some}
use Rattle.state.specs.declared.Claim.{Claim}
use Rattle.state.specs.declared.PushLine.{PushLine}
use Rattle.state.specs.declared.PushLine.TheVariants.{P1, P2, P3, P4, P5, P6, P7, P8, P9, P10}
use Rattle.state.specs.declared.StealLine.{StealLine}
use Rattle.state.specs.declared.StealLine.TheVariants.{S1, S2, S3, S4, S5, S6, S7, S8, S9, S10, S11, S12, S13, S14}
use Rattle.state.specs.declared.Call.{Call}
use Rattle.state.specs.declared.Call.TheVariants.{Idle, Push, Steal, Length, Empty}
use Rattle.machine.specs.Steal.{first, past}
use Rattle.invariant.specs.State.{State, W, nxt}

abbrev pub is_late_push : PushLine → Bool
is_late_push (P1 v held) = false
is_late_push (P2 v t held) = false
is_late_push (P3 v t b) = false
is_late_push (P4 v t b held) = false
is_late_push (P5 v t b x) = true
is_late_push (P6 v t b x) = true
is_late_push (P7 v t b x) = true
is_late_push (P8 v t b held) = true
is_late_push (P9 v t b held) = true
is_late_push (P10 x spent) = true

abbrev pub is_late_steal : StealLine → Bool
is_late_steal (S1 k) = false
is_late_steal (S2 k h) = false
is_late_steal (S3 k h b) = false
is_late_steal (S4 k c more) = false
is_late_steal (S5 k c) = true
is_late_steal (S6 k c x) = true
is_late_steal (S7 k c x more) = true
is_late_steal (S8 k c more) = true
is_late_steal (S9 k c r) = true
is_late_steal (S10 k c r) = true
is_late_steal (S11 won c r) = true
is_late_steal (S12 won b w) = true
is_late_steal (S13 won b w) = true
is_late_steal (S14 won b) = true

abbrev pub is_late : Call → Bool
is_late Idle = false
is_late (Push line) = is_late_push line
is_late (Steal line) = is_late_steal line
is_late (Length line) = false
is_late (Empty line) = false

-- one line more with a block held
abbrev pub gives_back : Option ℕ → ℕ
gives_back None = 0
gives_back (Some x) = 1

abbrev pub late_push : PushLine → ℕ
late_push (P1 v held) = 0
late_push (P2 v t held) = 0
late_push (P3 v t b) = 0
late_push (P4 v t b held) = 0
late_push (P5 v t b x) = 5
late_push (P6 v t b x) = 4
late_push (P7 v t b x) = 3
late_push (P8 v t b held) = 2 + gives_back held
late_push (P9 v t b held) = 1 + gives_back held
late_push (P10 x spent) = 1

-- the marks of a claim: none where it ended its block; and the walk below the claim, with the block's return
abbrev pub marks : Claim → ℕ
marks c = cond (eqb (past c) 63) 0 c.advance

abbrev pub walk : ℕ → ℕ
walk slot = 2 * slot + 1

abbrev pub late_steal : StealLine → ℕ
late_steal (S1 k) = 0
late_steal (S2 k h) = 0
late_steal (S3 k h b) = 0
late_steal (S4 k c more) = 0
late_steal (S5 k c) = 4 + 2 * c.advance + marks c + walk (first c)
late_steal (S6 k c x) = 3 + 2 * c.advance + marks c + walk (first c)
late_steal (S7 k c x more) = 2 + 2 * c.advance + marks c + walk (first c)
late_steal (S8 k c more) = 1 + 2 * c.advance + marks c + walk (first c)
late_steal (S9 k c r) = 2 * (past c - r) + marks c + walk (first c)
late_steal (S10 k c r) = 2 * (past c - r) - 1 + marks c + walk (first c)
late_steal (S11 won c r) = past c - r + walk (first c)
late_steal (S12 won b w) = 2 * w + 3
late_steal (S13 won b w) = 2 * w + 2
late_steal (S14 won b) = 1

-- the lines that a late call has still to make, at most; of any other call 0
abbrev pub late : Call → ℕ
late Idle = 0
late (Push line) = late_push line
late (Steal line) = late_steal line
late (Length line) = 0
late (Empty line) = 0

abbrev pub is_push : Call → Bool
is_push Idle = false
is_push (Push line) = true
is_push (Steal line) = false
is_push (Length line) = false
is_push (Empty line) = false

-- the lines that look again: S5 while the block has no next, S9 while its slot is not written
abbrev pub StealWaits : State → StealLine → Type 0
StealWaits s (S1 k) = ⊥
StealWaits s (S2 k h) = ⊥
StealWaits s (S3 k h b) = ⊥
StealWaits s (S4 k c more) = ⊥
StealWaits s (S5 k c) = nxt s c.block ≡ None
StealWaits s (S6 k c x) = ⊥
StealWaits s (S7 k c x more) = ⊥
StealWaits s (S8 k c more) = ⊥
StealWaits s (S9 k c r) = W s c.block r ≡ false
StealWaits s (S10 k c r) = ⊥
StealWaits s (S11 won c r) = ⊥
StealWaits s (S12 won b w) = ⊥
StealWaits s (S13 won b w) = ⊥
StealWaits s (S14 won b) = ⊥

abbrev pub Waits : State → Call → Type 0
Waits s Idle = ⊥
Waits s (Push line) = ⊥
Waits s (Steal line) = StealWaits s line
Waits s (Length line) = ⊥
Waits s (Empty line) = ⊥
