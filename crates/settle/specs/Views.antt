-- All that a conjunct on what is owed asks of another thread's call.
use Rattle.std.specs.Prelude.{ℕ, ◌+◌, ◌*◌, ◌-◌, ◌≤◌, ◌<◌, ◌≡◌, Bool, true, false, ◌⊎◌, Option, None, Some}
use Rattle.state.specs.declared.Claim.{Claim}
use Rattle.state.specs.declared.PushLine.{PushLine}
use Rattle.state.specs.declared.PushLine.TheVariants.{P1, P2, P3, P4, P5, P6, P7, P8, P9, P10}
use Rattle.state.specs.declared.StealLine.{StealLine}
use Rattle.state.specs.declared.StealLine.TheVariants.{S1, S2, S3, S4, S5, S6, S7, S8, S9, S10, S11, S12, S13, S14}
use Rattle.state.specs.declared.Call.{Call}
use Rattle.state.specs.declared.Call.TheVariants.{Idle, Push, Steal, Length, Empty}
use Rattle.invariant.specs.Ghost.{Maybe, none, some}
use Rattle.invariant.specs.State.{State, lp, off, tk, D}

abbrev pub held_of : Option ℕ → Maybe
held_of None = none
held_of (Some x) = some x

-- the block that a push holds
abbrev pub push_holds : PushLine → Maybe
push_holds (P1 v held) = held_of held
push_holds (P2 v t held) = held_of held
push_holds (P3 v t b) = none
push_holds (P4 v t b held) = held_of held
push_holds (P5 v t b x) = some x
push_holds (P6 v t b x) = some x
push_holds (P7 v t b x) = none
push_holds (P8 v t b held) = held_of held
push_holds (P9 v t b held) = held_of held
push_holds (P10 x spent) = some x

-- the ticket whose slot a push has still to write
abbrev pub push_owes : PushLine → Maybe
push_owes (P1 v held) = none
push_owes (P2 v t held) = none
push_owes (P3 v t b) = none
push_owes (P4 v t b held) = none
push_owes (P5 v t b x) = some (tk t.raw)
push_owes (P6 v t b x) = some (tk t.raw)
push_owes (P7 v t b x) = some (tk t.raw)
push_owes (P8 v t b held) = some (tk t.raw)
push_owes (P9 v t b held) = some (tk t.raw)
push_owes (P10 x spent) = none

-- the ticket, a block's last, whose block a push has still to link
abbrev pub push_links : PushLine → Maybe
push_links (P1 v held) = none
push_links (P2 v t held) = none
push_links (P3 v t b) = none
push_links (P4 v t b held) = none
push_links (P5 v t b x) = some (tk t.raw)
push_links (P6 v t b x) = some (tk t.raw)
push_links (P7 v t b x) = some (tk t.raw)
push_links (P8 v t b held) = none
push_links (P9 v t b held) = none
push_links (P10 x spent) = none

-- at P5 or P6: the tail waits for it
abbrev pub push_installs : PushLine → Bool
push_installs (P1 v held) = false
push_installs (P2 v t held) = false
push_installs (P3 v t b) = false
push_installs (P4 v t b held) = false
push_installs (P5 v t b x) = true
push_installs (P6 v t b x) = true
push_installs (P7 v t b x) = false
push_installs (P8 v t b held) = false
push_installs (P9 v t b held) = false
push_installs (P10 x spent) = false

-- at S5 to S8: the head waits for it
abbrev pub steal_leaves : StealLine → Bool
steal_leaves (S1 k) = false
steal_leaves (S2 k h) = false
steal_leaves (S3 k h b) = false
steal_leaves (S4 k c more) = false
steal_leaves (S5 k c) = true
steal_leaves (S6 k c x) = true
steal_leaves (S7 k c x more) = true
steal_leaves (S8 k c more) = true
steal_leaves (S9 k c r) = false
steal_leaves (S10 k c r) = false
steal_leaves (S11 won c r) = false
steal_leaves (S12 won b w) = false
steal_leaves (S13 won b w) = false
steal_leaves (S14 won b) = false

-- the tickets from n up to the claim's end
abbrev pub UpTo : Claim → ℕ → ℕ → Type 0
UpTo c n k = (n ≤ k) × (k < tk c.head.raw + c.advance)

-- the tickets of a claim that are still to be marked READ, or need no mark yet
abbrev pub StealReads : StealLine → ℕ → Type 0
StealReads (S1 x) k = ⊥
StealReads (S2 x h) k = ⊥
StealReads (S3 x h b) k = ⊥
StealReads (S4 x c more) k = ⊥
StealReads (S5 x c) k = UpTo c (tk c.head.raw) k
StealReads (S6 x c y) k = UpTo c (tk c.head.raw) k
StealReads (S7 x c y more) k = UpTo c (tk c.head.raw) k
StealReads (S8 x c more) k = UpTo c (tk c.head.raw) k
StealReads (S9 x c r) k = UpTo c (tk c.head.raw) k
StealReads (S10 x c r) k = UpTo c (tk c.head.raw) k
StealReads (S11 won c r) k = UpTo c (63 * lp c.head.raw + r) k
StealReads (S12 won b w) k = ⊥
StealReads (S13 won b w) k = ⊥
StealReads (S14 won b) k = ⊥

-- the claim's block, its lap, and its end at the frontier f
abbrev pub EndsAt : Claim → ℕ → ℕ → ℕ → Type 0
EndsAt c b l f = (c.block ≡ b) × (lp c.head.raw ≡ l) × (off c.head.raw + c.advance ≡ f)

abbrev pub Told : State → Claim → Type 0
Told s c = D s c.block (off c.head.raw + c.advance - 1) ≡ true

-- it carries the way back of block b, of lap l with frontier f, on: it walks there, or will walk when its claim is done,
-- because it ended the block or because DESTROY stands in its top slot
abbrev pub StealCarries : State → StealLine → ℕ → ℕ → ℕ → Type 0
StealCarries s (S1 k) b l f = ⊥
StealCarries s (S2 k h) b l f = ⊥
StealCarries s (S3 k h x) b l f = ⊥
StealCarries s (S4 k c more) b l f = ⊥
StealCarries s (S5 k c) b l f = EndsAt c b l f × Told s c
StealCarries s (S6 k c x) b l f = EndsAt c b l f × Told s c
StealCarries s (S7 k c x more) b l f = EndsAt c b l f × Told s c
StealCarries s (S8 k c more) b l f = EndsAt c b l f × Told s c
StealCarries s (S9 k c r) b l f = EndsAt c b l f × ((f ≡ 63) ⊎ Told s c)
StealCarries s (S10 k c r) b l f = EndsAt c b l f × ((f ≡ 63) ⊎ Told s c)
StealCarries s (S11 won c r) b l f = EndsAt c b l f × Told s c
StealCarries s (S12 won x w) b l f = (x ≡ b) × (w + 1 ≡ f)
StealCarries s (S13 won x w) b l f = (x ≡ b) × (w + 1 ≡ f)
StealCarries s (S14 won x) b l f = (x ≡ b) × (0 ≡ f)

abbrev pub holds : Call → Maybe
holds Idle = none
holds (Push line) = push_holds line
holds (Steal line) = none
holds (Length line) = none
holds (Empty line) = none

abbrev pub owes : Call → Maybe
owes Idle = none
owes (Push line) = push_owes line
owes (Steal line) = none
owes (Length line) = none
owes (Empty line) = none

abbrev pub links : Call → Maybe
links Idle = none
links (Push line) = push_links line
links (Steal line) = none
links (Length line) = none
links (Empty line) = none

abbrev pub installs : Call → Bool
installs Idle = false
installs (Push line) = push_installs line
installs (Steal line) = false
installs (Length line) = false
installs (Empty line) = false

abbrev pub leaves : Call → Bool
leaves Idle = false
leaves (Push line) = false
leaves (Steal line) = steal_leaves line
leaves (Length line) = false
leaves (Empty line) = false

abbrev pub Reads : Call → ℕ → Type 0
Reads Idle k = ⊥
Reads (Push line) k = ⊥
Reads (Steal line) k = StealReads line k
Reads (Length line) k = ⊥
Reads (Empty line) k = ⊥

abbrev pub Carries : State → Call → ℕ → ℕ → ℕ → Type 0
Carries s Idle b l f = ⊥
Carries s (Push line) b l f = ⊥
Carries s (Steal line) b l f = StealCarries s line b l f
Carries s (Length line) b l f = ⊥
Carries s (Empty line) b l f = ⊥
