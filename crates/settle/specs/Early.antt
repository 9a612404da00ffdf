-- Early calls: those that others can still send back. Their lines, the index they wait for, and their ranks.
use Rattle.std.specs.Prelude.{ℕ, ◌+◌, ◌*◌, ◌≡◌, Bool, true, false, cond, eqb}
use Rattle.state.specs.declared.Queue.{Queue}
use Rattle.state.specs.declared.PushLine.{PushLine}
use Rattle.state.specs.declared.PushLine.TheVariants.{P1, P2, P3, P4, P5, P6, P7, P8, P9, P10}
use Rattle.state.specs.declared.StealLine.{StealLine}
use Rattle.state.specs.declared.StealLine.TheVariants.{S1, S2, S3, S4, S5, S6, S7, S8, S9, S10, S11, S12, S13, S14}
use Rattle.state.specs.declared.LengthLine.TheVariants.{L1, L2, L3}
use Rattle.state.specs.declared.EmptyLine.TheVariants.{E1, E2}
use Rattle.state.specs.declared.Call.{Call}
use Rattle.state.specs.declared.Call.TheVariants.{Idle, Push, Steal, Length, Empty}
use Rattle.invariant.specs.Ghost.{Maybe, none, some}
use Rattle.invariant.specs.State.{lp, off}
use Rattle.settle.specs.Views.{links, installs, leaves}

-- a push before its ticket, a thief before its claim
abbrev pub early_push : PushLine → Bool
early_push (P1 v held) = true
early_push (P2 v t held) = true
early_push (P3 v t b) = true
early_push (P4 v t b held) = true
early_push (P5 v t b x) = false
early_push (P6 v t b x) = false
early_push (P7 v t b x) = false
early_push (P8 v t b held) = false
early_push (P9 v t b held) = false
early_push (P10 x spent) = false

abbrev pub early_steal : StealLine → Bool
early_steal (S1 k) = true
early_steal (S2 k h) = true
early_steal (S3 k h b) = true
early_steal (S4 k c more) = true
early_steal (S5 k c) = false
early_steal (S6 k c x) = false
early_steal (S7 k c x more) = false
early_steal (S8 k c more) = false
early_steal (S9 k c r) = false
early_steal (S10 k c r) = false
early_steal (S11 won c r) = false
early_steal (S12 won b w) = false
early_steal (S13 won b w) = false
early_steal (S14 won b) = false

-- a length and an empty are early to their end
abbrev pub is_early : Call → Bool
is_early Idle = false
is_early (Push line) = early_push line
is_early (Steal line) = early_steal line
is_early (Length line) = true
is_early (Empty line) = true

-- an early call that needs the tail to stand at a slot, or the head
abbrev pub at_tail : Call → Bool
at_tail Idle = false
at_tail (Push line) = early_push line
at_tail (Steal line) = false
at_tail (Length line) = true
at_tail (Empty line) = false

abbrev pub at_head : Call → Bool
at_head Idle = false
at_head (Push line) = false
at_head (Steal line) = early_steal line
at_head (Length line) = false
at_head (Empty line) = false

-- the index that it needs waits at offset 63
abbrev pub blocked : Queue → Call → Bool
blocked q call = cond (at_tail call) (eqb (off q.tail.raw) 63) (cond (at_head call) (eqb (off q.head.raw) 63) false)

-- the steps that a call which is not blocked needs at most until it is early no longer, if the tail stays at `tail`:
-- more when the tail that it loaded is not the tail any more
abbrev pub push_rank : ℕ → PushLine → ℕ
push_rank tail (P1 v held) = 4
push_rank tail (P2 v t held) = cond (eqb tail t.raw) 3 6
push_rank tail (P3 v t b) = cond (eqb tail t.raw) 2 5
push_rank tail (P4 v t b held) = cond (eqb tail t.raw) 1 4
push_rank tail (P5 v t b x) = 0
push_rank tail (P6 v t b x) = 0
push_rank tail (P7 v t b x) = 0
push_rank tail (P8 v t b held) = 0
push_rank tail (P9 v t b held) = 0
push_rank tail (P10 x spent) = 0

abbrev pub steal_rank : StealLine → ℕ
steal_rank (S1 k) = 4
steal_rank (S2 k h) = cond (eqb (off h.raw) 63) 5 3
steal_rank (S3 k h b) = 2
steal_rank (S4 k c more) = 1
steal_rank (S5 k c) = 0
steal_rank (S6 k c x) = 0
steal_rank (S7 k c x more) = 0
steal_rank (S8 k c more) = 0
steal_rank (S9 k c r) = 0
steal_rank (S10 k c r) = 0
steal_rank (S11 won c r) = 0
steal_rank (S12 won b w) = 0
steal_rank (S13 won b w) = 0
steal_rank (S14 won b) = 0

abbrev pub rank : ℕ → Call → ℕ
rank tail Idle = 0
rank tail (Push line) = push_rank tail line
rank tail (Steal line) = steal_rank line
rank tail (Length L1) = 3
rank tail (Length (L2 t)) = cond (eqb tail t.raw) 2 5
rank tail (Length (L3 t h)) = cond (eqb tail t.raw) 1 4
rank tail (Empty E1) = 2
rank tail (Empty (E2 h)) = 1

-- a blocked call: the line of the push that installs the tail's next block
abbrev pub install_rank : Call → ℕ
install_rank Idle = 0
install_rank (Push (P1 v held)) = 0
install_rank (Push (P2 v t held)) = 0
install_rank (Push (P3 v t b)) = 0
install_rank (Push (P4 v t b held)) = 0
install_rank (Push (P5 v t b x)) = 8
install_rank (Push (P6 v t b x)) = 7
install_rank (Push (P7 v t b x)) = 0
install_rank (Push (P8 v t b held)) = 0
install_rank (Push (P9 v t b held)) = 0
install_rank (Push (P10 x spent)) = 0
install_rank (Steal line) = 0
install_rank (Length line) = 0
install_rank (Empty line) = 0

-- .. of the thief that moves the head on ..
abbrev pub leave_rank : Call → ℕ
leave_rank Idle = 0
leave_rank (Push line) = 0
leave_rank (Steal (S1 k)) = 0
leave_rank (Steal (S2 k h)) = 0
leave_rank (Steal (S3 k h b)) = 0
leave_rank (Steal (S4 k c more)) = 0
leave_rank (Steal (S5 k c)) = 9
leave_rank (Steal (S6 k c x)) = 8
leave_rank (Steal (S7 k c x more)) = 7
leave_rank (Steal (S8 k c more)) = 6
leave_rank (Steal (S9 k c r)) = 0
leave_rank (Steal (S10 k c r)) = 0
leave_rank (Steal (S11 won c r)) = 0
leave_rank (Steal (S12 won b w)) = 0
leave_rank (Steal (S13 won b w)) = 0
leave_rank (Steal (S14 won b)) = 0
leave_rank (Length line) = 0
leave_rank (Empty line) = 0

-- .. and of the push that links the block which that thief waits to leave
abbrev pub link_rank : Call → ℕ
link_rank Idle = 0
link_rank (Push (P1 v held)) = 0
link_rank (Push (P2 v t held)) = 0
link_rank (Push (P3 v t b)) = 0
link_rank (Push (P4 v t b held)) = 0
link_rank (Push (P5 v t b x)) = 12
link_rank (Push (P6 v t b x)) = 11
link_rank (Push (P7 v t b x)) = 10
link_rank (Push (P8 v t b held)) = 0
link_rank (Push (P9 v t b held)) = 0
link_rank (Push (P10 x spent)) = 0
link_rank (Steal line) = 0
link_rank (Length line) = 0
link_rank (Empty line) = 0

-- the ticket, its block's last, whose push links the block that a thief at S5 waits to leave
abbrev pub awaits : Call → Maybe
awaits Idle = none
awaits (Push line) = none
awaits (Steal (S1 k)) = none
awaits (Steal (S2 k h)) = none
awaits (Steal (S3 k h b)) = none
awaits (Steal (S4 k c more)) = none
awaits (Steal (S5 k c)) = some (63 * lp c.head.raw + 62)
awaits (Steal (S6 k c x)) = none
awaits (Steal (S7 k c x more)) = none
awaits (Steal (S8 k c more)) = none
awaits (Steal (S9 k c r)) = none
awaits (Steal (S10 k c r)) = none
awaits (Steal (S11 won c r)) = none
awaits (Steal (S12 won b w)) = none
awaits (Steal (S13 won b w)) = none
awaits (Steal (S14 won b)) = none
awaits (Length line) = none
awaits (Empty line) = none

-- Thread x is early, its rank is r, and the step of thread k, the key, lowers it.
--   not blocked: x itself;
--   the tail waits: the push that installs its next block;
--   the head waits: the thief that moves it on, if its block is linked, else the push that links it
pub data Rank (q : Queue) (calls : ℕ → Call) (x : ℕ) : ℕ → ℕ → Type 0 where
  free : is_early (calls x) ≡ true → blocked q (calls x) ≡ false → Rank q calls x (rank q.tail.raw (calls x)) x
  tail-waits : (k : ℕ) → at_tail (calls x) ≡ true → installs (calls k) ≡ true → Rank q calls x (install_rank (calls k)) k
  head-waits : (k : ℕ) → at_head (calls x) ≡ true → leaves (calls k) ≡ true
      → ((n : ℕ) → awaits (calls k) ≡ some n → (i : ℕ) → links (calls i) ≡ some n → ⊥) → Rank q calls x (leave_rank (calls k)) k
  link-waits : (k m n : ℕ) → at_head (calls x) ≡ true → awaits (calls m) ≡ some n → links (calls k) ≡ some n
      → Rank q calls x (link_rank (calls k)) k
