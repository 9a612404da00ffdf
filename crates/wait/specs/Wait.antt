-- Where a call can only wait while no other thread moves, and where it stands after n steps of waiting.
use Rattle.std.specs.Prelude.{ℕ, ◌%◌, Bool, true, false, cond, List, eqb, Option, None, Some}
use Rattle.index.specs.Position.{position, offset}
use Rattle.memory.specs.Layout.{state, next, has}
use Rattle.memory.specs.declared.Mark.TheVariants.{Write}
use Rattle.state.specs.declared.Queue.{Queue}
use Rattle.state.specs.declared.PushLine.{PushLine}
use Rattle.state.specs.declared.PushLine.TheVariants.{P1, P2, P3, P4, P5, P6, P7, P8, P9, P10}
use Rattle.state.specs.declared.StealLine.{StealLine}
use Rattle.state.specs.declared.StealLine.TheVariants.{S1, S2, S3, S4, S5, S6, S7, S8, S9, S10, S11, S12, S13, S14}
use Rattle.state.specs.declared.Call.{Call}
use Rattle.state.specs.declared.Call.TheVariants.{Idle, Push, Steal, Length, Empty}
use Rattle.wait.specs.declared.Wait.{Wait}
use Rattle.wait.specs.declared.Wait.TheVariants.{No, Stays, Turns}

-- at offset 63 it goes to the line that has the index loaded, and back
abbrev pub turns_at : ℕ → Call → Wait
turns_at i other = cond (eqb (offset (position i)) 63) (Turns other) No

abbrev pub push_wait : Queue → PushLine → Wait
push_wait q (P1 token held) = turns_at q.tail.raw (Push (P2 token q.tail held))
push_wait q (P2 token t held) = No
push_wait q (P3 token t b) = No
push_wait q (P4 token t b held) = No
push_wait q (P5 token t b x) = No
push_wait q (P6 token t b x) = No
push_wait q (P7 token t b x) = No
push_wait q (P8 token t b held) = No
push_wait q (P9 token t b held) = No
push_wait q (P10 x spent) = No

abbrev pub none_waits : Option ℕ → Wait
none_waits None = Stays
none_waits (Some x) = No

abbrev pub unwritten_waits : ℕ → Wait
unwritten_waits w = cond (has Write w) No Stays

abbrev pub steal_wait : Queue → List ℕ → StealLine → Wait
steal_wait q m (S1 k) = turns_at q.head.raw (Steal (S2 k q.head))
steal_wait q m (S2 k h) = No
steal_wait q m (S3 k h b) = No
steal_wait q m (S4 k c more) = No
steal_wait q m (S5 k c) = none_waits (next m c.block)
steal_wait q m (S6 k c x) = No
steal_wait q m (S7 k c x more) = No
steal_wait q m (S8 k c more) = No
steal_wait q m (S9 k c slot) = unwritten_waits (state m c.block slot)
steal_wait q m (S10 k c slot) = No
steal_wait q m (S11 won c slot) = No
steal_wait q m (S12 won b slot) = No
steal_wait q m (S13 won b slot) = No
steal_wait q m (S14 won b) = No

unfoldable pub wait_of : Queue → List ℕ → Call → Wait
wait_of q m Idle = No
wait_of q m (Push line) = push_wait q line
wait_of q m (Steal line) = steal_wait q m line
wait_of q m (Length line) = No
wait_of q m (Empty line) = No

abbrev pub waits : Wait → Bool
waits No = false
waits Stays = true
waits (Turns other) = true

abbrev pub waited_call : Call → Wait → ℕ → Call
waited_call call No n = call
waited_call call Stays n = call
waited_call call (Turns other) n = cond (eqb (n % 2) 1) other call
