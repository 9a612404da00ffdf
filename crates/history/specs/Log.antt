-- What an observer of the steps notes. Tickets are document 01's: pushed at P4, claimed at S4.
use Rattle.std.specs.Prelude.{ℕ, ◌+◌, cond, List, [], ◌∷◌, ◌++◌, eqb}
use Rattle.index.specs.Position.{position, ticket}
use Rattle.ring.specs.Ring.{contents}
use Rattle.state.specs.declared.Queue.{Queue}
use Rattle.state.specs.declared.Kind.{Kind}
use Rattle.state.specs.declared.PushLine.{PushLine}
use Rattle.state.specs.declared.PushLine.TheVariants.{P1, P2, P3, P4, P5, P6, P7, P8, P9, P10}
use Rattle.state.specs.declared.StealLine.{StealLine}
use Rattle.state.specs.declared.StealLine.TheVariants.{S1, S2, S3, S4, S5, S6, S7, S8, S9, S10, S11, S12, S13, S14}
use Rattle.state.specs.declared.Call.{Call}
use Rattle.state.specs.declared.Call.TheVariants.{Idle, Push, Steal, Length, Empty}
use Rattle.state.specs.declared.Answer.{Answer}
use Rattle.state.specs.declared.Thread.{Thread}
use Rattle.state.specs.declared.Stepped.{Stepped}
use Rattle.machine.specs.Steal.{past}
use Rattle.machine.specs.Step.{is_open}

-- a won P4: the ticket of its position, and its token
pub record Pushed : Type 0 where
  pub ticket : ℕ
  pub token : ℕ

-- a won S4: the thread, the ticket of the head's position, and how many tickets from there on
pub record Claimed : Type 0 where
  pub thread : ℕ
  pub first : ℕ
  pub count : ℕ

-- a hand-over, the last S10 of a call: the thread, its kind of call, and its ring's tokens before and after
pub record Handed : Type 0 where
  pub thread : ℕ
  pub kind : Kind
  pub before : List ℕ
  pub after : List ℕ

-- a call that ended, with its answer
pub record Ended : Type 0 where
  pub thread : ℕ
  pub answer : Answer

-- in the order of the steps
pub data Note : Type 0 where
  pushes : Pushed → Note
  claims : Claimed → Note
  hands : Handed → Note
  ends : Ended → Note

-- what the line itself does
abbrev pub push_notes : Queue → PushLine → List Note
push_notes q (P1 v held) = []
push_notes q (P2 v t held) = []
push_notes q (P3 v t b) = []
push_notes q (P4 v t b held) =
    cond (eqb q.tail.raw t.raw) (pushes (record { ticket = ticket (position t.raw); token = v }) ∷ []) []
push_notes q (P5 v t b x) = []
push_notes q (P6 v t b x) = []
push_notes q (P7 v t b x) = []
push_notes q (P8 v t b held) = []
push_notes q (P9 v t b held) = []
push_notes q (P10 x spent) = []

abbrev pub steal_notes : Queue → ℕ → Thread → Thread → StealLine → List Note
steal_notes q n t t' (S1 k) = []
steal_notes q n t t' (S2 k h) = []
steal_notes q n t t' (S3 k h b) = []
steal_notes q n t t' (S4 k c more) =
    cond (eqb q.head.raw c.head.raw)
    (claims (record { thread = n; first = ticket (position c.head.raw); count = c.advance }) ∷ [])
    []
steal_notes q n t t' (S5 k c) = []
steal_notes q n t t' (S6 k c x) = []
steal_notes q n t t' (S7 k c x more) = []
steal_notes q n t t' (S8 k c more) = []
steal_notes q n t t' (S9 k c slot) = []
steal_notes q n t t' (S10 k c slot) =
    cond (eqb (slot + 1) (past c))
    (hands (record { thread = n; kind = k; before = contents t.ring; after = contents t'.ring }) ∷ [])
    []
steal_notes q n t t' (S11 won c slot) = []
steal_notes q n t t' (S12 won b slot) = []
steal_notes q n t t' (S13 won b slot) = []
steal_notes q n t t' (S14 won b) = []

abbrev pub line_notes : Queue → ℕ → Thread → Thread → Call → List Note
line_notes q n t t' Idle = []
line_notes q n t t' (Push line) = push_notes q line
line_notes q n t t' (Steal line) = steal_notes q n t t' line
line_notes q n t t' (Length line) = []
line_notes q n t t' (Empty line) = []

-- a step of thread n, from t to what it gave
unfoldable pub notes_of : Queue → ℕ → Thread → Stepped → List Note
notes_of q n t s =
    line_notes q n t s.thread t.call
    ++ cond (is_open s.answer) [] (ends (record { thread = n; answer = s.answer }) ∷ [])
