-- What a command makes of the machine, and what the replay says of it.
use Rattle.std.specs.Prelude.{Option, Some, None, Result, Ok, Err, ℕ, List, []}
use Rattle.state.specs.Answers.{number}
use Rattle.state.specs.declared.Queue.{Queue}
use Rattle.state.specs.declared.Thread.{Thread}
use Rattle.state.specs.declared.Answer.{Answer}
use Rattle.state.specs.declared.Refusal.{Refusal}
use Rattle.machine.specs.Step.{After}
use Rattle.machine.specs.Entry.{step_entry, run_entry, begin_entry, pop_entry}
use Rattle.machine.specs.declared.Request.{Request}
use Rattle.machine.specs.declared.Given.{Given}
use Rattle.text.specs.declared.Command.{Command}
use Rattle.text.specs.declared.Word.{Word}
use Rattle.text.specs.Print.{line_bytes, line_number_bytes}
use Rattle.replayed.specs.declared.Said.{Said}
use Rattle.replayed.specs.declared.Said.TheVariants.{Silent, Plain, Numbered}
use Rattle.replayed.specs.declared.Done.{Done}

abbrev pub refused_said : Refusal → Said
refused_said r = Numbered Word.Refused (number r)

-- an ended call's answer is said; a call that stays open is not, but where a run used its budget up
abbrev pub answer_said : Said → Answer → Said
answer_said still Answer.Open = still
answer_said still Answer.Pushed = Plain Word.Pushed
answer_said still (Answer.Task token) = Numbered Word.Task token
answer_said still Answer.Moved = Plain Word.Moved
answer_said still Answer.Empty = Plain Word.Empty
answer_said still Answer.Retry = Plain Word.Retry
answer_said still (Answer.Len n) = Numbered Word.Len n
answer_said still Answer.Yes = Plain Word.Yes
answer_said still Answer.No = Plain Word.No
answer_said still (Answer.Refused r) = refused_said r

-- an accepted begin says nothing
abbrev pub began_said : Result Unit Refusal → Said
began_said (Ok tt) = Silent
began_said (Err r) = refused_said r

abbrev pub popped_said : Result (Option ℕ) Refusal → Said
popped_said (Ok (Some token)) = Numbered Word.Task token
popped_said (Ok None) = Plain Word.Nothing
popped_said (Err r) = refused_said r

-- what a command of one thread gives, and the lent words after it
pub record Ordered : Type 0 where
  pub done : Done
  pub pool : List ℕ

abbrev pub ran_done : Said → After → Ordered
ran_done still a =
    record {
      done =
          record { queue = a.ran.queue; thread = a.ran.thread; said = answer_said still a.ran.answer; steps = a.ran.steps };
      pool = a.pool;
    }

abbrev pub begun_done : Queue → List ℕ → Given Unit → Ordered
begun_done q m b = record { done = record { queue = q; thread = b.thread; said = began_said b.answer; steps = 0 }; pool = m }

abbrev pub popped_done : Queue → List ℕ → Given (Option ℕ) → Ordered
popped_done q m p = record { done = record { queue = q; thread = p.thread; said = popped_said p.answer; steps = 0 }; pool = m }

-- the commands of one thread n, whose record is t
abbrev pub begins : Queue → List ℕ → Thread → ℕ → Request → Ordered
begins q m t n what = begun_done q m (begin_entry q m t n what)

abbrev pub pops : Queue → List ℕ → Thread → ℕ → Ordered
pops q m t n = popped_done q m (pop_entry q m t n)

abbrev pub steps_one : Queue → List ℕ → Thread → ℕ → Ordered
steps_one q m t n = ran_done Silent (step_entry q m t n)

abbrev pub runs : Queue → List ℕ → Thread → ℕ → ℕ → Ordered
runs q m t n budget = ran_done (Plain Word.Open) (run_entry q m t n budget)

-- the number of the thread that a command names, and what the command does, over that thread's record. A queue line
-- names none, and nobody asks what it does: the replay takes it for malformed.
abbrev pub thread_number : Command → ℕ
thread_number (Command.Queue threads blocks ceiling) = 0
thread_number (Command.Push n token) = n
thread_number (Command.Steal n) = n
thread_number (Command.Batch n limit) = n
thread_number (Command.Take n limit) = n
thread_number (Command.Len n) = n
thread_number (Command.Empty n) = n
thread_number (Command.Pop n) = n
thread_number (Command.Step n) = n
thread_number (Command.Run n budget) = n

abbrev pub idle : Queue → List ℕ → Thread → Ordered
idle q m t = record { done = record { queue = q; thread = t; said = Silent; steps = 0 }; pool = m }

-- what a command that begins a call asks for
abbrev pub request_of : Command → Request
request_of (Command.Queue threads blocks ceiling) = Request.Empty
request_of (Command.Push n token) = Request.Push token
request_of (Command.Steal n) = Request.Steal
request_of (Command.Batch n limit) = Request.Batch limit
request_of (Command.Take n limit) = Request.Take limit
request_of (Command.Len n) = Request.Len
request_of (Command.Empty n) = Request.Empty
request_of (Command.Pop n) = Request.Empty
request_of (Command.Step n) = Request.Empty
request_of (Command.Run n budget) = Request.Empty

abbrev pub order_of : Queue → List ℕ → Thread → Command → Ordered
order_of q m t (Command.Queue threads blocks ceiling) = idle q m t
order_of q m t (Command.Push n token) = begins q m t n (Request.Push token)
order_of q m t (Command.Steal n) = begins q m t n Request.Steal
order_of q m t (Command.Batch n limit) = begins q m t n (Request.Batch limit)
order_of q m t (Command.Take n limit) = begins q m t n (Request.Take limit)
order_of q m t (Command.Len n) = begins q m t n Request.Len
order_of q m t (Command.Empty n) = begins q m t n Request.Empty
order_of q m t (Command.Pop n) = pops q m t n
order_of q m t (Command.Step n) = steps_one q m t n
order_of q m t (Command.Run n budget) = runs q m t n budget

-- the line of output: line number, thread as given, word, number if any
abbrev pub said_bytes : ℕ → ℕ → Said → List ℕ
said_bytes l n Silent = []
said_bytes l n (Plain w) = line_bytes l n w
said_bytes l n (Numbered w v) = line_number_bytes l n w v
