-- What a line makes: of the shared words and its call (`made`), and of the lent memory (`touch`).
use Rattle.std.specs.Prelude.{ℕ}
use Rattle.index.specs.declared.Index.{Index}
use Rattle.memory.specs.Touch.{Touch}
use Rattle.state.specs.declared.Queue.{Queue}
use Rattle.state.specs.declared.Call.{Call}
use Rattle.state.specs.declared.Call.TheVariants.{Idle}
use Rattle.state.specs.declared.Answer.{Answer}
use Rattle.state.specs.declared.Answer.TheVariants.{Open}
use Rattle.state.specs.declared.Thread.{Thread}
use Rattle.state.specs.declared.Made.{Made}
use Rattle.state.specs.declared.Stepped.{Stepped}

pub record Move : Type 0 where
  pub made : Made
  pub touch : Touch

-- the call goes on at a line
abbrev pub on : Queue → Call → Touch → Move
on q call touch = record { made = record { queue = q; call = call; answer = Open }; touch = touch }

-- the call ends with an answer
abbrev pub ends : Queue → Answer → Touch → Move
ends q answer touch = record { made = record { queue = q; call = Idle; answer = answer }; touch = touch }

-- one shared word changed
abbrev pub with_head : Queue → Index → Queue
with_head q i =
    record {
      head = i;
      head_block = q.head_block;
      tail = q.tail;
      tail_block = q.tail_block;
      ceiling = q.ceiling;
      threads = q.threads;
      blocks = q.blocks;
    }

abbrev pub with_head_block : Queue → ℕ → Queue
with_head_block q b =
    record {
      head = q.head;
      head_block = b;
      tail = q.tail;
      tail_block = q.tail_block;
      ceiling = q.ceiling;
      threads = q.threads;
      blocks = q.blocks;
    }

abbrev pub with_tail : Queue → Index → Queue
with_tail q i =
    record {
      head = q.head;
      head_block = q.head_block;
      tail = i;
      tail_block = q.tail_block;
      ceiling = q.ceiling;
      threads = q.threads;
      blocks = q.blocks;
    }

abbrev pub with_tail_block : Queue → ℕ → Queue
with_tail_block q b =
    record {
      head = q.head;
      head_block = q.head_block;
      tail = q.tail;
      tail_block = b;
      ceiling = q.ceiling;
      threads = q.threads;
      blocks = q.blocks;
    }

-- What a whole step makes: of the shared words and the thread (`stepped`), and of the lent memory.
pub record Step : Type 0 where
  pub stepped : Stepped
  pub touch : Touch

-- a line that changes of its thread the call alone
abbrev pub with_call : Thread → Call → Thread
with_call t call = record { ring = t.ring; call = call; taken = t.taken }

abbrev pub settle : Thread → Made → Stepped
settle t made = record { queue = made.queue; thread = with_call t made.call; answer = made.answer }

abbrev pub settled : Thread → Move → Step
settled t move = record { stepped = settle t move.made; touch = move.touch }
