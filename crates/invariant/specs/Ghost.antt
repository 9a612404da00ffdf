-- What no code holds: who pushed and claimed which ticket, which block served which lap, who has each block.
use Rattle.std.specs.Prelude.{ℕ}

-- a number, where there is one
pub data Maybe : Type 0 where
  none : Maybe
  some : ℕ → Maybe

-- who has a block
pub data Own : Type 0 where
  -- the pool
  Free : Own
  -- the push of a thread, from P3 to P6 or P10
  Held : (thread : ℕ) → Own
  -- it serves a lap, from the head's to the tail's
  Open : (lap : ℕ) → Own
  -- it served a lap that the head has left, and is on its way back: the slots from `front` on are finished with,
  -- and a thread carries the walk on
  Back : (lap front thread : ℕ) → Own

abbrev pub lap_of : Own → Maybe
lap_of Free = none
lap_of (Held i) = none
lap_of (Open l) = some l
lap_of (Back l f i) = some l

abbrev pub front : Own → ℕ
front Free = 63
front (Held i) = 63
front (Open l) = 63
front (Back l f i) = f

abbrev pub resp : Own → Maybe
resp Free = none
resp (Held i) = none
resp (Open l) = none
resp (Back l f i) = some i

-- the logs are total functions, written only at their end and read only below it
pub record Ghost : Type 0 where
  -- of a ticket: its token, the thread whose P4 it was, the thread whose S4 it was
  pub pushed : ℕ → ℕ
  pub pusher : ℕ → ℕ
  pub claimer : ℕ → ℕ
  -- of a lap: the block that serves or served it
  pub chain : ℕ → ℕ
  -- of a block: who has it
  pub own : ℕ → Own
  -- of a thread: the first ticket of its last claim
  pub first : ℕ → ℕ
