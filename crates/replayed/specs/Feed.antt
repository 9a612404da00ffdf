-- A piece of the text is fed, and what it makes is written into a lent buffer: how much of the piece is read, and what
-- comes of it.
use Rattle.std.specs.Prelude.{ℕ, suc, ◌+◌, ◌-◌, ◌≤◌, ◌≡◌, Bool, true, false, cond, List, [], ◌∷◌, length, take, drop, leb, Option, Some, None}
use Rattle.std.proofs.lemmas.List.Edits.{sets}
use Rattle.text.specs.declared.Command.{Command}
use Rattle.replayed.specs.declared.Fed.{Fed}
use Rattle.replayed.specs.declared.Stage.{Stage}
use Rattle.replayed.specs.declared.Stage.TheVariants.{First, Open, Over}
use Rattle.replayed.specs.declared.Replay.{Replay}
use Rattle.replayed.specs.Replay.{Told, byte_told, told, at_end}

abbrev pub is_over : Stage → Bool
is_over First = false
is_over Open = false
is_over Over = true

abbrev pub is_first : Stage → Bool
is_first First = true
is_first Open = false
is_first Over = false

-- How many bytes are taken from the front of a piece, where so many bytes of the buffer are free: one after another
-- while at least 256 are free, which is room for all that one byte makes. Once the replay is over nothing more is
-- written, and the rest is taken at once.
unfoldable pub taken : Replay → List ℕ → List ℕ → ℕ → ℕ
taken r m [] free = 0
taken r m (byte ∷ bytes) free =
    cond (is_over r.stage) (suc (length bytes))
    (cond (leb 256 free)
    (suc (taken (byte_told r m byte).replay (byte_told r m byte).pool bytes (free - length (byte_told r m byte).out)))
    0)

-- The lent words are as many as the largest pool needs, 32 blocks of 128 words, or more; with fewer nothing is read.
abbrev pub reads : Replay → List ℕ → List ℕ → ℕ → ℕ
reads r m piece free = cond (leb 4096 (length m)) (taken r m piece free) 0

-- what the bytes that are read make
unfoldable pub fed : Replay → List ℕ → List ℕ → ℕ → Told
fed r m piece free = told r m (take (reads r m piece free) piece)

-- the end line goes out with 256 bytes free, and else nothing does
abbrev pub ends : Replay → ℕ → List ℕ
ends r free = cond (leb 256 free) (at_end r.stage r) []

-- What a feed comes to from a place of its piece and a place of its buffer on.
pub record Outcome : Type 0 where
  pub replay : Replay
  pub pool : List ℕ
  pub read : ℕ
  pub buffer : List ℕ
  pub written : ℕ

unfoldable pub rest : Replay → List ℕ → List ℕ → ℕ → Told
rest r m bytes free = told r m (take (taken r m bytes free) bytes)

unfoldable pub outcome : List ℕ → Replay → List ℕ → ℕ → List ℕ → ℕ → Outcome
outcome piece r m read buffer written =
    record {
      replay = (rest r m (drop read piece) (length buffer - written)).replay;
      pool = (rest r m (drop read piece) (length buffer - written)).pool;
      read = read + taken r m (drop read piece) (length buffer - written);
      buffer = sets buffer written (rest r m (drop read piece) (length buffer - written)).out;
      written = written + length (rest r m (drop read piece) (length buffer - written)).out;
    }

-- what a feed that started there answered and left: it comes to the outcome, within the piece and the buffer
pub record Came (piece : List ℕ) (r : Replay) (m : List ℕ) (read : ℕ) (out : List ℕ) (written : ℕ) (f : Fed) (m2 out2 : List ℕ) : Type 0 where
  pub comes :
      record { replay = f.replay; pool = m2; read = f.read; buffer = out2; written = f.written } ≡ outcome piece r m read out written
  pub inside : f.read ≤ length piece
  pub fits : f.written ≤ length out

-- a line after line 1: a queue line is malformed there
abbrev pub is_queue : Command → Bool
is_queue (Command.Queue threads blocks ceiling) = true
is_queue (Command.Push n token) = false
is_queue (Command.Steal n) = false
is_queue (Command.Batch n limit) = false
is_queue (Command.Take n limit) = false
is_queue (Command.Len n) = false
is_queue (Command.Empty n) = false
is_queue (Command.Pop n) = false
is_queue (Command.Step n) = false
is_queue (Command.Run n budget) = false

abbrev pub later_of : Option Command → Option Command
later_of None = None
later_of (Some c) = cond (is_queue c) None (Some c)

-- line 1: the queue line, or malformed
abbrev pub opening_of : Option Command → Option (ℕ × ℕ × ℕ)
opening_of None = None
opening_of (Some (Command.Queue threads blocks ceiling)) = Some (threads, blocks, ceiling)
opening_of (Some (Command.Push n token)) = None
opening_of (Some (Command.Steal n)) = None
opening_of (Some (Command.Batch n limit)) = None
opening_of (Some (Command.Take n limit)) = None
opening_of (Some (Command.Len n)) = None
opening_of (Some (Command.Empty n)) = None
opening_of (Some (Command.Pop n)) = None
opening_of (Some (Command.Step n)) = None
opening_of (Some (Command.Run n budget)) = None
