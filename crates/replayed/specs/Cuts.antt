-- A caller feeds a whole text: call after call it lends some bytes of the text that is not yet read, and a buffer.
use Rattle.std.specs.Prelude.{ℕ, List, [], ◌∷◌, ◌++◌, take, drop}
use Rattle.replayed.specs.declared.Replay.{Replay}
use Rattle.replayed.specs.Feed.{reads, fed}

-- one call: how many bytes are lent, at most all that are left, and how long the buffer is
pub record Lent : Type 0 where
  pub bytes : ℕ
  pub free : ℕ

-- after some calls: the replay, the lent words, the text that is left, and all that was written
pub record Driven : Type 0 where
  pub replay : Replay
  pub pool : List ℕ
  pub left : List ℕ
  pub out : List ℕ

-- what a call does not read is lent again by the next
unfoldable pub driven : Replay → List ℕ → List ℕ → List Lent → Driven
driven r m text [] = record { replay = r; pool = m; left = text; out = [] }
driven r m text (c ∷ cs) =
    let piece = take c.bytes text in
    let now = fed r m piece c.free in
    let later = driven now.replay now.pool (drop (reads r m piece c.free) text) cs in
    record { replay = later.replay; pool = later.pool; left = later.left; out = now.out ++ later.out }
