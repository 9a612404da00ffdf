-- Which cells of the lent memory one step changes: nothing, one cell, or a whole block that is cleared.
use Rattle.std.specs.Prelude.{ℕ, ◌+◌, ◌*◌, List, set, replicate}
use Rattle.std.proofs.lemmas.List.Edits.{sets}
use Rattle.memory.specs.Layout.{token_at, state_at, next_at, free_at}

pub data Touch : Type 0 where
  leaves : Touch
  writes_token : (block slot token : ℕ) → Touch
  writes_state : (block slot word : ℕ) → Touch
  links : (block next : ℕ) → Touch
  frees : (block : ℕ) → Touch
  clears : (block : ℕ) → Touch

-- shut, since written out it is 128 stores
unfoldable pub cleared : List ℕ → ℕ → List ℕ
cleared m b = sets m (b * 128) (replicate 128 0)

-- the memory afterwards; a store past its end changes nothing
abbrev pub after : List ℕ → Touch → List ℕ
after m leaves = m
after m (writes_token b s v) = set m (token_at b s) v
after m (writes_state b s w) = set m (state_at b s) w
after m (links b x) = set m (next_at b) (x + 1)
after m (frees b) = set m (free_at b) 1
after m (clears b) = cleared m b
