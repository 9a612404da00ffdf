-- The lent memory's layout: 128 words a block, as 63 tokens, the next block, 63 slot states, the free mark.
-- A block that is all zeros is not free, has no next, and its slots are untouched: clearing is filling with 0.
use Rattle.std.specs.Prelude.{ℕ, ◌+◌, ◌*◌, ◌-◌, ◌/◌, ◌%◌, Bool, cond, List, get_or, eqb, Option, None, Some}
use Rattle.memory.specs.declared.Mark.{Mark}
use Rattle.memory.specs.declared.Mark.TheVariants.{Write, Read, Destroy}

abbrev pub token_at : ℕ → ℕ → ℕ
token_at b s = b * 128 + s

abbrev pub next_at : ℕ → ℕ
next_at b = b * 128 + 63

abbrev pub state_at : ℕ → ℕ → ℕ
state_at b s = b * 128 + (64 + s)

abbrev pub free_at : ℕ → ℕ
free_at b = b * 128 + 127

-- what stands there; past the end of what is lent stands 0
abbrev pub token : List ℕ → ℕ → ℕ → ℕ
token m b s = get_or m (token_at b s) 0

abbrev pub state : List ℕ → ℕ → ℕ → ℕ
state m b s = get_or m (state_at b s) 0

-- the word of a next is 0 for none, and else one more than the block's number
abbrev pub link : ℕ → Option ℕ
link w = cond (eqb w 0) None (Some (w - 1))

abbrev pub next : List ℕ → ℕ → Option ℕ
next m b = link (get_or m (next_at b) 0)

abbrev pub is_free : List ℕ → ℕ → Bool
is_free m b = eqb (get_or m (free_at b) 0) 1

-- the bits of a slot's state
abbrev pub bit : Mark → ℕ
bit Write = 1
bit Read = 2
bit Destroy = 4

abbrev pub has : Mark → ℕ → Bool
has k w = eqb (w / bit k % 2) 1

abbrev pub or : ℕ → Mark → ℕ
or w k = cond (has k w) w (w + bit k)
