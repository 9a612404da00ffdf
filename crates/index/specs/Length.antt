-- document 01: "Advance" of a batch, and "Length"
use Rattle.std.specs.Prelude.{ℕ, ◌+◌, ◌*◌, ◌-◌, ◌/◌, min, cond, eqb}
use Rattle.index.specs.Position.{position, lap, offset, has_next}

-- min(63 − offset, limit)
abbrev pub to_block_end : ℕ → ℕ → ℕ
to_block_end p limit = min (63 - offset p) limit

-- min((tail position − head position + 1) / 2, limit)
abbrev pub half_of : ℕ → ℕ → ℕ → ℕ
half_of h t limit = min ((t - h + 1) / 2) limit

-- of the loaded head and tail indices: to the block's end if HAS_NEXT is set or the laps differ, else half
abbrev pub batch_advance : ℕ → ℕ → ℕ → ℕ
batch_advance head tail limit =
    cond (has_next head) (to_block_end (position head) limit)
    (cond (eqb (lap (position head)) (lap (position tail))) (half_of (position head) (position tail) limit)
    (to_block_end (position head) limit))

-- an offset of 63 is moved on by one position
abbrev pub moved_on : ℕ → ℕ
moved_on p = cond (eqb (offset p) 63) (p + 1) p

-- of two moved positions: the head's lap × 64 off both, then tail − head − tail / 64
abbrev pub len_from : ℕ → ℕ → ℕ
len_from t h = t - lap h * 64 - (h - lap h * 64) - (t - lap h * 64) / 64

-- of the tail's and the head's position
unfoldable pub len : ℕ → ℕ → ℕ
len t h = len_from (moved_on t) (moved_on h)
