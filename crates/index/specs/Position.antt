-- document 01, "Leaves first": what an index packs. All over plain naturals: no width.
use Rattle.std.specs.Prelude.{ℕ, ◌+◌, ◌*◌, ◌/◌, ◌%◌, Bool, eqb}

-- of an index: its position, and its low bit HAS_NEXT
abbrev pub position : ℕ → ℕ
position i = i / 2

abbrev pub has_next : ℕ → Bool
has_next i = eqb (i % 2) 1

-- of a position: its lap and its offset there
abbrev pub lap : ℕ → ℕ
lap p = p / 64

abbrev pub offset : ℕ → ℕ
offset p = p % 64

-- of a position with offset below 63: its ticket number. (At offset 63 it is the next lap's first ticket.)
abbrev pub ticket : ℕ → ℕ
ticket p = 63 * lap p + offset p
