-- the indices that the compares and stores of the step table write
use Rattle.std.specs.Prelude.{ℕ, ◌+◌, ◌*◌, ◌-◌, ◌%◌, Bool, cond}
use Rattle.index.specs.Position.{has_next}

-- n positions on, HAS_NEXT as it is: P4 has n 1, P6 has n 2 from the block's last slot
abbrev pub advanced : ℕ → ℕ → ℕ
advanced i n = i + 2 * n

-- HAS_NEXT kept, or added
abbrev pub with_next : ℕ → Bool → ℕ
with_next i next = cond next (cond (has_next i) i (i + 1)) i

-- S4's new head
abbrev pub claimed : ℕ → ℕ → Bool → ℕ
claimed h advance next = with_next (advanced h advance) next

-- S8's new head: without HAS_NEXT, plus 2, plus 1 if the next block has a next
abbrev pub left_lap : ℕ → Bool → ℕ
left_lap i next = cond next (i - i % 2 + 2 + 1) (i - i % 2 + 2)
