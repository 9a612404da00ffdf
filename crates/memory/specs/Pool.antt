-- The pool: which block is taken, and what taking leaves. Callers cite `pick-block` and `pick-none` of `Laws`, never which block it is.
use Rattle.std.specs.Prelude.{ℕ, zero, suc, ◌*◌, ◌-◌, cond, List, set, replicate, Option, None, Some}
use Rattle.memory.specs.Layout.{is_free, free_at}
use Rattle.memory.specs.Touch.{Touch, leaves, clears}

-- the lowest-numbered free block among the n from b on
unfoldable pub free_from : List ℕ → ℕ → ℕ → Option ℕ
free_from m b zero = None
free_from m b (suc n) = cond (is_free m b) (Some b) (free_from m (suc b) n)

-- which block is taken of n
unfoldable pub pick : List ℕ → ℕ → Option ℕ
pick m n = free_from m 0 n

-- what taking it changes
abbrev pub taking : Option ℕ → Touch
taking None = leaves
taking (Some b) = clears b

-- the published length of the pool's lent words, and of the table of threads
abbrev pub pool_len : ℕ → ℕ → ℕ
pool_len threads blocks = blocks * 128

abbrev pub table_len : ℕ → ℕ → ℕ
table_len threads blocks = threads

-- what setup leaves in the lent words: all zeros, but that blocks 1 to n are marked free
unfoldable pub freed : List ℕ → ℕ → List ℕ
freed m zero = m
freed m (suc n) = set (freed m n) (free_at (suc n)) 1

abbrev pub fresh : ℕ → ℕ → List ℕ
fresh len blocks = freed (replicate len 0) (blocks - 1)
