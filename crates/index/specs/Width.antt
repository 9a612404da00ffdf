-- the one fact about 64 bits: an index in use is so far below 2 ^ 64 that no sum of the step table wraps
use Rattle.std.specs.Prelude.{ℕ, ◌+◌, ◌*◌, ◌≤◌, ◌<◌, ◌^◌}
use Rattle.std.proofs.Common.{arith}
use Rattle.index.specs.Position.{position}

-- L is the lap ceiling, and n what an advance adds: at most a block. The 3 is what leaving a lap adds.
pub fits : (i L n : ℕ) → position i ≤ L * 64 → L ≤ 4294967295 → n ≤ 64 → i + 2 * n + 3 < 2 ^ 64
fits i L n b l m = omega arith
