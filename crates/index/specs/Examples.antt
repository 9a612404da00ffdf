-- E1 to E10 of document 01, proved by computing the definitions. `len` takes the tail's position, then the head's;
-- `batch_advance` takes the head's index, the tail's, and the limit, and twice a position is its index without HAS_NEXT.
use Rattle.std.specs.Prelude.{◌*◌, ◌≡◌, refl, true, false, eqb}
use Rattle.index.specs.Position.{position, lap, offset}
use Rattle.index.specs.Claim.{claimed, left_lap}
use Rattle.index.specs.Length.{len, batch_advance}

pub E1 : len 130 10 ≡ 118
unfolding len
E1 = refl

pub E2 : len 63 63 ≡ 0
unfolding len
E2 = refl

-- length 0, yet empty, which compares the positions, says no
pub E3 : (len 64 63 ≡ 0) × (eqb 63 64 ≡ false)
unfolding len
E3 = (refl, refl)

pub E4 : len 63 62 ≡ 1
unfolding len
E4 = refl

pub E5 : batch_advance (2 * 0) (2 * 5) 10 ≡ 3
E5 = refl

pub E6 : batch_advance (2 * 0) (2 * 1) 10 ≡ 1
E6 = refl

pub E7 : batch_advance (2 * 0) (2 * 5) 2 ≡ 2
E7 = refl

pub E8 : batch_advance (2 * 60) (2 * 70) 32 ≡ 3
E8 = refl

pub E9 : batch_advance (2 * 0) (2 * 63) 63 ≡ 32
E9 = refl

-- a steal at index 124, tail index 128: the laps differ, so S4 sets 127; the offset is then 63,
-- and S8 stores 128 if the next block has no next
pub E10 : (eqb (lap (position 124)) (lap (position 128)) ≡ false) × (claimed 124 1 true ≡ 127) × (offset (position 127) ≡ 63) × (left_lap 127 false ≡ 128)
E10 = (refl, refl, refl, refl)
