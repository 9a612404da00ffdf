-- `|` with HAS_NEXT changes nothing where it is set, and else adds one.
use Rattle.std.specs.Prelude.{ℕ, ◌≡◌, true, bit_or}
use Rattle.std.proofs.Common.{arith}
use Rattle.std.proofs.lemmas.Grind.{common_steps}
use Rattle.std.specs.Int.Bits.{or_add_and}
use Rattle.index.specs.Claim.{with_next}

pub or_one : (i : ℕ) → bit_or i 1 ≡ with_next i true
or_one i = grind (arith, common_steps, or_add_and i 1)
