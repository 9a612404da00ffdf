-- What `&` and `|` with a mark's bit are, in the words of the layout: one binary digit, and a sum where it is clear.
use Rattle.std.specs.Prelude.{ℕ, ◌*◌, ◌/◌, ◌%◌, ◌≡◌, eqb, not, bit_and, bit_or}
use Rattle.std.proofs.Common.{arith}
use Rattle.std.proofs.lemmas.Nat.Bits.{and_pow}
use Rattle.std.specs.Int.Bits.{or_add_and}
use Rattle.memory.specs.declared.Mark.{Mark}
use Rattle.memory.specs.declared.Mark.TheVariants.{Write, Read, Destroy}
use Rattle.memory.specs.Layout.{bit, has, or}

digit : (k : Mark) (w : ℕ) → bit_and w (bit k) ≡ w / bit k % 2 * bit k
digit Write w = and_pow w 0
digit Read w = and_pow w 1
digit Destroy w = and_pow w 2

pub and_bit : (k : Mark) (w : ℕ) → not (eqb (bit_and w (bit k)) 0) ≡ has k w
and_bit Write w = grind (arith, digit Write w)
and_bit Read w = grind (arith, digit Read w)
and_bit Destroy w = grind (arith, digit Destroy w)

pub or_bit : (w : ℕ) (k : Mark) → bit_or w (bit k) ≡ or w k
or_bit w Write = grind (arith, digit Write w, or_add_and w 1)
or_bit w Read = grind (arith, digit Read w, or_add_and w 2)
or_bit w Destroy = grind (arith, digit Destroy w, or_add_and w 4)
