-- No line of the output is longer than 100 bytes. (The longest has 71: three numbers of 20 digits, a word of 7 letters, three tabs and the line feed.)
use Prim.Native.Nat.{ℕ, ◌^◌, ◌≤◌, ◌<◌}
use mathlib.Core.List.{[], ◌∷◌, ◌++◌}
use native.Mathlib.Omega.{arith}
use lib.ListN.{length, length-append}
use Rattle.text.specs.Print.{line_bytes, line_number_bytes, bad_bytes, refused_bytes, end_bytes, queue_bytes}
use Rattle.text.specs.declared.Word.{Word}
use Rattle.text.proofs.Digits.{digits-length}
use Rattle.text.proofs.Writing.{word-length}

module _ (l : ℕ) (small : l < 2 ^ 64) where
  pub bad-length : length (bad_bytes l) ≤ 100
  unfolding bad_bytes
  bad-length = simp length-append (omega (arith, digits-length l small, word-length Word.Bad))

  pub end-length : length (end_bytes l) ≤ 100
  unfolding end_bytes
  end-length = simp length-append (omega (arith, digits-length l small, word-length Word.End))

  module _ (t : ℕ) (small-t : t < 2 ^ 64) where
    pub line-length : (w : Word) → length (line_bytes l t w) ≤ 100
    unfolding line_bytes
    line-length w =
        simp length-append (omega (arith, digits-length l small, digits-length t small-t, word-length w))

    pub refused-length : length (refused_bytes l t) ≤ 100
    unfolding refused_bytes
    refused-length =
        simp length-append (omega (arith, digits-length l small, digits-length t small-t, word-length Word.Refused))

    module _ (n : ℕ) (small_n : n < 2 ^ 64) where
      pub line-number-length : (w : Word) → length (line_number_bytes l t w n) ≤ 100
      unfolding line_number_bytes
      line-number-length w =
          simp length-append
          (omega (arith, digits-length l small, digits-length t small-t, digits-length n small_n, word-length w))

      pub queue-length : length (queue_bytes l t n ++ (10 ∷ [])) ≤ 100
      unfolding queue_bytes
      queue-length =
          simp length-append
          (omega (arith, digits-length l small, digits-length t small-t, digits-length n small_n, word-length Word.Queue))
