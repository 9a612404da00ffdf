-- A text of ASCII characters as bytes, so that the other definitions can be read.
use Rattle.std.specs.Prelude.{ℕ, zero, suc, List, [], ◌∷◌}
use Prim.Native.Char.{code}
use Prim.Native.String.{String, len, char_at}

abbrev pub ascii_from : ℕ → String → ℕ → List ℕ
ascii_from zero s i = []
ascii_from (suc k) s i = code (char_at s i) ∷ ascii_from k s (suc i)

abbrev pub ascii : String → List ℕ
ascii s = ascii_from (len s) s 0
