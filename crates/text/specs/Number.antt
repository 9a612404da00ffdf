-- Decimal numbers as the replay text spells them, over lists of bytes: digits 48 to 57, no needless zero, no sign.
use Rattle.std.specs.Prelude.{ℕ, zero, suc, ◌+◌, ◌-◌, ◌*◌, ◌/◌, ◌%◌, Bool, false, cond, List, [], ◌∷◌, ◌++◌, ltb, leb, eqb, Option, Some, None}

abbrev pub is_digit : ℕ → Bool
is_digit c = cond (leb 48 c) (leb c 57) false

-- the value of a row of digits that follows digits worth v
unfoldable pub worth : ℕ → List ℕ → Option ℕ
worth v [] = Some v
worth v (c ∷ cs) = cond (is_digit c) (worth (v * 10 + (c - 48)) cs) None

abbrev pub bounded : Option ℕ → Option ℕ
bounded (Some v) = cond (leb v 18_446_744_073_709_551_615) (Some v) None
bounded None = None

-- a first zero stands alone
abbrev pub alone : List ℕ → Option ℕ
alone [] = Some 0
alone (c ∷ cs) = None

unfoldable pub number : List ℕ → Option ℕ
number [] = None
number (c ∷ cs) = cond (eqb c 48) (alone cs) (bounded (worth 0 (c ∷ cs)))

-- n in decimal: the digits of n / 10, unless that is 0, and the last digit. The first number only bounds how many there are
unfoldable pub digits_in : ℕ → ℕ → List ℕ
digits_in zero n = []
digits_in (suc k) n = let longer = digits_in k (n / 10) ++ ((48 + n % 10) ∷ []) in cond (ltb n 10) ((48 + n) ∷ []) longer

unfoldable pub digits : ℕ → List ℕ
digits n = digits_in (suc n) n
