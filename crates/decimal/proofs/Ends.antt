-- where a number's field ends, and where its row of digits does, as what is left of the line shows it
use Rattle.std.proofs.Common.{arith, refl, sym, ap, ◌∙◌, ◌≡◌, ◌==◌, ℕ, ◌+◌, ◌-◌, ◌*◌, ◌^◌, ◌<◌, ◌≤◌, Bool, true, false, not, cond, List, [], ◌∷◌, length, get_or, drop, take, take_while, Some, None, take_all, length-drop}
use Rattle.std.proofs.lemmas.List.{get_or-drop}
use Rattle.std.proofs.lemmas.List.Sums.{take_while-cons}
use Rattle.std.specs.List.{slice_range}
use Rattle.text.specs.Line.{first, behind, number_at, row_at}
use Rattle.text.specs.Number.{number}
use Rattle.text.proofs.Parting.{first_le, first-take}
use Rattle.text.proofs.Rows as rows
use Rattle.text.proofs.Passing.{Reading, number-end, number-tab, number-row, zero_more, zero-tab, zero-end, reading-none, reading-end, reading_tab, reading-low, reading-high, reading-past, reading-more}

-- what is left of a line from a place on
pub record Left (l : List ℕ) (at : ℕ) (rest : List ℕ) : Type 0 where
  pub part : rest ≡ slice_range l at (length l)

module _ {l : List ℕ} {at : ℕ} {rest : List ℕ} (left : Left l at rest) where
  rest_is : rest ≡ drop at l
  rest_is = left.part ∙ take_all _ (drop at l) (omega (arith, length-drop {A = ℕ}))

  len : length rest ≡ length l - at
  len = ap length rest_is ∙ length-drop at l

  byte : (i : ℕ) → get_or rest i 0 ≡ get_or l (at + i) 0
  byte i = rw rest_is (get_or-drop at l i 0)

  byte-0 : get_or rest 0 0 ≡ get_or l at 0
  byte-0 = let n : at + 0 ≡ at = omega arith in byte 0 ∙ rw n

  pub none_left : length rest < 1 → None ≡ number_at l at
  none_left h = number-end l at (omega (arith, len))

  pub tab_first : 1 ≤ length rest → get_or rest 0 0 ≡ 9 → None ≡ number_at l at
  tab_first h e = number-tab l at (omega (arith, len)) (sym byte-0 ∙ e)

  pub zero_alone : length rest ≡ 1 → get_or rest 0 0 ≡ 48 → Some (0, at + 1) ≡ number_at l at
  zero_alone h e = zero-end l at (omega (arith, len)) (sym byte-0 ∙ e) (omega (arith, len))

  pub zero_tab : 2 ≤ length rest → get_or rest 0 0 ≡ 48 → get_or rest 1 0 ≡ 9 → Some (0, at + 1) ≡ number_at l at
  zero_tab h e f = zero-tab l at (omega (arith, len)) (sym byte-0 ∙ e) (omega (arith, len)) (sym (byte 1) ∙ f)

  pub zero_first : 2 ≤ length rest → get_or rest 0 0 ≡ 48 → (get_or rest 1 0 ≡ 9 → ⊥) → None ≡ number_at l at
  zero_first h e f = zero_more l at (omega (arith, len)) (sym byte-0 ∙ e) (omega (arith, len)) (λ q. f (byte 1 ∙ q))

  pub row_first : 1 ≤ length rest → (get_or rest 0 0 ≡ 9 → ⊥) → (get_or rest 0 0 ≡ 48 → ⊥) → row_at l at ≡ number_at l at
  row_first h e f = number-row l at (omega (arith, len)) (λ q. e (byte-0 ∙ q)) (λ q. f (byte-0 ∙ q))

-- a digit, as the checked arithmetic takes it
module _ {l : List ℕ} {at i v : ℕ} (r : Reading l at i v) (inside : i < length l) (low : 48 ≤ get_or l i 0) (high : get_or l i 0 ≤ 57) where
  no_tab : get_or l i 0 ≡ 9 → ⊥
  no_tab e = absurd (omega arith)

  pub row-past : 18_446_744_073_709_551_615 < v * 10 + (get_or l i 0 - 48) → None ≡ row_at l at
  row-past h = reading-past r inside no_tab low high (omega arith)

  pub row-more : {w : ℕ} → w ≡ v * 10 + (get_or l i 0 - 48) → w < 2 ^ 64 → Reading l at (i + 1) w
  row-more e h = rw e (reading-more r inside no_tab low high (omega (arith, e)))

-- ---- a field as its length shows it, with the number that it is: public laws, for a number read from the field cut out

first_is : (l : List ℕ) → take_while (λ b. not (b == 9)) l ≡ first l
unfolding first
first_is [] = refl
first_is (x ∷ xs) = rw (take_while-cons (λ b. not (b == 9)) x xs, first_is xs) (go (x == 9))
  where
    go : (b : Bool) → cond (not b) (x ∷ first xs) [] ≡ cond b [] (x ∷ first xs)
    go true = refl
    go false = refl

pub outside : (line : List ℕ) (at : ℕ) → length line < at → None ≡ number_at line at
outside line at h = number-end line at (omega arith)

-- the rest of a line from a place on, and how long its first field is
pub record Field (line : List ℕ) (at : ℕ) (rest : List ℕ) (n : ℕ) : Type 0 where
  pub part : rest ≡ slice_range line at (length line)
  pub len : n ≡ length (take_while (λ b. not (b == 9)) rest)

module _ {line : List ℕ} {at : ℕ} {rest : List ℕ} {n : ℕ} (f : Field line at rest n) where
  left : Left line at rest
  left = record { part = f.part }

  whole : rest ≡ drop at line
  whole = rest_is left

  field_is : take n rest ≡ first (drop at line)
  field_is = rw (f.len, first_is rest, whole) (first-take (drop at line))

  pub field_le : n ≤ length rest
  field_le = rw (f.len, first_is rest) (first_le rest)

  behind_is : behind line at ≡ at + n
  behind_is = rw (f.len, first_is rest, whole)

  pub no_number : None ≡ number (take n rest) → None ≡ number_at line at
  no_number e = rw (← field_is, ← e)

  pub number_found : {v : ℕ} → Some v ≡ number (take n rest) → Some (v, at + n) ≡ number_at line at
  number_found e = rw (behind_is, ← field_is, ← e)

-- ---- what `read_number` and `read_row` are proved by; and behind that what another crate, which reads a field cut out, has by these names

pub ruleset field_ends = (number-end, none_left, tab_first, zero_alone, zero_tab, zero_first, row_first, outside, field_le, no_number, number_found)

pub ruleset row_ends = (reading-none, reading-end, reading_tab, reading-low, reading-high, row-past, rows.reading-none, rows.reading-end, rows.reading-low, rows.reading-high, rows.reading-past, rows.reading-more)
