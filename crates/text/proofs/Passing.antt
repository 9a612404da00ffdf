-- A field and its number read from a place of the line, a byte at a time, in one pass. (Those of the laws that nothing cites stand since docs/PORT.md names them.)
use Prim.Native.Nat.{ℕ, ◌+◌, ◌-◌, ◌*◌, ◌/◌, ◌^◌, ◌≤◌, ◌<◌}
use mathlib.Core.Path.{◌≡◌, refl, ap, ◌∙◌}
use mathlib.Core.List.{List, [], ◌∷◌}
use native.Mathlib.Nat.{add-zero}
use native.Mathlib.Numerals.{add-one}
use native.Mathlib.Omega.{arith}
use lib.ListN.{length, get_or, drop, drop_of_length-le}
use lib.Seq.{drop-cons}
use borrow.Author.Tests.{le-leb, ne_eqb}
use Rattle.std.specs.Prelude.{Some, None}
use Rattle.text.specs.Number.{worth, bounded, number}
use Rattle.text.specs.Line.{first, behind, row_at, number_at}
use Rattle.text.proofs.Rows.{worth_digit, worth-low, worth-high, worth-past}

-- ---- the first field, a byte at a time

module _ (l : List ℕ) (i : ℕ) where
  pub first-end : length l ≤ i → first (drop i l) ≡ []
  unfolding first
  first-end h = rw drop_of_length-le

  pub first_tab : i < length l → get_or l i 0 ≡ 9 → first (drop i l) ≡ []
  unfolding first
  first_tab h e = rw (drop-cons l i 0 h, e)

  pub first_more : i < length l → (get_or l i 0 ≡ 9 → ⊥) → first (drop i l) ≡ get_or l i 0 ∷ first (drop (i + 1) l)
  unfolding first
  first_more h e = rw (drop-cons l i 0 h, ne_eqb (get_or l i 0) 9 e, add-one)

-- what a loop has passed, and the first field of what is left, make up the first field
module _ (l : List ℕ) (i : ℕ) (sum : length (first l) ≡ i + length (first (drop i l))) where
  pub passed-more : i < length l → (get_or l i 0 ≡ 9 → ⊥) → length (first l) ≡ i + 1 + length (first (drop (i + 1) l))
  passed-more h e = omega (arith, ap length (first_more l i h e))

  pub passed_tab : i < length l → get_or l i 0 ≡ 9 → i ≡ length (first l)
  passed_tab h e = omega (arith, ap length (first_tab l i h e))

  pub passed-end : length l ≤ i → i ≡ length (first l)
  passed-end h = omega (arith, ap length (first-end l i h))

-- ---- a row of digits from a place of the line on

-- the row that starts at a place is read up to place i, and what is read is worth v
pub record Reading (l : List ℕ) (at i v : ℕ) : Type 0 where
  pub small : v < 2 ^ 64
  pub place : behind l at ≡ i + length (first (drop i l))
  pub row : worth 0 (first (drop at l)) ≡ worth v (first (drop i l))

pub reading-none : (l : List ℕ) (at : ℕ) → Reading l at at 0
reading-none l at = record { small = omega arith; place = refl; row = refl }

module _ {l : List ℕ} {at i v : ℕ} (r : Reading l at i v) where
  pub reading-end : length l ≤ i → Some (v, i) ≡ row_at l at
  unfolding worth
  reading-end h =
      let none : first (drop i l) ≡ [] = first-end l i h in
      rw (r.place, r.row, none, add-zero, le-leb v 18_446_744_073_709_551_615 (omega (arith, r.small)))

  pub reading_tab : i < length l → get_or l i 0 ≡ 9 → Some (v, i) ≡ row_at l at
  unfolding worth
  reading_tab h e =
      let none : first (drop i l) ≡ [] = first_tab l i h e in
      rw (r.place, r.row, none, add-zero, le-leb v 18_446_744_073_709_551_615 (omega (arith, r.small)))

  module _ (inside : i < length l) (other : get_or l i 0 ≡ 9 → ⊥) where
    pub reading-low : get_or l i 0 < 48 → None ≡ row_at l at
    reading-low h = rw (r.row, first_more l i inside other, worth-low v (get_or l i 0) (first (drop (i + 1) l)) h)

    pub reading-high : 57 < get_or l i 0 → None ≡ row_at l at
    reading-high h = rw (r.row, first_more l i inside other, worth-high v (get_or l i 0) (first (drop (i + 1) l)) h)

    module _ (low : 48 ≤ get_or l i 0) (high : get_or l i 0 ≤ 57) where
      pub reading-past : (18_446_744_073_709_551_615 - (get_or l i 0 - 48)) / 10 < v → None ≡ row_at l at
      reading-past h =
          let over : bounded (worth (v * 10 + (get_or l i 0 - 48)) (first (drop (i + 1) l))) ≡ None = worth-past (v * 10 + (get_or l i 0 - 48)) (first (drop (i + 1) l)) (omega arith) in
          rw (r.row, first_more l i inside other, worth_digit v (get_or l i 0) (first (drop (i + 1) l)) low high, over)

      pub reading-more : v ≤ (18_446_744_073_709_551_615 - (get_or l i 0 - 48)) / 10 → Reading l at (i + 1) (v * 10 + (get_or l i 0 - 48))
      reading-more h =
          record {
            small = omega arith;
            place = omega (arith, r.place, ap length (first_more l i inside other));
            row = r.row ∙ rw (first_more l i inside other, worth_digit v (get_or l i 0) (first (drop (i + 1) l)) low high);
          }

-- ---- the number that a field is, by its first byte

module _ (l : List ℕ) (at : ℕ) where
  pub number-end : length l ≤ at → None ≡ number_at l at
  unfolding number
  number-end h = rw (first-end l at h)

  module _ (inside : at < length l) where
    pub number-tab : get_or l at 0 ≡ 9 → None ≡ number_at l at
    unfolding number
    number-tab e = rw (first_tab l at inside e)

    pub number-row : (get_or l at 0 ≡ 9 → ⊥) → (get_or l at 0 ≡ 48 → ⊥) → row_at l at ≡ number_at l at
    unfolding number
    number-row e f = rw (first_more l at inside e, ne_eqb (get_or l at 0) 48 f)

    module _ (zero : get_or l at 0 ≡ 48) where
      zero-first : first (drop at l) ≡ 48 ∷ first (drop (at + 1) l)
      zero-first = first_more l at inside (omega arith) ∙ ap (λ (c : ℕ). c ∷ first (drop (at + 1) l)) zero

      pub zero_more : at + 1 < length l → (get_or l (at + 1) 0 ≡ 9 → ⊥) → None ≡ number_at l at
      unfolding number
      zero_more h e = rw (zero-first, first_more l (at + 1) h e)

      zero-alone : first (drop (at + 1) l) ≡ [] → Some (0, at + 1) ≡ number_at l at
      unfolding number
      zero-alone e = rw (zero-first, e)

      pub zero-tab : at + 1 < length l → get_or l (at + 1) 0 ≡ 9 → Some (0, at + 1) ≡ number_at l at
      zero-tab h e = zero-alone (first_tab l (at + 1) h e)

      pub zero-end : length l ≤ at + 1 → Some (0, at + 1) ≡ number_at l at
      zero-end h = zero-alone (first-end l (at + 1) h)
