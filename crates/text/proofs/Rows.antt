-- Reading a row of digits from the left: what one more byte does, and that a value past the largest is never mended.
use Prim.Native.Nat.{ℕ, suc, ◌+◌, ◌-◌, ◌*◌, ◌^◌, ◌≤◌, ◌<◌}
use mathlib.Core.Path.{◌≡◌, refl, ◌∙◌}
use mathlib.Core.Bool.{Bool, true, false, cond}
use mathlib.Core.List.{List, [], ◌∷◌}
use native.Mathlib.Numerals.{add-one}
use native.Mathlib.Omega.{arith}
use lib.ListN.{length, get_or, drop, drop_of_length-le}
use lib.Seq.{drop-cons}
use borrow.Author.Tests.{le-leb, lt-leb}
use Rattle.std.specs.Prelude.{Some, None}
use Rattle.text.specs.Number.{is_digit, worth, bounded}

module _ (v c : ℕ) (cs : List ℕ) where
  pub worth_digit : 48 ≤ c → c ≤ 57 → worth v (c ∷ cs) ≡ worth (v * 10 + (c - 48)) cs
  unfolding worth
  worth_digit h k = rw (le-leb 48 c h, le-leb c 57 k)

  pub worth-low : c < 48 → worth v (c ∷ cs) ≡ None
  unfolding worth
  worth-low h = rw (lt-leb 48 c h)

  pub worth-high : 57 < c → worth v (c ∷ cs) ≡ None
  unfolding worth
  worth-high h = rw (le-leb 48 c (omega arith), lt-leb c 57 h)

pub worth-past : (v : ℕ) (cs : List ℕ) → 18_446_744_073_709_551_615 < v → bounded (worth v cs) ≡ None
unfolding worth
worth-past v [] h = rw (lt-leb v 18_446_744_073_709_551_615 h)
worth-past v (c ∷ cs) h = go (is_digit c) (worth-past (v * 10 + (c - 48)) cs (omega arith))
  where
    go : (b : Bool) → bounded (worth (v * 10 + (c - 48)) cs) ≡ None
        → bounded (cond b (worth (v * 10 + (c - 48)) cs) None) ≡ None
    go true e = e
    go false e = refl

-- the row is read up to place i, and what is read is worth v
pub record Reading (row : List ℕ) (i v : ℕ) : Type 0 where
  pub small : v < 2 ^ 64
  pub rest : worth 0 row ≡ worth v (drop i row)

pub reading-none : (row : List ℕ) → Reading row 0 0
reading-none row = record { small = omega arith; rest = refl }

module _ {row : List ℕ} {i v : ℕ} (r : Reading row i v) where
  pub reading-end : length row ≤ i → Some v ≡ bounded (worth 0 row)
  unfolding worth
  reading-end h =
      let none : drop i row ≡ [] = drop_of_length-le row h in
      rw (r.rest, none, le-leb v 18_446_744_073_709_551_615 (omega (arith, r.small)))

  module _ (inside : i < length row) where
    pub reading-low : get_or row i 0 < 48 → None ≡ bounded (worth 0 row)
    reading-low h = rw (r.rest, drop-cons row i 0 inside, worth-low v (get_or row i 0) (drop (suc i) row) h)

    pub reading-high : 57 < get_or row i 0 → None ≡ bounded (worth 0 row)
    reading-high h = rw (r.rest, drop-cons row i 0 inside, worth-high v (get_or row i 0) (drop (suc i) row) h)

    module _ (low : 48 ≤ get_or row i 0) (high : get_or row i 0 ≤ 57) where
      pub reading-past : 18_446_744_073_709_551_615 < v * 10 + (get_or row i 0 - 48) → None ≡ bounded (worth 0 row)
      reading-past h =
          let over : bounded (worth (v * 10 + (get_or row i 0 - 48)) (drop (suc i) row)) ≡ None = worth-past (v * 10 + (get_or row i 0 - 48)) (drop (suc i) row) h in
          rw (r.rest, drop-cons row i 0 inside, worth_digit v (get_or row i 0) (drop (suc i) row) low high, over)

      pub reading-more : v * 10 + (get_or row i 0 - 48) < 2 ^ 64 → Reading row (i + 1) (v * 10 + (get_or row i 0 - 48))
      reading-more h =
          record {
            small = h;
            rest = r.rest ∙ rw (drop-cons row i 0 inside, worth_digit v (get_or row i 0) (drop (suc i) row) low high, add-one);
          }
