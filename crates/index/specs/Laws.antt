-- what everybody cites of positions, laps and offsets; none is tied to a width
use Rattle.std.specs.Prelude.{ℕ, ◌+◌, ◌*◌, ◌-◌, ◌%◌, ◌≤◌, ◌<◌, ◌≡◌, refl, Bool, true, false, cond, ◌||◌, eqb}
use Rattle.std.proofs.Common.{ap, ◌∙◌, arith, eq-eqb, ne_eqb, eqb-true}
use Rattle.std.proofs.lemmas.Bool.{eqb-false}
use Rattle.index.specs.Position.{position, lap, offset, has_next}
use Rattle.index.specs.Claim.{advanced, with_next, claimed, left_lap}
use Rattle.index.specs.Length.{to_block_end, half_of, batch_advance}

-- a position is its lap and its offset
pub recombine : (p : ℕ) → 64 * lap p + offset p ≡ p
recombine p = omega arith

pub offset-below : (p : ℕ) → offset p < 64
offset-below p = omega arith

-- an advance that stays inside the block keeps the lap
pub keeps-lap : (p n : ℕ) → offset p + n ≤ 63 → (lap (p + n) ≡ lap p) × (offset (p + n) ≡ offset p + n)
keeps-lap p n h = omega arith

-- past the block's slots comes the next lap's first position
pub next-lap : (p : ℕ) → offset p ≡ 63 → (lap (p + 1) ≡ lap p + 1) × (offset (p + 1) ≡ 0)
next-lap p h = omega arith

-- a ticket has one lap and one slot
pub one-slot : (l s k t : ℕ) → s < 63 → t < 63 → 63 * l + s ≡ 63 * k + t → (l ≡ k) × (s ≡ t)
one-slot l s k t h g e = omega arith

-- an advance from p: at least one position, not past the block's end, not above the limit
pub record Inside (p limit n : ℕ) : Type 0 where
  pub some : 1 ≤ n
  pub fits : offset p + n ≤ 63
  pub few : n ≤ limit

pub to-end-some : (p limit : ℕ) → offset p < 63 → 1 ≤ limit → Inside p limit (to_block_end p limit)
to-end-some p limit o l = omega arith

-- a tail that is laps ahead is past the block
pub to-end-below : (p t limit : ℕ) → lap p < lap t → p + to_block_end p limit ≤ t
to-end-below p t limit b = omega arith

-- the three cases of a batch's advance
module _ (head tail limit : ℕ) where
  pub told-next : has_next head ≡ true → batch_advance head tail limit ≡ to_block_end (position head) limit
  told-next e = simp e

  pub other-lap : has_next head ≡ false → (lap (position head) ≡ lap (position tail) → ⊥) → batch_advance head tail limit ≡ to_block_end (position head) limit
  other-lap e n = simp (e, ne_eqb _ _ n)

  pub same-lap : has_next head ≡ false → lap (position head) ≡ lap (position tail) → batch_advance head tail limit ≡ half_of (position head) (position tail) limit
  same-lap e s = simp (e, eq-eqb _ _ s)

half_some : (h t limit : ℕ) → h < t → lap h ≡ lap t → 1 ≤ limit → Inside h limit (half_of h t limit)
half_some h t limit b s l = omega arith

half_below : (h t limit : ℕ) → h < t → h + half_of h t limit ≤ t
half_below h t limit b = omega arith

-- a property of both answers is one of the batch's advance
either : (P : ℕ → Type 0) (head tail limit : ℕ)
    → (has_next head ≡ true → P (to_block_end (position head) limit))
    → (has_next head ≡ false → (lap (position head) ≡ lap (position tail) → ⊥) → P (to_block_end (position head) limit))
    → (has_next head ≡ false → lap (position head) ≡ lap (position tail) → P (half_of (position head) (position tail) limit))
    → P (batch_advance head tail limit)
either P head tail limit a b c = by_next (has_next head) refl
  where
    by-lap : has_next head ≡ false → (d : Bool) → eqb (lap (position head)) (lap (position tail)) ≡ d → P (batch_advance head tail limit)
    by-lap e true f = let s = eqb-true (lap (position head)) (lap (position tail)) f in rw (same-lap head tail limit e s) (c e s)
    by-lap e false f = let n = eqb-false (lap (position head)) (lap (position tail)) f in rw (other-lap head tail limit e n) (b e n)

    by_next : (d : Bool) → has_next head ≡ d → P (batch_advance head tail limit)
    by_next true e = rw (told-next head tail limit e) (a e)
    by_next false e = by-lap e (eqb (lap (position head)) (lap (position tail))) refl

pub batch-some : (head tail limit : ℕ) → position head < position tail → offset (position head) < 63 → 1 ≤ limit
    → Inside (position head) limit (batch_advance head tail limit)
batch-some head tail limit b o l =
    either (Inside (position head) limit) head tail limit
    (λ e. to-end-some (position head) limit o l)
    (λ e n. to-end-some (position head) limit o l)
    (λ e s. half_some (position head) (position tail) limit b s l)

-- the claim ends at the tail or before, where HAS_NEXT is not set ..
pub batch-below : (head tail limit : ℕ) → position head < position tail → has_next head ≡ false
    → position head + batch_advance head tail limit ≤ position tail
batch-below head tail limit b f =
    either (λ n. position head + n ≤ position tail) head tail limit
    (λ e. let z : ◌≡◌ {A = ℕ} 0 1 = cc in omega arith)
    (λ e n. to-end-below (position head) (position tail) limit (omega arith))
    (λ e s. half_below (position head) (position tail) limit b)

-- .. or the tail is laps ahead
pub batch-below-lap : (head tail limit : ℕ) → lap (position head) < lap (position tail)
    → position head + batch_advance head tail limit ≤ position tail
batch-below-lap head tail limit b =
    either (λ n. position head + n ≤ position tail) head tail limit
    (λ e. to-end-below (position head) (position tail) limit b)
    (λ e n. to-end-below (position head) (position tail) limit b)
    (λ e s. half_below (position head) (position tail) limit (omega arith))

-- an index is twice its position, with the low bit on top
pub has-next-bit : (i : ℕ) → i ≡ 2 * position i + 1 → has_next i ≡ true
has-next-bit i e = eq-eqb (i % 2) 1 (omega arith)

pub no-next-bit : (i : ℕ) → i ≡ 2 * position i → has_next i ≡ false
no-next-bit i e = ne_eqb (i % 2) 1 (λ f. omega arith)

pub advanced-position : (i n : ℕ) → position (advanced i n) ≡ position i + n
advanced-position i n = omega arith

pub advanced-next : (i n : ℕ) → has_next (advanced i n) ≡ has_next i
advanced-next i n =
    let e : (i + 2 * n) % 2 ≡ i % 2 = omega arith in
    rw e

-- what HAS_NEXT kept or added makes of an index
pub record Kept (i : ℕ) (next : Bool) (w : ℕ) : Type 0 where
  pub place : position w ≡ position i
  pub bit : has_next w ≡ (next || has_next i)
  pub low : i ≤ w
  pub high : w ≤ i + 1

pub with_next-kept : (i : ℕ) (next : Bool) → Kept i next (with_next i next)
with_next-kept i false = record { place = refl; bit = refl; low = omega arith; high = omega arith }
with_next-kept i true = at (has_next i) refl
  where
    at : (b : Bool) → has_next i ≡ b → Kept i true (cond (has_next i) i (i + 1))
    at true e = simp e record { place = refl; bit = e; low = omega arith; high = omega arith }
    at false e =
        let even = eqb-false (i % 2) 1 e in
        simp e record { place = omega arith; bit = eq-eqb ((i + 1) % 2) 1 (omega arith); low = omega arith; high = omega arith }

module _ (h n : ℕ) (next : Bool) where
  pub claimed-position : position (claimed h n next) ≡ position h + n
  claimed-position = omega (arith, with_next-kept (advanced h n) next)

  pub claimed-next : has_next (claimed h n next) ≡ (next || has_next h)
  claimed-next = (with_next-kept (advanced h n) next).bit ∙ ap (λ b. next || b) (advanced-next h n)

  pub claimed-low : h + 2 * n ≤ claimed h n next
  claimed-low = (with_next-kept (advanced h n) next).low

  pub claimed-high : claimed h n next ≤ h + 2 * n + 1
  claimed-high = (with_next-kept (advanced h n) next).high

  -- a claim moves the head on, so a compare cannot meet the same index again
  pub claimed_above : 1 ≤ n → h < claimed h n next
  claimed_above s = omega (arith, claimed-low)

  pub claimed-inside : offset (position h) + n ≤ 63
      → (lap (position (claimed h n next)) ≡ lap (position h)) × (offset (position (claimed h n next)) ≡ offset (position h) + n)
  claimed-inside b = rw claimed-position (keeps-lap (position h) n b)

-- S8's index: one position on, HAS_NEXT as it is given
pub left-position : (i : ℕ) (next : Bool) → position (left_lap i next) ≡ position i + 1
left-position i true = omega arith
left-position i false = omega arith

pub left-next : (i : ℕ) (next : Bool) → has_next (left_lap i next) ≡ next
left-next i true = eq-eqb ((i - i % 2 + 2 + 1) % 2) 1 (omega arith)
left-next i false = ne_eqb ((i - i % 2 + 2) % 2) 1 (λ f. omega arith)

pub left_above : (i : ℕ) (next : Bool) → i < left_lap i next
left_above i true = omega arith
left_above i false = omega arith

pub left-high : (i : ℕ) (next : Bool) → left_lap i next ≤ i + 3
left-high i true = omega arith
left-high i false = omega arith

-- from a block's end that is the next lap's first position
pub left-lap : (i : ℕ) (next : Bool) → offset (position i) ≡ 63
    → (lap (position (left_lap i next)) ≡ lap (position i) + 1) × (offset (position (left_lap i next)) ≡ 0)
left-lap i next e = rw (left-position i next) (next-lap (position i) e)
