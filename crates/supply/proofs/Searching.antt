-- The lowest free block, said of the blocks' numbers, and what one more free mark makes of the pool.
use Rattle.std.specs.Prelude.{ℕ, zero, suc, ◌+◌, ◌-◌, ◌<◌, ◌≤◌, ◌≡◌, true, false, List, set, Option, None, Some, MatchOption}
use Rattle.std.proofs.Common.{refl, sym, arith, ⊎_elim, eq-or-lt_of_le}
use Rattle.memory.specs.Layout.{is_free, free_at}
use Rattle.memory.specs.Pool.{free_from, pick, freed}

none_from : (m : List ℕ) (b n : ℕ) → ((k : ℕ) → b ≤ k → k < b + n → is_free m k ≡ false) → free_from m b n ≡ None
unfolding free_from
none_from m b zero h = refl
none_from m b (suc n) h = rw (h b (omega arith) (omega arith)) (none_from m (suc b) n (λ k p q. h k (omega arith) (omega arith)))

first_from : (m : List ℕ) (b n i : ℕ) → b ≤ i → i < b + n → is_free m i ≡ true → ((k : ℕ) → b ≤ k → k < i → is_free m k ≡ false) → free_from m b n ≡ Some i
unfolding free_from
first_from m b zero i p q e h = absurd (omega arith)
first_from m b (suc n) i p q e h =
    ⊎_elim
    (λ (k : b ≡ i). rw (rw (← k) at e, k))
    (λ (k : b < i). rw (h b (omega arith) k) (first_from m (suc b) n i k (omega arith) e (λ j a c. h j (omega arith) c)))
    (eq-or-lt_of_le p)

pub lowest : (m : List ℕ) (n : ℕ) (r : Option ℕ)
    → MatchOption r ((k : ℕ) → 0 ≤ k → k < n → is_free m k ≡ false)
    (λ i. (0 ≤ i) × (i < n) × (is_free m i ≡ true) × ((k : ℕ) → 0 ≤ k → k < i → is_free m k ≡ false))
    → r ≡ pick m n
unfolding pick
lowest m n None h = sym (none_from m 0 n (λ k p q. h k p (omega arith)))
lowest m n (Some i) h = sym (first_from m 0 n i h.0 (omega arith) h.2 h.3)

-- the marks of the blocks below b, and that of b
pub freed_more : (m : List ℕ) (b : ℕ) → 1 ≤ b → set (freed m (b - 1)) (free_at b) 1 ≡ freed m (b + 1 - 1)
unfolding freed
freed_more m zero h = absurd (omega arith)
freed_more m (suc b) h =
    let e : suc b - 1 ≡ b = omega arith in
    let f : suc b + 1 - 1 ≡ suc b = omega arith in
    rw (f, e)
