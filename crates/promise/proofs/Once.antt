-- In fair notes no ticket is claimed twice: each claim starts where the last one ended.
use Prim.Native.Nat.{ℕ, ◌+◌, ◌≤◌, ◌<◌}
use mathlib.Core.Path.{◌≡◌, refl, ap₂}
use mathlib.Core.Bool.{Bool, true, false, cond}
use mathlib.Core.List.{List, [], ◌∷◌}
use native.Mathlib.Omega.{arith}
use lib.Dec.{ltb, leb}
use borrow.Author.Tests.{ltb-true, lt-leb}
use Rattle.ring.specs.declared.Flavor.{Flavor}
use Rattle.history.specs.Log.{Note, pushes, claims, hands, ends}
use Rattle.promise.specs.Promise.{took, times_claimed}
use Rattle.promise.proofs.Tally.{Tally, tally, FairFrom}

-- a claim takes no ticket below its first
took-after : (k first count : ℕ) → k < first → took k first count ≡ 0
took-after k first count b = rw (lt-leb first k b)

module _ (flavors : List Flavor) (k : ℕ) where
  -- a ticket below the count of claimed ones is not claimed again
  passed : (c : Tally) (l : List Note) → FairFrom flavors c l → k < c.done → times_claimed k l ≡ 0
  passed c [] f b = refl
  passed c (pushes p ∷ l) f b = passed (tally c (pushes p)) l f.1 b
  passed c (claims d ∷ l) f b =
      let from : d.first ≡ c.done = f.0 in
      ap₂ ◌+◌ (took-after k d.first d.count (omega arith)) (passed (tally c (claims d)) l f.4 (omega arith))
  passed c (hands h ∷ l) f b = passed (tally c (hands h)) l f.1 b
  passed c (ends e ∷ l) f b = passed (tally c (ends e)) l f.1 b

  by_tests : (first count rest : ℕ) → rest ≤ 1 → (k < first + count → rest ≡ 0) → (a b : Bool) → ltb k (first + count) ≡ b
      → cond a (cond b 1 0) 0 + rest ≤ 1
  by_tests first count rest most none true true e = let z : rest ≡ 0 = none (ltb-true k (first + count) e) in omega arith
  by_tests first count rest most none true false e = omega arith
  by_tests first count rest most none false b e = omega arith

  pub at-most-once : (c : Tally) (l : List Note) → FairFrom flavors c l → times_claimed k l ≤ 1
  at-most-once c [] f = omega arith
  at-most-once c (pushes p ∷ l) f = at-most-once (tally c (pushes p)) l f.1
  at-most-once c (claims d ∷ l) f =
      let from : d.first ≡ c.done = f.0 in
      by_tests d.first d.count (times_claimed k l) (at-most-once (tally c (claims d)) l f.4)
      (λ b. passed (tally c (claims d)) l f.4 (omega arith))
      (leb d.first k)
      (ltb k (d.first + d.count))
      refl
  at-most-once c (hands h ∷ l) f = at-most-once (tally c (hands h)) l f.1
  at-most-once c (ends e ∷ l) f = at-most-once (tally c (ends e)) l f.1
