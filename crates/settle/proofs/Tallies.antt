-- How many of the first n places hold.
use Prim.Native.Nat.{ℕ, zero, suc, ◌≤◌, ◌<◌}
use mathlib.Core.Path.{◌≡◌, refl}
use mathlib.Core.Bool.{Bool, true, false, cond}
use mathlib.Core.Logic.{⊎_elim}
use native.Mathlib.Omega.{arith}
use native.Mathlib.Nat.{eq-or-lt_of_le}
use Rattle.invariant.proofs.Facts.{clash}

abbrev pub held : (ℕ → Bool) → ℕ → ℕ
held f zero = 0
held f (suc n) = cond (f n) (suc (held f n)) (held f n)

pub held-most : (f : ℕ → Bool) (n : ℕ) → held f n ≤ n
held-most f zero = omega arith
held-most f (suc n) = go (f n) (held-most f n)
  where
    go : (b : Bool) → held f n ≤ n → cond b (suc (held f n)) (held f n) ≤ suc n
    go true p = omega arith
    go false p = omega arith

two-held : (b c : Bool) (x y : ℕ) → (c ≡ true → b ≡ true) → y ≤ x → cond c (suc y) y ≤ cond b (suc x) x
two-held true true x y f l = omega arith
two-held true false x y f l = omega arith
two-held false true x y f l = clash false (f refl) refl
two-held false false x y f l = l

two-less : (b c : Bool) (x y : ℕ) → (c ≡ true → b ≡ true) → y < x → cond c (suc y) y < cond b (suc x) x
two-less true true x y f l = omega arith
two-less true false x y f l = omega arith
two-less false true x y f l = clash false (f refl) refl
two-less false false x y f l = l

module _ (f g : ℕ → Bool) (inside : (x : ℕ) → g x ≡ true → f x ≡ true) where
  pub held-fewer : (n : ℕ) → held g n ≤ held f n
  held-fewer zero = omega arith
  held-fewer (suc n) = two-held (f n) (g n) (held f n) (held g n) (inside n) (held-fewer n)

  -- fewer by one at the least where a place holds no longer
  pub held-less : (n y : ℕ) → y < n → f y ≡ true → g y ≡ false → held g n < held f n
  held-less zero y b e d = absurd (omega arith)
  held-less (suc n) y b e d =
      ⊎_elim
      (λ (z : y ≡ n).
      let p = held-fewer n in
      let e' : f n ≡ true = rw z at e in
      let d' : g n ≡ false = rw z at d in
      rw (e', d') (omega arith))
      (λ (z : y < n). two-less (f n) (g n) (held f n) (held g n) (inside n) (held-less n y z e d))
      (eq-or-lt_of_le (omega arith))

pub record Holds (f : ℕ → Bool) (n : ℕ) : Type 0 where
  pub place : ℕ
  pub below : place < n
  pub holds : f place ≡ true

pub held_one : (f : ℕ → Bool) (n y : ℕ) → y < n → f y ≡ true → 1 ≤ held f n
held_one f n y b e = let p = held-less f (λ x. false) (λ x d. clash false d refl) n y b e refl in omega arith

pub held-some : (f : ℕ → Bool) (n : ℕ) → 1 ≤ held f n → Holds f n
held-some f zero b = absurd (omega arith)
held-some f (suc n) b = go (f n) refl b (held-some f n)
  where
    go : (c : Bool) → f n ≡ c → 1 ≤ cond c (suc (held f n)) (held f n) → (1 ≤ held f n → Holds f n) → Holds f (suc n)
    go true e d h = record { place = n; below = omega arith; holds = e }
    go false e d h = let p = h d in let l = p.below in record { place = p.place; below = omega arith; holds = p.holds }
