-- The fields of a line, as a cursor meets them: what the first field is at a place, and what follows it.
use Prim.Native.Nat.{ℕ, suc, ◌+◌, ◌≤◌, ◌<◌}
use mathlib.Core.Path.{◌≡◌, refl, ap, ◌∙◌}
use mathlib.Core.Bool.{Bool, true, false, cond}
use mathlib.Core.List.{List, [], ◌∷◌}
use native.Mathlib.Nat.{suc_inj}
use native.Mathlib.Numerals.{add-one}
use native.Mathlib.Omega.{arith}
use lib.ListN.{length, get_or, take, drop, length-drop, drop_of_length-le}
use lib.Seq.{drop-cons, drop-drop}
use lib.Dec.{eqb}
use borrow.Author.Tests.{eq-eqb, ne_eqb, eqb-true}
use Rattle.std.proofs.Common.{rules, Decides}
use Rattle.std.proofs.lemmas.Slice.Eq.{compares_Decides}
use Rattle.text.specs.Line.{fields, first, same, prepend, behind}

-- ---- the first field is a front of the line

pub first_le : (l : List ℕ) → length (first l) ≤ length l
unfolding first
first_le [] = omega arith
first_le (c ∷ cs) = go (eqb c 9) (first_le cs)
  where
    go : (b : Bool) → length (first cs) ≤ length cs → length (cond b [] (c ∷ first cs)) ≤ length (c ∷ cs)
    go true h = omega arith
    go false h = omega arith

pub first-take : (l : List ℕ) → take (length (first l)) l ≡ first l
unfolding first
first-take [] = refl
first-take (c ∷ cs) = go (eqb c 9) (first-take cs)
  where
    go : (b : Bool) → take (length (first cs)) cs ≡ first cs
        → take (length (cond b [] (c ∷ first cs))) (c ∷ cs) ≡ cond b [] (c ∷ first cs)
    go true h = refl
    go false h = ap (λ (r : List ℕ). c ∷ r) h

-- ---- the first field, and those that follow

pub fields-last : (l : List ℕ) → length (first l) ≡ length l → fields l ≡ first l ∷ []
unfolding fields first
fields-last [] e = refl
fields-last (c ∷ cs) e = go (eqb c 9) (fields-last cs) e
  where
    go : (b : Bool) → (length (first cs) ≡ length cs → fields cs ≡ first cs ∷ [])
        → length (cond b [] (c ∷ first cs)) ≡ suc (length cs)
        → cond b ([] ∷ fields cs) (prepend c (fields cs)) ≡ cond b [] (c ∷ first cs) ∷ []
    go true h q = absurd (omega arith)
    go false h q = rw (h (suc_inj q))

pub fields-next : (l : List ℕ) → (length (first l) ≡ length l → ⊥)
    → fields l ≡ first l ∷ fields (drop (suc (length (first l))) l)
unfolding fields first
fields-next [] e = absurd (e refl)
fields-next (c ∷ cs) e = go (eqb c 9) (fields-next cs) e
  where
    go : (b : Bool) → ((length (first cs) ≡ length cs → ⊥) → fields cs ≡ first cs ∷ fields (drop (suc (length (first cs))) cs))
        → (length (cond b [] (c ∷ first cs)) ≡ suc (length cs) → ⊥)
        → cond b ([] ∷ fields cs) (prepend c (fields cs))
        ≡ cond b [] (c ∷ first cs) ∷ fields (drop (length (cond b [] (c ∷ first cs))) cs)
    go true h q = refl
    go false h q = rw (h (λ p. q (ap suc p)))

-- the same from a place of the line on
module _ (l : List ℕ) (at : ℕ) (inside : at ≤ length l) where
  pub behind_le : behind l at ≤ length l
  behind_le = omega (arith, first_le (drop at l), length-drop at l)

  pub fields-last-at : behind l at ≡ length l → fields (drop at l) ≡ first (drop at l) ∷ []
  fields-last-at e = fields-last (drop at l) (omega (arith, length-drop at l))

  pub fields-next-at : (behind l at ≡ length l → ⊥)
      → fields (drop at l) ≡ first (drop at l) ∷ fields (drop (behind l at + 1) l)
  fields-next-at e =
      let n : at + suc (length (first (drop at l))) ≡ behind l at + 1 = omega arith in
      fields-next (drop at l) (λ q. e (omega (arith, length-drop at l)))
      ∙ rw (drop-drop (suc (length (first (drop at l)))) at l, n)

-- ---- two words: `same` tells whether they are equal

pub same-Decides : (a b : List ℕ) → Decides (same a b) (a ≡ b)
unfolding same
same-Decides = compares_Decides same (search rules)

-- ---- two words, a byte at a time: laws that stand since docs/PORT.md names them

pub same_length : (a b : List ℕ) → (length a ≡ length b → ⊥) → same a b ≡ false
unfolding same
same_length [] [] h = absurd (h refl)
same_length [] (y ∷ ys) h = refl
same_length (x ∷ xs) [] h = refl
same_length (x ∷ xs) (y ∷ ys) h = go (eqb x y) (same_length xs ys (λ e. h (ap suc e)))
  where
    go : (b : Bool) → same xs ys ≡ false → cond b (same xs ys) false ≡ false
    go true e = e
    go false e = refl

module _ (a b : List ℕ) (i : ℕ) where
  pub same_end : length a ≤ i → length b ≤ i → same (drop i a) (drop i b) ≡ true
  unfolding same
  same_end h k = rw (drop_of_length-le a h, drop_of_length-le b k)

  pub same-other : i < length a → i < length b → (get_or a i 0 ≡ get_or b i 0 → ⊥) → same (drop i a) (drop i b) ≡ false
  unfolding same
  same-other h k e = rw (drop-cons a i 0 h, drop-cons b i 0 k, ne_eqb (get_or a i 0) (get_or b i 0) e)

  pub same_more : i < length a → i < length b → get_or a i 0 ≡ get_or b i 0
      → same (drop i a) (drop i b) ≡ same (drop (i + 1) a) (drop (i + 1) b)
  unfolding same
  same_more h k e = rw (drop-cons a i 0 h, drop-cons b i 0 k, eq-eqb (get_or a i 0) (get_or b i 0) e, add-one)

pub same_eq : (a b : List ℕ) → same a b ≡ true → a ≡ b
unfolding same
same_eq [] [] e = refl
same_eq [] (y ∷ ys) e = cc
same_eq (x ∷ xs) [] e = cc
same_eq (x ∷ xs) (y ∷ ys) e = go (eqb x y) refl e (same_eq xs ys)
  where
    go : (b : Bool) → eqb x y ≡ b → cond b (same xs ys) false ≡ true → (same xs ys ≡ true → xs ≡ ys) → x ∷ xs ≡ y ∷ ys
    go true q h k = let p : x ≡ y = eqb-true x y q in let t : xs ≡ ys = k h in cc
    go false q h k = cc
