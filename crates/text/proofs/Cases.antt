-- A line read field by field: at each place where the parser stops, what it has found is what the line is.
use Prim.Native.Nat.{ℕ, suc, ◌+◌, ◌≤◌, ◌<◌}
use mathlib.Core.Path.{◌≡◌, refl, sym, ap, ◌∙◌}
use mathlib.Core.Bool.{Bool, true, false}
use mathlib.Core.List.{List, [], ◌∷◌}
use native.Mathlib.Numerals.{add-one}
use native.Mathlib.Omega.{arith}
use lib.ListN.{length, take, drop}
use lib.Dec.{eqb}
use borrow.Author.Tests.{le-leb, lt-leb, eqb-true, eqb-false}
use Rattle.std.specs.Prelude.{Option, Some, None}
use Rattle.std.proofs.lemmas.Option.{some_pair_parts}
use Rattle.text.specs.Number.{number}
use Rattle.text.specs.Line.{fields, first, behind, placed, number_at, command, parsed, with_one, with_two, with_three}
use Rattle.text.specs.declared.Command.{Command}
use Rattle.text.proofs.Parting.{first_le, first-take, fields-last, fields-next, behind_le, fields-last-at, fields-next-at}

-- ---- a number, and its place

placed-value : (m : Option ℕ) (p v x : ℕ) → placed p m ≡ Some (v, x) → (m ≡ Some v) × (p ≡ x)
placed-value (Some u) p v x e = let q = some_pair_parts u v p x e in (ap Some q.0, q.1)
placed-value None p v x e = (cc, cc)

placed-bad : (m : Option ℕ) (p : ℕ) → placed p m ≡ None → m ≡ None
placed-bad (Some u) p e = cc
placed-bad None p e = refl

-- ---- a field that is no number, whatever follows it

bad-first : (w a : List ℕ) (more : List (List ℕ)) → number a ≡ None → command (w ∷ a ∷ more) ≡ None
bad-first w a [] e = rw e
bad-first w a (b ∷ []) e = rw e
bad-first w a (b ∷ c ∷ []) e = rw e
bad-first w a (b ∷ c ∷ d ∷ more) e = refl

bad_second : (w a b : List ℕ) (u : ℕ) → number a ≡ Some u → (more : List (List ℕ)) → number b ≡ None
    → command (w ∷ a ∷ b ∷ more) ≡ None
bad_second w a b u p [] e = rw (p, e)
bad_second w a b u p (c ∷ []) e = rw (p, e)
bad_second w a b u p (c ∷ d ∷ more) e = refl

bad_third : (w a b c : List ℕ) (u v : ℕ) → number a ≡ Some u → number b ≡ Some v → (more : List (List ℕ)) → number c ≡ None
    → command (w ∷ a ∷ b ∷ c ∷ more) ≡ None
bad_third w a b c u v p q [] e = rw (p, q, e)
bad_third w a b c u v p q (d ∷ more) e = refl

-- ---- a cursor at the start of a field

later : (l : List ℕ) → (more : List (List ℕ)) × (fields l ≡ first l ∷ more)
later l = go (eqb (length (first l)) (length l)) refl
  where
    go : (b : Bool) → eqb (length (first l)) (length l) ≡ b → (more : List (List ℕ)) × (fields l ≡ first l ∷ more)
    go true e = ([], fields-last l (eqb-true (length (first l)) (length l) e))
    go false e = (fields (drop (suc (length (first l))) l), fields-next l (eqb-false (length (first l)) (length l) e))

-- the line is what K makes of the fields from place p on
record At (l : List ℕ) (p : ℕ) (K : List (List ℕ) → Option Command) : Type 0 where
  inside : p ≤ length l
  rest : parsed l ≡ K (fields (drop p l))

module _ {l : List ℕ} {p : ℕ} {K : List (List ℕ) → Option Command} (at : At l p K) where
  no_number : number_at l p ≡ None
      → ((more : List (List ℕ)) → number (first (drop p l)) ≡ None → K (first (drop p l) ∷ more) ≡ None)
      → None ≡ parsed l
  no_number e bad =
      let f = later (drop p l) in
      sym (at.rest ∙ ap K f.1 ∙ bad f.0 (placed-bad (number (first (drop p l))) (behind l p) e))

  module _ {v x : ℕ} (found : number_at l p ≡ Some (v, x)) where
    num : number (first (drop p l)) ≡ Some v
    num = (placed-value (number (first (drop p l))) (behind l p) v x found).0

    end : behind l p ≡ x
    end = (placed-value (number (first (drop p l))) (behind l p) v x found).1

    end-le : x ≤ length l
    end-le = omega (arith, end, behind_le l p at.inside)

    last : x ≡ length l → parsed l ≡ K (first (drop p l) ∷ [])
    last e = at.rest ∙ ap K (fields-last-at l p at.inside (end ∙ e))

    next : (x ≡ length l → ⊥) → At l (x + 1) (λ fs. K (first (drop p l) ∷ fs))
    next e =
        record {
          inside = omega (arith, end-le);
          rest = at.rest ∙ ap K (fields-next-at l p at.inside (λ q. e (sym end ∙ q)) ∙ rw end);
        }

-- ---- where the parser stops

whole : (l : List ℕ) → length l ≤ 80 → parsed l ≡ command (fields l)
unfolding parsed
whole l fits = rw (le-leb (length l) 80 fits)

pub too_long : (l : List ℕ) → 80 < length l → None ≡ parsed l
unfolding parsed
too_long l h = rw (lt-leb (length l) 80 h)

pub word-only : (l : List ℕ) → length l ≤ 80 → length (first l) ≡ length l → None ≡ parsed l
word-only l fits e = sym (whole l fits ∙ ap command (fields-last l e))

-- the word ends at w, and more follows
pub record Word (l : List ℕ) (w : ℕ) : Type 0 where
  pub fits : length l ≤ 80
  pub ends : w ≡ length (first l)
  pub more : w ≡ length l → ⊥

-- a number follows, up to place x
pub record One (l : List ℕ) (w a x : ℕ) : Type 0 where
  pub word : Word l w
  pub found : number_at l (w + 1) ≡ Some (a, x)

-- and another, up to place y
pub record Two (l : List ℕ) (w a x b y : ℕ) : Type 0 where
  pub one : One l w a x
  pub more : x ≡ length l → ⊥
  pub found : number_at l (x + 1) ≡ Some (b, y)

-- and a third, up to place z
pub record Three (l : List ℕ) (w a x b y c z : ℕ) : Type 0 where
  pub two : Two l w a x b y
  pub more : y ≡ length l → ⊥
  pub found : number_at l (y + 1) ≡ Some (c, z)

module _ {l : List ℕ} {w : ℕ} (k : Word l w) where
  at_one : At l (w + 1) (λ fs. command (first l ∷ fs))
  at_one =
      record {
        inside = omega (arith, k.ends, first_le l);
        rest = whole l k.fits ∙ rw (fields-next l (λ e. k.more (k.ends ∙ e)), ← k.ends, add-one);
      }

  pub word_le : w ≤ length l
  word_le = omega (arith, k.ends, first_le l)

  cut : take w l ≡ first l
  cut = rw k.ends (first-take l)

  pub no-first : number_at l (w + 1) ≡ None → None ≡ parsed l
  no-first e = no_number at_one e (bad-first (first l) (first (drop (w + 1) l)))

module _ {l : List ℕ} {w a x : ℕ} (k : One l w a x) where
  num_one : number (first (drop (w + 1) l)) ≡ Some a
  num_one = num (at_one k.word) k.found

  pub one_le : x ≤ length l
  one_le = end-le (at_one k.word) k.found

  pub one_number : x ≡ length l → with_one (take w l) a ≡ parsed l
  one_number e = sym (last (at_one k.word) k.found e ∙ rw (num_one, ← cut k.word))

  at-two : (x ≡ length l → ⊥) → At l (x + 1) (λ fs. command (first l ∷ first (drop (w + 1) l) ∷ fs))
  at-two more = next (at_one k.word) k.found more

  pub no_second : (x ≡ length l → ⊥) → number_at l (x + 1) ≡ None → None ≡ parsed l
  no_second more e =
      no_number (at-two more) e
      (bad_second (first l) (first (drop (w + 1) l)) (first (drop (x + 1) l)) a num_one)

module _ {l : List ℕ} {w a x b y : ℕ} (k : Two l w a x b y) where
  at_second : At l (x + 1) (λ fs. command (first l ∷ first (drop (w + 1) l) ∷ fs))
  at_second = at-two k.one k.more

  num_two : number (first (drop (x + 1) l)) ≡ Some b
  num_two = num at_second k.found

  pub two_le : y ≤ length l
  two_le = end-le at_second k.found

  pub two_numbers : y ≡ length l → with_two (take w l) a b ≡ parsed l
  two_numbers e = sym (last at_second k.found e ∙ rw (num_one k.one, num_two, ← cut k.one.word))

  at-three : (y ≡ length l → ⊥)
      → At l (y + 1) (λ fs. command (first l ∷ first (drop (w + 1) l) ∷ first (drop (x + 1) l) ∷ fs))
  at-three more = next at_second k.found more

  pub no_third : (y ≡ length l → ⊥) → number_at l (y + 1) ≡ None → None ≡ parsed l
  no_third more e =
      no_number (at-three more) e
      (bad_third
      (first l)
      (first (drop (w + 1) l))
      (first (drop (x + 1) l))
      (first (drop (y + 1) l))
      a
      b
      (num_one k.one)
      num_two)

module _ {l : List ℕ} {w a x b y c z : ℕ} (k : Three l w a x b y c z) where
  at_third : At l (y + 1) (λ fs. command (first l ∷ first (drop (w + 1) l) ∷ first (drop (x + 1) l) ∷ fs))
  at_third = at-three k.two k.more

  pub three_numbers : z ≡ length l → with_three (take w l) a b c ≡ parsed l
  three_numbers e =
      sym (last at_third k.found e ∙ rw (num_one k.two.one, num_two k.two, num at_third k.found, ← cut k.two.one.word))

  pub too_many : (z ≡ length l → ⊥) → None ≡ parsed l
  too_many e =
      let f = later (drop (z + 1) l) in
      sym ((next at_third k.found e).rest ∙ rw f.1)
