-- A conjunction as code tests it, part by part, and two tests of numbers that say the same.
use Rattle.std.specs.Prelude.{ℕ, ◌≤◌, ◌≡◌, refl, Bool, true, false, ◌&&◌, not, leb}
use Rattle.std.proofs.Common.{sym, ◌∙◌, leb-true, le-leb}
use Rattle.std.proofs.lemmas.Bool.{not-true, not-false}

-- x, the answer to a, was true: so the answer to b is that to both
pub passed : {a b x y : Bool} → x ≡ a → x ≡ true → y ≡ b → y ≡ (a && b)
passed e t f = rw (sym e ∙ t) f

-- it was false, and so is the answer to both
pub failed : {a x : Bool} (b : Bool) → x ≡ a → x ≡ false → x ≡ (a && b)
failed b e f = rw (sym e ∙ f) f

-- what the code's `if !x` tells of a
pub told-true : {a x : Bool} → x ≡ a → not x ≡ false → a ≡ true
told-true {a} {x} e h = sym e ∙ not-false x h

pub told-false : {a x : Bool} → x ≡ a → not x ≡ true → a ≡ false
told-false {a} {x} e h = sym e ∙ not-true x h

same : (p q : Bool) → (p ≡ true → q ≡ true) → (q ≡ true → p ≡ true) → p ≡ q
same true q f g = sym (f refl)
same false true f g = g refl
same false false f g = refl

-- where each of two tests passes if the other does, they have one answer
pub same_test : (a b x y : ℕ) → (a ≤ b → x ≤ y) → (x ≤ y → a ≤ b) → leb a b ≡ leb x y
same_test a b x y f g =
    same (leb a b) (leb x y) (λ h. le-leb x y (f (leb-true a b h))) (λ h. le-leb a b (g (leb-true x y h)))
