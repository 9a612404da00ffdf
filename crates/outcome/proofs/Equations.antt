-- The law for contracts that are equations, and where in a state at exit an equation stands.
use mathlib.Core.Path.{◌≡◌, sym, ◌∙◌}

pub both : {A : Type 0} {x y v : A} → x ≡ v → y ≡ v → x ≡ y
both p q = p ∙ sym q

-- a state at exit has a place for each parameter, and only that of a `&mut` holds anything: the first one's, a later one's, two
pub first : {A B : Type 0} {x y : A} {u : B} → x ≡ y → ◌≡◌ {A = A × B} (x, u) (y, u)
first p = cc

pub later : {A B : Type 0} {x y : A} {u : B} → x ≡ y → ◌≡◌ {A = B × A} (u, x) (u, y)
later p = cc

pub pair : {A B : Type 0} {x y : A} {u v : B} → x ≡ y → u ≡ v → ◌≡◌ {A = A × B} (x, u) (y, v)
pair p q = cc
