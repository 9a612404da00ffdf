-- Which lines of a push leave the lent memory alone, where the definition has to be opened to see it. (Of P1, P5 and
-- P6 it is plain; P3, P7, P8, P9 and P10 touch it.)
use Rattle.std.specs.Prelude.{ℕ, ◌≡◌, refl, Option, None, Some}
use Rattle.index.specs.declared.Index.{Index}
use Rattle.memory.specs.Touch.{leaves}
use Rattle.state.specs.MoveLaws.{either-touch, same-touch}
use Rattle.state.specs.declared.Queue.{Queue}
use Rattle.machine.specs.Push.{p2, p2_spent, p2_last, p4}

spent-leaves : (q : Queue) (held : Option ℕ) → (p2_spent q held).touch ≡ leaves
spent-leaves q None = refl
spent-leaves q (Some x) = refl

last-leaves : (q : Queue) (token : ℕ) (t : Index) (held : Option ℕ) → (p2_last q token t held).touch ≡ leaves
last-leaves q token t None = refl
last-leaves q token t (Some x) = refl

pub p2-leaves : (q : Queue) (token : ℕ) (t : Index) (held : Option ℕ) → (p2 q token t held).touch ≡ leaves
unfolding p2
p2-leaves q token t held = simp (either-touch, spent-leaves, last-leaves, same-touch)

pub p4-leaves : (q : Queue) (token : ℕ) (t : Index) (b : ℕ) (held : Option ℕ) → (p4 q token t b held).touch ≡ leaves
unfolding p4
p4-leaves q token t b held = simp (either-touch, same-touch)
