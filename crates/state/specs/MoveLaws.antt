-- A law for the lines that test something and leave the lent memory alone either way.
use Rattle.std.specs.Prelude.{◌≡◌, refl, Bool, true, false, cond}
use Rattle.memory.specs.Touch.{Touch}
use Rattle.state.specs.Move.{Move}

pub either-touch : (b : Bool) (x y : Move) → (cond b x y).touch ≡ cond b x.touch y.touch
either-touch true x y = refl
either-touch false x y = refl

pub same-touch : (b : Bool) (t : Touch) → cond b t t ≡ t
same-touch true t = refl
same-touch false t = refl
