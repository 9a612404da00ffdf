-- No line of a length or of an empty touches the lent memory.
use Rattle.std.specs.Prelude.{◌≡◌, refl}
use Rattle.memory.specs.Touch.{leaves}
use Rattle.state.specs.MoveLaws.{either-touch, same-touch}
use Rattle.state.specs.declared.Queue.{Queue}
use Rattle.state.specs.declared.LengthLine.{LengthLine}
use Rattle.state.specs.declared.LengthLine.TheVariants.{L1, L2, L3}
use Rattle.state.specs.declared.EmptyLine.{EmptyLine}
use Rattle.state.specs.declared.EmptyLine.TheVariants.{E1, E2}
use Rattle.machine.specs.Count.{length, l3, empty, e2}

pub length-leaves : (q : Queue) (line : LengthLine) → (length q line).touch ≡ leaves
unfolding l3
length-leaves q L1 = refl
length-leaves q (L2 t) = refl
length-leaves q (L3 t h) = simp (either-touch, same-touch)

pub empty-leaves : (q : Queue) (line : EmptyLine) → (empty q line).touch ≡ leaves
unfolding e2
empty-leaves q E1 = refl
empty-leaves q (E2 h) = simp (either-touch, same-touch)
