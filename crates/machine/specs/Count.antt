-- The step table of document 01, "Length" and "Empty": each load one step, the answer with the last.
use Rattle.std.specs.Prelude.{cond, eqb}
use Rattle.index.specs.Position.{position}
use Rattle.index.specs.Length.{len}
use Rattle.index.specs.declared.Index.{Index}
use Rattle.memory.specs.Touch.{leaves}
use Rattle.state.specs.Move.{Move, on, ends}
use Rattle.state.specs.declared.Queue.{Queue}
use Rattle.state.specs.declared.LengthLine.{LengthLine}
use Rattle.state.specs.declared.LengthLine.TheVariants.{L1, L2, L3}
use Rattle.state.specs.declared.EmptyLine.{EmptyLine}
use Rattle.state.specs.declared.EmptyLine.TheVariants.{E1, E2}
use Rattle.state.specs.declared.Call.TheVariants.{Length, Empty}
use Rattle.state.specs.declared.Answer.TheVariants.{Len, Yes, No}

-- L1 load tail, L2 load head, L3 load tail. Tails differ: again.
abbrev pub l1 : Queue → Move
l1 q = on q (Length (L2 q.tail)) leaves

abbrev pub l2 : Queue → Index → Move
l2 q t = on q (Length (L3 t q.head)) leaves

unfoldable pub l3 : Queue → Index → Index → Move
l3 q t h =
    cond (eqb q.tail.raw t.raw) (ends q (Len (len (position t.raw) (position h.raw))) leaves)
    (on q (Length L1) leaves)

-- E1 load head, E2 load tail: yes if positions agree
abbrev pub e1 : Queue → Move
e1 q = on q (Empty (E2 q.head)) leaves

unfoldable pub e2 : Queue → Index → Move
e2 q h = cond (eqb (position h.raw) (position q.tail.raw)) (ends q Yes leaves) (ends q No leaves)

abbrev pub length : Queue → LengthLine → Move
length q L1 = l1 q
length q (L2 t) = l2 q t
length q (L3 t h) = l3 q t h

abbrev pub empty : Queue → EmptyLine → Move
empty q E1 = e1 q
empty q (E2 h) = e2 q h
