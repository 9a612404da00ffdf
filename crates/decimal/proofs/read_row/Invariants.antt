-- What a loop keeps, or how it ends, is said here: the check finds no such thing by itself.
use Rattle.text.proofs.Passing.{Reading}
use Rattle.decimal.proofs.read_row.Given as goal

-- what is left of the row, behind the value so far, is worth what the row is
abbrev pub invariant-loop-i : goal.invariant-loop-i
invariant-loop-i l = Reading l.line l.at l.i l.v
