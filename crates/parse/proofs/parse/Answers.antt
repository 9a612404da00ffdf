-- Without these answers their goals stay open, or are open to a check at half its limits.
use Rattle.std.proofs.Common.{arith, sym}
use Rattle.text.proofs.Cases.{One, Two, one_le, two_le, no_third, too_many}
use Rattle.parse.proofs.Places.{word, one, two, three}
use Rattle.parse.proofs.parse.Goals as goal
use Rattle.parse.proofs.parse.Goals.{In_ok-a, In_ok-b}

at_one : (c : In_ok-a) → One c.args.line.now c.in_ok-w.w c.in_ok-a.a c.in_ok-a.x
at_one c = one (word c.if-n-gt-LINE_CAP.false c.in_ok-w.ensures) c.in_ok-a.ensures

at_two : (c : In_ok-b) → Two c.args.line.now c.in_ok-w.w c.in_ok-a.a c.in_ok-a.x c.in_ok-b.b c.in_ok-b.y
at_two c = two (one (word c.if-n-gt-LINE_CAP.false c.in_ok-w.ensures) c.in_ok-a.ensures) c.if-x-n.false c.in_ok-b.ensures

pub overflow_add-x : goal.overflow_add-x
overflow_add-x c = omega (arith, one_le (at_one (goal.at.overflow_add-x c).In_ok-a))

pub overflow_add-y : goal.overflow_add-y
overflow_add-y c = omega (arith, two_le (at_two (goal.at.overflow_add-y c).In_ok-b))

pub returns-in_err-c : goal.returns-in_err-c
returns-in_err-c c = let e = no_third (at_two (goal.at.returns-in_err-c c).In_ok-b) c.if-y-n.false (sym c.in_err-c.ensures) in cc

pub returns : goal.returns
returns c = too_many (three (at_two (goal.at.returns c).In_ok-b) c.if-y-n.false c.in_ok-c.ensures) c.if-z-n.false
