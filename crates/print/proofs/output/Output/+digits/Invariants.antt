-- How the recursion ends is said here: the check finds no such thing by itself.
use Rattle.print.proofs.output.Output.+digits.Given as goal

abbrev pub decreases-digits : goal.decreases-digits
decreases-digits l = l.n
