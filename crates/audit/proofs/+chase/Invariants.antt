-- What a loop keeps, or how it ends, is said here: the check finds no such thing by itself.
use Rattle.audit.proofs.+chase.Given as goal

abbrev pub decreases-chase : goal.decreases-chase
decreases-chase l = l.left
