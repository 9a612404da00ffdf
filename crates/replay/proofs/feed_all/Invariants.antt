-- What a loop keeps, or how it ends, is said here: the check finds no such thing by itself.
use Rattle.std.proofs.Common.{length}
use Rattle.replay.proofs.feed_all.Given as goal

abbrev pub decreases-loop-rest : goal.decreases-loop-rest
decreases-loop-rest g l = length l.rest
