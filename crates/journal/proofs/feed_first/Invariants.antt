-- What a loop keeps, or how it ends, is said here: the check finds no such thing by itself.
use Rattle.std.proofs.Common.{◌≡◌}
use Rattle.replayed.specs.declared.Stage.TheVariants.{First}
use Rattle.replayed.specs.Feed.{outcome}
use Rattle.journal.proofs.feed_first.Given as goal

-- what is to come, from here on, is what was to come at the start
abbrev pub invariant-loop-read : goal.invariant-loop-read
invariant-loop-read l =
    record {
      comes : outcome l.piece l.initial.replay l.initial.pool 0 l.initial.out 0 ≡ outcome l.piece l.replay l.pool l.read l.out 0;
      same_pool : l.pool ≡ l.initial.pool;
      same_out : l.out ≡ l.initial.out;
      still : l.replay.stage ≡ First;
    }
