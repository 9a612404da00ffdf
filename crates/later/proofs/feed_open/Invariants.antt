-- What a loop keeps, or how it ends, is said here: the check finds no such thing by itself.
use Rattle.std.proofs.Common.{◌≡◌, ◌-◌, ◌≤◌, length}
use Rattle.replayed.specs.declared.Stage.TheVariants.{Open}
use Rattle.replayed.specs.Feed.{outcome}
use Rattle.later.proofs.feed_open.Given as goal

-- what is to come, from here on, is what was to come at the start
abbrev pub invariant-loop-read : goal.invariant-loop-read
invariant-loop-read l =
    record {
      comes :
          outcome l.piece l.initial.replay l.initial.pool l.initial.read l.initial.output.bytes.now l.initial.output.written
          ≡ outcome l.piece (record l.replay { held = l.held }) l.pool l.read l.output.bytes.now l.output.written;
      same_buffer : l.output.bytes ≡ record l.initial.output.bytes { now = l.output.bytes.now };
      same_len : length l.output.bytes.now ≡ length l.initial.output.bytes.now;
      fits : l.output.written ≤ length l.output.bytes.now;
      still : l.replay.stage ≡ Open;
      room : l.room ≡ length l.output.bytes.now - l.output.written;
    }
