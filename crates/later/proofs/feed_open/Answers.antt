-- Without these answers their goals stay open, or are open to a check at half its limits.
use Rattle.std.proofs.Common.{sym, ◌∙◌, arith, rules}
use Rattle.lines.proofs.Told.{wrote}
use Rattle.replayed.proofs.Outcome.{came_back}
use Rattle.replayed.proofs.Running.{outcome-bad, outcome-heard}
use Rattle.later.proofs.feed_open.Goals as goal

-- a malformed line
pub returns-in_default : goal.returns-in_default
returns-in_default c =
    let i = c.loop-read.invariant in
    let bad = outcome-bad _ _ _ _ _ _ c.loop-read-test.true (omega (arith, i.room, c.if-room-lt-ROOM.false)) c.if-byte-ne10.false i.still (sym c.in_default.ensures) c.over.ensures (wrote c.say_bad.ensures.wrote) in
    came_back {left = c.say_bad.new.output.bytes.now} (search rules)
    (record { comes = sym (i.comes ∙ bad); inside = omega arith; fits = omega arith })

-- a command of a thread
pub loop-read-preserved : goal.loop-read-preserved
loop-read-preserved c =
    let i = c.loop-read.invariant in
    let h = c.hear.ensures in
    let heard = outcome-heard _ _ _ _ _ _ c.loop-read-test.true (omega (arith, i.room, c.if-room-lt-ROOM.false)) c.if-byte-ne10.false i.still (sym c.in-Some.ensures) h.replay_after h.pool_after (wrote h.wrote) in
    record { comes = i.comes ∙ heard; same_buffer = search rules; same_len = search rules; fits = search rules; still = search rules; room = search rules }
