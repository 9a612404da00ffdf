-- Without these answers their goals stay open, or are open to a check at half its limits.
use Rattle.std.proofs.Common.{rules, ◌≤◌, length}
use Rattle.replayed.proofs.Kept.{reads-some}
use Rattle.replay.proofs.feed_all.Goals as goal

pub loop-rest-smaller : goal.loop-rest-smaller
loop-rest-smaller g c =
    let some = reads-some c.loop-rest.replay c.loop-rest.pool c.loop-rest.rest.now (length c.loop-rest.out) (search rules) (search rules) (search rules) in
    let read : 1 ≤ c.feed-fed.result.read = search (rules, some) in
    search (rules, read)
