-- Without these answers their goals stay open, or are open to a check at half its limits.
use Rattle.std.proofs.Common.{sym, ◌∙◌}
use Rattle.lines.proofs.Told.{then}
use Rattle.replayed.specs.Replay.{line_of}
use Rattle.replayed.proofs.Orders.{opening_good, queue-pool}
use Rattle.opening.proofs.open_line.Goals as goal

pub returns-then-not-counts_good-clause-wrote : goal.returns-then-not-counts_good-clause-wrote
returns-then-not-counts_good-clause-wrote c =
    let r = c.args.replay.now in
    rw (opening_good r c.args.pool.now (line_of r) (sym c.in-Some.ensures), sym c.counts_good.ensures ∙ c.if-not-counts_good.true)
    (then c.queue.ensures c.say_refused.ensures.wrote)

-- the queue uses the first of the lent words: setup refuses nothing of them, and the rest stays
pub returns-clause-pool_after : goal.returns-clause-pool_after
returns-clause-pool_after c =
    let r = c.args.replay.now in
    let good = sym c.counts_good.ensures ∙ c.if-not-counts_good.false in
    rw (opening_good r c.args.pool.now (line_of r) (sym c.in-Some.ensures))
    (queue-pool r _ _ _ _ _ c.requires.in_bounds good c.words-used.ensures c.setup-started.ensures.pool_after c.setup-started.auto.pool)
