-- what a byte makes of a feed at line 1, and what a feed comes to once it is over
use Rattle.lines.proofs.Told.{wrote}
use Rattle.replayed.proofs.Outcome.{outcome-end, outcome_full, outcome-over, over_now}
use Rattle.replayed.proofs.Running.{outcome_hold, outcome-first}

pub ruleset bytes = (wrote, outcome-end, outcome_full, outcome-over, over_now, outcome_hold, outcome-first)
