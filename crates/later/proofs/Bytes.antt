-- what a byte makes of a feed
use Rattle.lines.proofs.Told.{wrote}
use Rattle.replayed.proofs.Outcome.{outcome-end, outcome_full}
use Rattle.replayed.proofs.Running.{outcome_hold, outcome-heard}

pub ruleset bytes = (wrote, outcome-end, outcome_full, outcome_hold, outcome-heard)
