-- what a feed as a whole comes to
use Rattle.replayed.proofs.Outcome.{short-read, short-fed, fed_long}

pub ruleset feeds = (short-read, short-fed, fed_long)
