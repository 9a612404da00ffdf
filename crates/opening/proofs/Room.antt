-- how long the queue line is, and what is added piece by piece
use Rattle.text.proofs.Lengths.{queue-length}
use Rattle.print.proofs.Pieces.{pieces}

pub ruleset lengths = (queue-length, pieces)
