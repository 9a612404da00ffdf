-- how long what is said is
use Rattle.text.proofs.Lengths.{line-length, line-number-length, bad-length, end-length}
use Rattle.print.proofs.Pieces.{pieces}
use Rattle.replayed.proofs.Room.{refused-first}

pub ruleset lengths = (line-length, line-number-length, bad-length, end-length, refused-first, pieces)
