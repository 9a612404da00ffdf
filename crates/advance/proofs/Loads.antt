-- A length and an empty leave the lent memory as it is.
use Rattle.machine.specs.CountLaws.{length-leaves, empty-leaves}

pub ruleset loads = (length-leaves, empty-leaves)
