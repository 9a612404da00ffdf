-- The lines that only load or compare leave the lent memory as it is: the laws open their definitions.
use Rattle.machine.specs.StealLaws.{s2-leaves, s3-leaves, s4-leaves, s5-leaves, s9-leaves, s12-leaves}

pub ruleset loads = (s2-leaves, s3-leaves, s4-leaves, s5-leaves, s9-leaves, s12-leaves)
