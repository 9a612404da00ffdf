-- P2 and P4 leave the lent memory alone, whichever way their tests go.
use Rattle.machine.specs.PushLaws.{p2-leaves, p4-leaves}

pub ruleset loads = (p2-leaves, p4-leaves)
