-- one more digit: the search finds what is left of it once the law is named
use Rattle.std.proofs.Common.{rules}
use Rattle.decimal.proofs.Ends.{row-more}
use Rattle.decimal.proofs.read_row.Goals as goal

pub loop-i-preserved : goal.loop-i-preserved
loop-i-preserved c =
    row-more c.loop-i.invariant c.loop-i-test.true (search rules) (search rules) (search rules) (search rules)
