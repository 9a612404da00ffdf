-- Without these answers their goals stay open, or are open to a check at half its limits.
use Rattle.std.proofs.Common.{sym, ◌∙◌}
use Rattle.machine.specs.EntryLaws.{pop-made}
use Rattle.entry.specs.Standing.{is_vacant, pop-not-idle}
use Rattle.pop.proofs.pop.Goals as goal

pub returns-in-Err : goal.returns-in-Err
returns-in-Err c = c.not_given.ensures ∙ sym (pop-not-idle _ _ _ _ (sym c.in-Err.ensures))

pub returns : goal.returns
returns c =
    let vacant = is_vacant _ _ _ _ (sym c.in_default.ensures) in
    rw (pop-made _ _ _ _ vacant.passes vacant.idle) (rw c.pop-popped.ensures)
