-- Each public function of `print` has one outcome at most.
use mathlib.Core.Path.{refl}
use Rattle.outcome.specs.One.{One}
use Rattle.outcome.proofs.Equations.{both, first}
use Rattle.print as print

pub number : One print.specs.contracts.output.Output.number.ended print.proofs.output.Output.number.Reads.Learnt
number _ _ _ _ _ _ p q = (refl, first (both p.value q.value))

pub word : One print.specs.contracts.output.Output.word.ended print.proofs.output.Output.word.Reads.Learnt
word _ _ _ _ _ _ p q = (refl, first (both p.value q.value))

pub plain : One print.specs.contracts.output.Output.plain.ended print.proofs.output.Output.plain.Reads.Learnt
plain _ _ _ _ _ _ p q = (refl, first (both p.value q.value))

pub numbered : One print.specs.contracts.output.Output.numbered.ended print.proofs.output.Output.numbered.Reads.Learnt
numbered _ _ _ _ _ _ p q = (refl, first (both p.value q.value))

pub bad : One print.specs.contracts.output.Output.bad.ended print.proofs.output.Output.bad.Reads.Learnt
bad _ _ _ _ _ _ p q = (refl, first (both p.value q.value))

pub refused : One print.specs.contracts.output.Output.refused.ended print.proofs.output.Output.refused.Reads.Learnt
refused _ _ _ _ _ _ p q = (refl, first (both p.value q.value))

pub end : One print.specs.contracts.output.Output.end.ended print.proofs.output.Output.end.Reads.Learnt
end _ _ _ _ _ _ p q = (refl, first (both p.value q.value))

pub queue : One print.specs.contracts.output.Output.queue.ended print.proofs.output.Output.queue.Reads.Learnt
queue _ _ _ _ _ _ p q = (refl, first (both p.value q.value))
