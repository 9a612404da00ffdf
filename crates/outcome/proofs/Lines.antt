-- Each public function of `lines` has one outcome at most.
use mathlib.Core.Path.{refl}
use Rattle.outcome.specs.One.{One}
use Rattle.outcome.proofs.Equations.{both, first}
use Rattle.lines as lines

pub words : One lines.specs.contracts.words.ended lines.proofs.words.Reads.Learnt
words _ _ _ _ _ _ p q = (both p q, refl)

pub first_line : One lines.specs.contracts.first_line.ended lines.proofs.first_line.Reads.Learnt
first_line _ _ _ _ _ _ p q = (both p q, refl)

pub later_line : One lines.specs.contracts.later_line.ended lines.proofs.later_line.Reads.Learnt
later_line _ _ _ _ _ _ p q = (both p q, refl)

pub hold : One lines.specs.contracts.hold.ended lines.proofs.hold.Reads.Learnt
hold _ _ _ _ _ _ p q = (refl, first (both p q))

pub hold_next : One lines.specs.contracts.hold_next.ended lines.proofs.hold_next.Reads.Learnt
hold_next _ _ _ _ _ _ p q = (both p.0 q.0, first (both p.1 q.1))

pub say : One lines.specs.contracts.say.ended lines.proofs.say.Reads.Learnt
say _ _ _ _ _ _ p q = (refl, first (both p.0.value q.0.value))

pub say_bad : One lines.specs.contracts.say_bad.ended lines.proofs.say_bad.Reads.Learnt
say_bad _ _ _ _ _ _ p q = (refl, first (both p.0.value q.0.value))

pub say_refused : One lines.specs.contracts.say_refused.ended lines.proofs.say_refused.Reads.Learnt
say_refused _ _ _ _ _ _ p q = (refl, first (both p.0.value q.0.value))

pub say_end : One lines.specs.contracts.say_end.ended lines.proofs.say_end.Reads.Learnt
say_end _ _ _ _ _ _ p q = (refl, first (both p.0.value q.0.value))
