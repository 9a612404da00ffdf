-- Each public function of `state` has one outcome at most.
use mathlib.Core.Path.{refl}
use Rattle.outcome.specs.One.{One}
use Rattle.outcome.proofs.Equations.{both}
use Rattle.state as state

pub settle : One state.specs.contracts.settle.ended state.proofs.settle.Reads.Learnt
settle _ _ _ _ _ _ p q = (both p q, refl)

pub u64_from_refusal : One state.specs.contracts.U64FromRefusal.from.ended state.proofs.U64FromRefusal.from.Reads.Learnt
u64_from_refusal _ _ _ _ _ _ p q = (both p q, refl)

pub call_from_push_line : One state.specs.contracts.CallFromPushLine.from.ended state.proofs.CallFromPushLine.from.Reads.Learnt
call_from_push_line _ _ _ _ _ _ p q = (both p q, refl)

pub call_from_steal_line : One state.specs.contracts.CallFromStealLine.from.ended state.proofs.CallFromStealLine.from.Reads.Learnt
call_from_steal_line _ _ _ _ _ _ p q = (both p q, refl)

pub call_from_length_line : One state.specs.contracts.CallFromLengthLine.from.ended state.proofs.CallFromLengthLine.from.Reads.Learnt
call_from_length_line _ _ _ _ _ _ p q = (both p q, refl)

pub call_from_empty_line : One state.specs.contracts.CallFromEmptyLine.from.ended state.proofs.CallFromEmptyLine.from.Reads.Learnt
call_from_empty_line _ _ _ _ _ _ p q = (both p q, refl)

pub answer_from_won : One state.specs.contracts.AnswerFromWon.from.ended state.proofs.AnswerFromWon.from.Reads.Learnt
answer_from_won _ _ _ _ _ _ p q = (both p q, refl)
