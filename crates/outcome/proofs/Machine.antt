-- Each public function of `machine` has one outcome at most. Of a generic one: for each type it is called with. `to` is then
-- stated again of the four types that have an `impl Line`, over what the code's own impls say.
use mathlib.Core.Path.{◌≡◌, refl}
use denote.RattleType.{RattleType}
use Rattle.std.specs.declared.convert.Into as convert
use Rattle.std.specs.contracts.prelude.AnyInto.TheImpl as into
use Rattle.state.specs.declared.Line as line
use Rattle.state.specs.declared.Queue.{Queue}
use Rattle.state.specs.declared.Call.{Call}
use Rattle.state.specs.declared.Answer.{Answer}
use Rattle.state.specs.declared.Made.{Made}
use Rattle.state.specs.contracts.Call as call
use Rattle.state.specs.contracts.PushLine as push
use Rattle.state.specs.contracts.PushLineLine.TheImpl as push_line
use Rattle.state.specs.contracts.CallFromPushLine.TheImpl as from_push
use Rattle.state.specs.contracts.StealLine as steal
use Rattle.state.specs.contracts.StealLineLine.TheImpl as steal_line
use Rattle.state.specs.contracts.CallFromStealLine.TheImpl as from_steal
use Rattle.state.specs.contracts.LengthLine as length
use Rattle.state.specs.contracts.LengthLineLine.TheImpl as length_line
use Rattle.state.specs.contracts.CallFromLengthLine.TheImpl as from_length
use Rattle.state.specs.contracts.EmptyLine as empty
use Rattle.state.specs.contracts.EmptyLineLine.TheImpl as empty_line
use Rattle.state.specs.contracts.CallFromEmptyLine.TheImpl as from_empty
use Rattle.outcome.specs.One.{One}
use Rattle.outcome.proofs.Equations.{both}
use Rattle.machine as machine

pub not_given : (T' : RattleType) (laws : _) → One (machine.specs.contracts.not_given.ended T') (machine.proofs.not_given.Reads.Learnt T' laws)
not_given _ _ _ _ _ _ _ _ p q = (both p q, refl)

made : {q q' : Queue} {c c' : Call} {a a' : Answer} → q ≡ q' → c ≡ c' → a ≡ a'
    → ◌≡◌ {A = Made} (record { queue = q; call = c; answer = a }) (record { queue = q'; call = c'; answer = a' })
made e f g = cc

pub to : (L' : RattleType) (laws : _) (line : line.Ghosts L'.Denot) (d : _) (into : convert.Ghosts L'.Denot Call) (e : _) → One (machine.specs.contracts.to.ended L' line d into e) (machine.proofs.to.Reads.Learnt L' laws line d into e)
to _ _ _ _ _ _ _ _ _ _ _ _ p q = (made (both p.0 q.0) (both p.1.1.0 q.1.1.0) (both p.1.1.1 q.1.1.1), refl)

pub pushes_to : (laws : _) → One (machine.specs.contracts.to.ended push.the_row push_line.ghosts push_line.dict (into.ghosts push.the_row call.the_row from_push.ghosts from_push.dict) (into.dict push.the_row call.the_row from_push.ghosts from_push.dict)) (machine.proofs.to.Reads.Learnt push.the_row laws push_line.ghosts push_line.dict (into.ghosts push.the_row call.the_row from_push.ghosts from_push.dict) (into.dict push.the_row call.the_row from_push.ghosts from_push.dict))
pushes_to laws = to push.the_row laws push_line.ghosts push_line.dict (into.ghosts push.the_row call.the_row from_push.ghosts from_push.dict) (into.dict push.the_row call.the_row from_push.ghosts from_push.dict)

pub steals_to : (laws : _) → One (machine.specs.contracts.to.ended steal.the_row steal_line.ghosts steal_line.dict (into.ghosts steal.the_row call.the_row from_steal.ghosts from_steal.dict) (into.dict steal.the_row call.the_row from_steal.ghosts from_steal.dict)) (machine.proofs.to.Reads.Learnt steal.the_row laws steal_line.ghosts steal_line.dict (into.ghosts steal.the_row call.the_row from_steal.ghosts from_steal.dict) (into.dict steal.the_row call.the_row from_steal.ghosts from_steal.dict))
steals_to laws = to steal.the_row laws steal_line.ghosts steal_line.dict (into.ghosts steal.the_row call.the_row from_steal.ghosts from_steal.dict) (into.dict steal.the_row call.the_row from_steal.ghosts from_steal.dict)

pub lengths_to : (laws : _) → One (machine.specs.contracts.to.ended length.the_row length_line.ghosts length_line.dict (into.ghosts length.the_row call.the_row from_length.ghosts from_length.dict) (into.dict length.the_row call.the_row from_length.ghosts from_length.dict)) (machine.proofs.to.Reads.Learnt length.the_row laws length_line.ghosts length_line.dict (into.ghosts length.the_row call.the_row from_length.ghosts from_length.dict) (into.dict length.the_row call.the_row from_length.ghosts from_length.dict))
lengths_to laws = to length.the_row laws length_line.ghosts length_line.dict (into.ghosts length.the_row call.the_row from_length.ghosts from_length.dict) (into.dict length.the_row call.the_row from_length.ghosts from_length.dict)

pub empties_to : (laws : _) → One (machine.specs.contracts.to.ended empty.the_row empty_line.ghosts empty_line.dict (into.ghosts empty.the_row call.the_row from_empty.ghosts from_empty.dict) (into.dict empty.the_row call.the_row from_empty.ghosts from_empty.dict)) (machine.proofs.to.Reads.Learnt empty.the_row laws empty_line.ghosts empty_line.dict (into.ghosts empty.the_row call.the_row from_empty.ghosts from_empty.dict) (into.dict empty.the_row call.the_row from_empty.ghosts from_empty.dict))
empties_to laws = to empty.the_row laws empty_line.ghosts empty_line.dict (into.ghosts empty.the_row call.the_row from_empty.ghosts from_empty.dict) (into.dict empty.the_row call.the_row from_empty.ghosts from_empty.dict)

pub ends : One machine.specs.contracts.ends.ended machine.proofs.ends.Reads.Learnt
ends _ _ _ _ _ _ p q = (both p q, refl)

pub steals_first : One machine.specs.contracts.steals.first.ended machine.proofs.steals.first.Reads.Learnt
steals_first _ _ _ _ _ _ p q = (both p q, refl)

pub steals_past : One machine.specs.contracts.steals.past.ended machine.proofs.steals.past.Reads.Learnt
steals_past _ _ _ _ _ _ p q = (both p q, refl)

pub steals_walk_below : One machine.specs.contracts.steals.walk_below.ended machine.proofs.steals.walk_below.Reads.Learnt
steals_walk_below _ _ _ _ _ _ p q = (both p q, refl)

pub call_from_request : One machine.specs.contracts.CallFromRequest.from.ended machine.proofs.CallFromRequest.from.Reads.Learnt
call_from_request _ _ _ _ _ _ p q = (both p q, refl)

pub kind_from_request : One machine.specs.contracts.KindFromRequest.from.ended machine.proofs.KindFromRequest.from.Reads.Learnt
kind_from_request _ _ _ _ _ _ p q = (both p q, refl)
