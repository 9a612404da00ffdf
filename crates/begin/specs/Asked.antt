-- The tests of a begin in their order: those of an entry that wants no call open, then NO_LIMIT and NO_ROOM. Below it, that
-- a begin is defined so.
use Rattle.std.specs.Prelude.{ℕ, ◌≡◌, refl, Bool, true, false, cond, List, Result, Ok, Err}
use Rattle.std.proofs.Common.{ap}
use Rattle.state.specs.List.{limit_good, room_good}
use Rattle.state.specs.declared.Queue.{Queue}
use Rattle.state.specs.declared.Thread.{Thread}
use Rattle.state.specs.declared.Kind.{Kind}
use Rattle.state.specs.declared.Refusal.{Refusal}
use Rattle.state.specs.declared.Refusal.TheVariants.{Busy, NoLimit, NoRoom}
use Rattle.machine.specs.declared.Request.{Request}
use Rattle.machine.specs.declared.Given.{Given}
use Rattle.machine.specs.Step.{is_idle}
use Rattle.machine.specs.Entry.{tested, tested_as, not_given, begun, begin_tested, begin_entry}
use Rattle.entry.specs.Standing.{or_busy, tested_idle}

abbrev pub or_limit : Kind → ℕ → Result Unit Refusal → Result Unit Refusal
or_limit k count (Err r) = Err r
or_limit k count (Ok tt) = cond (limit_good k) (cond (room_good k count) (Ok tt) (Err NoRoom)) (Err NoLimit)

unfoldable pub tested_begin : Queue → List ℕ → Thread → ℕ → Request → Result Unit Refusal
tested_begin q m t n what = or_limit (tested_as what) t.ring.count (tested_idle q m t n)

-- a begin by its tests: no call open, the limit, the room
module _ (t : Thread) (what : Request) where
  abbrev asked : Bool → Bool → Bool → Result Unit Refusal
  asked idle limit room = cond idle (cond limit (cond room (Ok tt) (Err NoRoom)) (Err NoLimit)) (Err Busy)

  abbrev given : Bool → Bool → Bool → Given Unit
  given idle limit room = cond idle (cond limit (cond room (begun t what) (not_given t NoRoom)) (not_given t NoLimit)) (not_given t Busy)

  told : {s r : Refusal} → ◌≡◌ {A = Result Unit Refusal} (Err s) (Err r) → ◌≡◌ {A = Given Unit} (not_given t s) (not_given t r)
  told {s} {r} e = let z : s ≡ r = cc in ap (not_given t) z

  given-refused : (idle limit room : Bool) (r : Refusal) → asked idle limit room ≡ Err r → given idle limit room ≡ not_given t r
  given-refused true true true r e = cc
  given-refused true true false r e = told e
  given-refused true false room r e = told e
  given-refused false limit room r e = told e

  given-begun : (idle limit room : Bool) → asked idle limit room ≡ Ok tt → given idle limit room ≡ begun t what
  given-begun true true true e = refl
  given-begun true true false e = cc
  given-begun true false room e = cc
  given-begun false limit room e = cc

  -- the order of the tests is one, however they are grouped
  grouped : (k : Kind) (count : ℕ) (b : Bool) → or_limit k count (cond b (Ok tt) (Err Busy)) ≡ asked b (limit_good k) (room_good k count)
  grouped k count true = refl
  grouped k count false = refl

  by-refused : (x : Result Unit Refusal) (r : Refusal) → or_limit (tested_as what) t.ring.count (or_busy t x) ≡ Err r → begin_tested t what x ≡ not_given t r
  by-refused (Err s) r e = told e
  by-refused (Ok tt) r e =
      given-refused (is_idle t.call) (limit_good (tested_as what)) (room_good (tested_as what) t.ring.count) r
      (rw grouped at e)

  by-passed : (x : Result Unit Refusal) → or_limit (tested_as what) t.ring.count (or_busy t x) ≡ Ok tt → begin_tested t what x ≡ begun t what
  by-passed (Err s) e = cc
  by-passed (Ok tt) e =
      given-begun (is_idle t.call) (limit_good (tested_as what)) (room_good (tested_as what) t.ring.count)
      (rw grouped at e)

module _ (q : Queue) (m : List ℕ) (t : Thread) (n : ℕ) (what : Request) where
  pub begin_refused : {r : Refusal} → tested_begin q m t n what ≡ Err r → begin_entry q m t n what ≡ not_given t r
  unfolding tested_begin tested_idle begin_entry
  begin_refused {r} e = by-refused t what (tested q m t n) r e

  pub begin_begun : tested_begin q m t n what ≡ Ok tt → begin_entry q m t n what ≡ begun t what
  unfolding tested_begin tested_idle begin_entry
  begin_begun e = by-passed t what (tested q m t n) e
