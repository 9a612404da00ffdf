-- At which stage a call is at each line; and what the note of an ended call makes of it.
use Prim.Native.Nat.{ℕ, ◌≤◌, ◌<◌}
use mathlib.Core.Path.{◌≡◌, refl, sym, ap, subst, ◌∙◌}
use mathlib.Core.Bool.{Bool, true, false, cond}
use mathlib.Core.List.{List, [], ◌∷◌}
use native.Mathlib.Nat.{lt_of_lt_of_le}
use lib.ListN.{length, get_or}
use Rattle.ring.specs.declared.Flavor.{Flavor}
use Rattle.state.specs.declared.Claim.{Claim}
use Rattle.state.specs.declared.Won.{Won}
use Rattle.state.specs.declared.Won.TheVariants.{Task, Moved}
use Rattle.state.specs.declared.StealLine.{StealLine}
use Rattle.state.specs.declared.StealLine.TheVariants.{S1, S2, S3, S4, S5, S6, S7, S8, S9, S10, S11, S12, S13, S14}
use Rattle.state.specs.declared.Call.{Call}
use Rattle.state.specs.declared.Call.TheVariants.{Idle, Push, Steal, Length, Empty}
use Rattle.state.specs.declared.Answer.{Answer}
use Rattle.state.specs.declared.Answer.TheVariants.{Open}
use Rattle.machine.specs.Steal.{answer_of}
use Rattle.machine.specs.Step.{is_open}
use Rattle.history.specs.Log.{Note, ends}
use Rattle.invariant.specs.State.{tk}
use Rattle.invariant.proofs.Facts.{clash, put_same, put_other}
use Rattle.promise.specs.Promise.{Stage, nothing, claimed, handed, MayEnd}
use Rattle.promise.proofs.Tally.{Tally, tallied, FairFrom}

-- how far a call has come, by its line
pub data Place : Type 0 where
  early : Place
  reading : Claim → Place
  won : Won → Place

abbrev pub steal_place : StealLine → Place
steal_place (S1 k) = early
steal_place (S2 k h) = early
steal_place (S3 k h b) = early
steal_place (S4 k c more) = early
steal_place (S5 k c) = reading c
steal_place (S6 k c x) = reading c
steal_place (S7 k c x more) = reading c
steal_place (S8 k c more) = reading c
steal_place (S9 k c slot) = reading c
steal_place (S10 k c slot) = reading c
steal_place (S11 w c slot) = won w
steal_place (S12 w b slot) = won w
steal_place (S13 w b slot) = won w
steal_place (S14 w b) = won w

abbrev pub place_of : Call → Place
place_of Idle = early
place_of (Push line) = early
place_of (Steal line) = steal_place line
place_of (Length line) = early
place_of (Empty line) = early

-- a call that has handed over: its answer is the token of its first ticket, or all of its tokens are in the ring
pub record Answers (tokens : List ℕ) (v : ℕ) (stage : Stage) : Type 0 where
  pub first : ℕ
  pub gave : stage ≡ handed first 1
  pub pushed : first < length tokens
  pub token : v ≡ get_or tokens first 0

pub record AllMoved (stage : Stage) : Type 0 where
  pub first : ℕ
  pub gave : stage ≡ handed first 0

abbrev pub WonAt : List ℕ → Stage → Won → Type 0
WonAt tokens stage (Task v) = Answers tokens v stage
WonAt tokens stage Moved = AllMoved stage

abbrev pub At : List ℕ → Stage → Place → Type 0
At tokens stage early = stage ≡ nothing
At tokens stage (reading c) = stage ≡ claimed (tk c.head.raw) c.advance
At tokens stage (won w) = WonAt tokens stage w

-- the tokens are written at their end alone
pub record Grows (old new : List ℕ) : Type 0 where
  pub longer : length old ≤ length new
  pub same : (k : ℕ) → k < length old → get_or new k 0 ≡ get_or old k 0

won-grows : (old new : List ℕ) (stage : Stage) (w : Won) → Grows old new → WonAt old stage w → WonAt new stage w
won-grows old new stage (Task v) g p =
    record {
      first = p.first;
      gave = p.gave;
      pushed = lt_of_lt_of_le p.pushed g.longer;
      token = p.token ∙ sym (g.same p.first p.pushed);
    }
won-grows old new stage Moved g p = p

pub at-grows : (old new : List ℕ) (stage : Stage) (place : Place) → Grows old new → At old stage place → At new stage place
at-grows old new stage early g p = p
at-grows old new stage (reading c) g p = p
at-grows old new stage (won w) g p = won-grows old new stage w g p

-- the stage that a step leaves its call at, with the answer that it gave: it goes on at a line, or has ended
pub data Goes (tokens : List ℕ) (stage : Stage) : Call → Answer → Type 0 where
  on : {call : Call} → At tokens stage (place_of call) → Goes tokens stage call Open
  over : {answer : Answer} → is_open answer ≡ false → MayEnd tokens stage answer → Goes tokens stage Idle answer

-- an early call may end with any answer that is none of a claim
pub over-early : (tokens : List ℕ) (stage : Stage) (answer : Answer) → stage ≡ nothing → is_open answer ≡ false → MayEnd tokens nothing answer
    → Goes tokens stage Idle answer
over-early tokens stage answer e o m = over o (subst (λ (x : Stage). MayEnd tokens x answer) (sym e) m)

-- .. and one that has handed over, with what it has won
pub over-won : (tokens : List ℕ) (stage : Stage) (w : Won) → WonAt tokens stage w → Goes tokens stage Idle (answer_of w)
over-won tokens stage (Task v) p =
    over refl (subst (λ (x : Stage). MayEnd tokens x (answer_of (Task v))) (sym p.gave) (refl, ap (λ (token : ℕ). token ∷ []) p.token))
over-won tokens stage Moved p = over refl (subst (λ (x : Stage). MayEnd tokens x (answer_of Moved)) (sym p.gave) refl)

-- the note of a step's answer
abbrev pub end_notes : ℕ → Answer → List Note
end_notes n answer = cond (is_open answer) [] (ends (record { thread = n; answer = answer }) ∷ [])

pub record Closed (flavors : List Flavor) (c : Tally) (n : ℕ) (call : Call) (l : List Note) : Type 0 where
  pub fair : FairFrom flavors c l
  pub tokens : (tallied c l).tokens ≡ c.tokens
  pub done : (tallied c l).done ≡ c.done
  pub mine : At c.tokens ((tallied c l).stages n) (place_of call)
  pub others : (j : ℕ) → (j ≡ n → ⊥) → (tallied c l).stages j ≡ c.stages j

ended : (flavors : List Flavor) (c : Tally) (n : ℕ) (answer : Answer) → MayEnd c.tokens (c.stages n) answer
    → (d : Bool) → d ≡ false → Closed flavors c n Idle (cond d [] (ends (record { thread = n; answer = answer }) ∷ []))
ended flavors c n answer m true e = clash true refl e
ended flavors c n answer m false e =
    record {
      fair = (m, tt);
      tokens = refl;
      done = refl;
      mine = put_same c.stages n nothing;
      others = λ j o. put_other c.stages n nothing j o;
    }

pub closes : (flavors : List Flavor) (c : Tally) (n : ℕ) (call : Call) (answer : Answer) → Goes c.tokens (c.stages n) call answer
    → Closed flavors c n call (end_notes n answer)
closes flavors c n call answer (on p) =
    record { fair = tt; tokens = refl; done = refl; mine = p; others = λ j o. refl }
closes flavors c n call answer (over o m) = ended flavors c n answer m (is_open answer) o
