-- A run from a line where the call can only wait: every step stays there, or goes to the other line and back.
use Rattle.std.specs.Prelude.{Option, None, Some}
use Prim.Native.Nat.{ℕ, zero, suc, ◌+◌, ◌*◌, ◌%◌}
use mathlib.Core.Path.{◌≡◌, refl, ap, ap₂, ◌∙◌, subst}
use mathlib.Core.Bool.{Bool, true, false, cond, ◌&&◌}
use mathlib.Core.List.{List}
use native.Mathlib.Omega.{arith}
use native.Mathlib.Numerals.{add-one}
use borrow.Author.Tests.{le-leb}
use lib.Dec.{leb, eqb}
use Rattle.index.specs.Position.{position, offset}
use Rattle.memory.specs.Layout.{state, next, has}
use Rattle.memory.specs.Touch.{leaves, after}
use Rattle.memory.specs.declared.Mark.TheVariants.{Write}
use Rattle.state.specs.Move.{Move, Step, on, with_call, settled}
use Rattle.state.specs.List.{block_good, loaded_good, shared_good, nexts_good, held_good, push_good, open_good, steal_good, call_good, record_good, state_good}
use Rattle.state.specs.ListLaws.{both}
use Rattle.state.specs.declared.Queue.{Queue}
use Rattle.state.specs.declared.Kind.{Kind}
use Rattle.state.specs.declared.Claim.{Claim}
use Rattle.state.specs.declared.PushLine.TheVariants.{P1, P2, P3, P4, P5, P6, P7, P8, P9, P10}
use Rattle.state.specs.declared.StealLine.TheVariants.{S1, S2, S3, S4, S5, S6, S7, S8, S9, S10, S11, S12, S13, S14}
use Rattle.state.specs.declared.Call.{Call}
use Rattle.state.specs.declared.Call.TheVariants.{Idle, Push, Steal, Length, Empty}
use Rattle.state.specs.declared.Answer.TheVariants.{Open}
use Rattle.state.specs.declared.Thread.{Thread}
use Rattle.machine.specs.Push.{p2}
use Rattle.machine.specs.Steal.{s2, s5, s5_next, s9}
use Rattle.wait.specs.declared.Wait.{Wait}
use Rattle.wait.specs.declared.Wait.TheVariants.{No, Stays, Turns}
use Rattle.machine.specs.Step.{After, is_open, step_at, step_of, done, once, counted, run_from}
use Rattle.wait.specs.Wait.{none_waits, wait_of, waits, waited_call}
use Rattle.run.proofs.Keeps.{both_true}
use Rattle.machine.specs.TestLaws.{good-shared, good_record}

-- ---- one step of a run

goes_on : (a b : Bool) (x y : After) → (a && b) ≡ true → cond a (cond b x y) y ≡ x
goes_on true b x y e = rw e
goes_on false b x y e = cc

stops : (a b : Bool) (x y : After) → (a && b) ≡ false → cond a (cond b x y) y ≡ y
stops true b x y e = rw e
stops false b x y e = refl

module _ (n : ℕ) (q : Queue) (m : List ℕ) (t : Thread) (s : Step) (is : step_of q m t ≡ s) where
  -- whether the step left the call open and the state good, and what is then left to run
  abbrev opens : Bool
  opens = is_open s.stepped.answer

  abbrev keeps : Bool
  keeps = state_good s.stepped.queue (after m s.touch) s.stepped.thread

  abbrev rest : After
  rest = run_from n s.stepped.queue (after m s.touch) s.stepped.thread

  pub run_on : (opens && keeps) ≡ true → run_from (suc n) q m t ≡ counted rest
  unfolding run_from
  run_on e = rw is (goes_on opens keeps (counted rest) (once m s) e)

  pub run-stops : (opens && keeps) ≡ false → run_from (suc n) q m t ≡ once m s
  unfolding run_from
  run-stops e = rw is (stops opens keeps (counted rest) (once m s) e)

-- ---- a run that waits

-- a step that goes to a line and does nothing else
abbrev goes : Queue → Thread → Call → Step
goes q t call = record { stepped = record { queue = q; thread = with_call t call; answer = Open }; touch = leaves }

module _ (q : Queue) (m : List ℕ) (t : Thread) (good : state_good q m t ≡ true) where
  run-stays : step_of q m t ≡ goes q t t.call → (n : ℕ) → run_from n q m t ≡ done q m t Open n
  unfolding run_from
  run-stays e zero = refl
  run-stays e (suc n) = run_on n q m t (goes q t t.call) e good ∙ ap counted (run-stays e n) ∙ ap (done q m t Open) (add-one n)

  run_turns :
      (other : Call) →
      step_of q m t ≡ goes q t other →
      step_of q m (with_call t other) ≡ goes q t t.call →
      state_good q m (with_call t other) ≡ true →
      (n : ℕ) →
      run_from n q m t ≡ done q m (with_call t (cond (eqb (n % 2) 1) other t.call)) Open n
  unfolding run_from
  run_turns other out back there zero = refl
  run_turns other out back there (suc zero) = run_on zero q m t (goes q t other) out there
  run_turns other out back there (suc (suc n)) =
      let parity : n % 2 ≡ suc (suc n) % 2 = omega arith in
      let steps : n + 1 + 1 ≡ suc (suc n) = omega arith in
      run_on (suc n) q m t (goes q t other) out there
      ∙ ap counted
      (run_on n q m (with_call t other) (goes q t t.call) back good
      ∙ ap counted (run_turns other out back there n))
      ∙ ap₂ (λ (p k : ℕ). done q m (with_call t (cond (eqb p 1) other t.call)) Open k) parity steps

-- ---- the lines that wait

-- the two lines of a turn: each goes to the other, and the second is as good as the first
record Turning (q : Queue) (m : List ℕ) (call other : Call) : Type 0 where
  out : (t : Thread) → step_at q m t call ≡ goes q t other
  back : (t : Thread) → step_at q m t other ≡ goes q t call
  good : (count : ℕ) → shared_good q ≡ true → call_good q count call ≡ true → call_good q count other ≡ true

cond-true : (b : Bool) (x y : Move) → b ≡ true → cond b x y ≡ x
cond-true b x y e = rw e

-- the head is not above the tail
head_loaded : (q : Queue) → shared_good q ≡ true → loaded_good q q.head ≡ true
unfolding shared_good
head_loaded q e =
    let blocks = block_good q q.head_block && block_good q q.tail_block in
    (both (blocks && leb (position q.tail.raw) (q.ceiling * 64)) (loaded_good q q.head) e).1

module _ (q : Queue) (m : List ℕ) where
  p1_turns : (token : ℕ) (held : Option ℕ) → eqb (offset (position q.tail.raw)) 63 ≡ true → Turning q m (Push (P1 token held)) (Push (P2 token q.tail held))
  unfolding p2 push_good
  p1_turns token held e = record {
    out = λ t. refl;
    back = λ t. ap (settled t) (cond-true (eqb (offset (position q.tail.raw)) 63) (on q (Push (P1 token held)) leaves) _ e);
    good =
        λ count shared g. both_true (loaded_good q q.tail) (held_good q held)
        (le-leb (position q.tail.raw) (position q.tail.raw) (omega arith))
        g;
  }

  s1_turns : (k : Kind) → eqb (offset (position q.head.raw)) 63 ≡ true → Turning q m (Steal (S1 k)) (Steal (S2 k q.head))
  unfolding s2 steal_good
  s1_turns k e = record {
    out = λ t. refl;
    back = λ t. ap (settled t) (cond-true (eqb (offset (position q.head.raw)) 63) (on q (Steal (S1 k)) leaves) _ e);
    good = λ count shared g. both_true (open_good k count) (loaded_good q q.head) g (head_loaded q shared);
  }

  -- what waiting means for the call's own steps
  abbrev Says : Call → Wait → Type 0
  Says call No = Unit
  Says call Stays = (t : Thread) → step_at q m t call ≡ goes q t call
  Says call (Turns other) = Turning q m call other

  turns_says : (call other : Call) (b : Bool) → (b ≡ true → Turning q m call other) → Says call (cond b (Turns other) No)
  turns_says call other true f = f refl
  turns_says call other false f = tt

  s5-says : (k : Kind) (c : Claim) (x : Option ℕ) → next m c.block ≡ x → Says (Steal (S5 k c)) (none_waits x)
  unfolding s5
  s5-says k c None e = λ t. ap (λ (x : Option ℕ). settled t (s5_next q k c x)) e
  s5-says k c (Some x) e = tt

  s9-says : (k : Kind) (c : Claim) (slot : ℕ) (b : Bool) → has Write (state m c.block slot) ≡ b → Says (Steal (S9 k c slot)) (cond b No Stays)
  unfolding s9
  s9-says k c slot true e = tt
  s9-says k c slot false e =
      λ t. ap (λ (b : Bool). settled t (cond b (on q (Steal (S10 k c slot)) leaves) (on q (Steal (S9 k c slot)) leaves))) e

  says : (call : Call) → Says call (wait_of q m call)
  unfolding wait_of
  says Idle = tt
  says (Push (P1 token held)) =
      turns_says (Push (P1 token held)) (Push (P2 token q.tail held)) (eqb (offset (position q.tail.raw)) 63) (p1_turns token held)
  says (Push (P2 token i held)) = tt
  says (Push (P3 token i b)) = tt
  says (Push (P4 token i b held)) = tt
  says (Push (P5 token i b x)) = tt
  says (Push (P6 token i b x)) = tt
  says (Push (P7 token i b x)) = tt
  says (Push (P8 token i b held)) = tt
  says (Push (P9 token i b held)) = tt
  says (Push (P10 x spent)) = tt
  says (Steal (S1 k)) = turns_says (Steal (S1 k)) (Steal (S2 k q.head)) (eqb (offset (position q.head.raw)) 63) (s1_turns k)
  says (Steal (S2 k h)) = tt
  says (Steal (S3 k h b)) = tt
  says (Steal (S4 k c more)) = tt
  says (Steal (S5 k c)) = s5-says k c (next m c.block) refl
  says (Steal (S6 k c x)) = tt
  says (Steal (S7 k c x more)) = tt
  says (Steal (S8 k c more)) = tt
  says (Steal (S9 k c slot)) = s9-says k c slot (has Write (state m c.block slot)) refl
  says (Steal (S10 k c slot)) = tt
  says (Steal (S11 won c slot)) = tt
  says (Steal (S12 won b slot)) = tt
  says (Steal (S13 won b slot)) = tt
  says (Steal (S14 won b)) = tt
  says (Length line) = tt
  says (Empty line) = tt

-- ---- what a run makes of a wait

module _ (q : Queue) (m : List ℕ) (t : Thread) (good : state_good q m t ≡ true) where
  turned_good : (other : Call) → Turning q m t.call other → state_good q m (with_call t other) ≡ true
  unfolding record_good
  turned_good other h =
      let shared = good-shared q m t good in
      let r = both (leb t.ring.count 64) (call_good q t.ring.count t.call) (good_record q m t good) in
      both_true (shared_good q && nexts_good m q.blocks q.blocks) (record_good q (with_call t other))
      (both (shared_good q && nexts_good m q.blocks q.blocks) (record_good q t) good).0
      (both_true (leb t.ring.count 64) (call_good q t.ring.count other) r.0 (h.good t.ring.count shared r.1))

  run-says : (w : Wait) → Says q m t.call w → waits w ≡ true → (n : ℕ) → run_from n q m t ≡ done q m (with_call t (waited_call t.call w n)) Open n
  unfolding step_of
  run-says No e h n = cc
  run-says Stays e h n = run-stays q m t good (e t) n
  run-says (Turns other) e h n = run_turns q m t good other (e.out t) (e.back (with_call t other)) (turned_good other e) n

  -- the rest of the budget is waiting
  pub run-waits : (w : Wait) → wait_of q m t.call ≡ w → waits w ≡ true → (n : ℕ) → run_from n q m t ≡ done q m (with_call t (waited_call t.call w n)) Open n
  run-waits w e h n = run-says w (subst (λ (x : Wait). Says q m t.call x) e (says q m t.call)) h n
