-- Phases 2 and 3: with no early call open, every push ends within 5 rounds, and then every call within 187.
use Prim.Native.Nat.{ℕ, zero, suc, ◌+◌, ◌-◌, ◌≤◌, ◌<◌}
use mathlib.Core.Path.{◌≡◌, refl, sym, ap, subst, ◌∙◌}
use mathlib.Core.Bool.{Bool, true, false, not, cond}
use mathlib.Core.Logic.{⊎_elim}
use mathlib.Core.List.{List, [], ◌∷◌}
use native.Mathlib.Omega.{arith}
use native.Mathlib.Decide.{ℕ_discrete}
use lib.ListN.{length}
use lib.Dec.{eqb}
use borrow.Author.Tests.{eqb-true, eqb-false}
use Rattle.state.specs.declared.PushLine.TheVariants.{P1, P2, P3, P4, P5, P6, P7, P8, P9, P10}
use Rattle.state.specs.declared.StealLine.TheVariants.{S1, S2, S3, S4, S5, S6, S7, S8, S9, S10, S11, S12, S13, S14}
use Rattle.state.specs.declared.Call.{Call}
use Rattle.state.specs.declared.Call.TheVariants.{Idle, Push, Steal, Length, Empty}
use Rattle.state.specs.declared.Thread.{Thread}
use Rattle.machine.specs.Step.{is_idle}
use Rattle.history.specs.Board.{Board, steps, thread_at, asked}
use Rattle.invariant.proofs.Facts.{cond_elim, clash}
use Rattle.settle.specs.Whole.{Whole, state_of}
use Rattle.settle.specs.Rounds.{is_open_at, times, Round, step_all, Rounds, after}
use Rattle.settle.specs.Late.{is_late, late, is_push, Waits}
use Rattle.settle.proofs.Moves.{Fit, idle-call, open_call, idle-step, step_other, step-own}
use Rattle.settle.proofs.Fits.{fit_ask}
use Rattle.settle.proofs.Whole.{whole-step}
use Rattle.settle.proofs.Late.{is_calm, Falls, Goes, late-step}
use Rattle.settle.proofs.LateBound.{push_bound, late_bound, nobody_waits}

abbrev pub call_at : Board → ℕ → Call
call_at w n = (thread_at w n).call

-- ---- a rank that falls with each step of its own thread falls in every round

module _ (I : Board → Type 0) (rank : Call → ℕ) (keep : (w : Board) (n : ℕ) → I w → I (asked w (steps n)))
    (fall : (w : Board) (n : ℕ) → I w → rank (call_at (asked w (steps n)) n) ≤ rank (call_at w n) - 1)
    (idle : (call : Call) → is_idle call ≡ true → rank call ≡ 0) where
  all-kept : (w : Board) (order : List ℕ) → I w → I (step_all w order)
  all-kept w [] k = k
  all-kept w (m ∷ order) k = all-kept (asked w (steps m)) order (keep w m k)

  all_fall : (w : Board) (order : List ℕ) (n : ℕ) → I w → rank (call_at (step_all w order) n) ≤ rank (call_at w n) - times n order
  all_fall w [] n k = omega arith
  all_fall w (m ∷ order) n k =
      let more = all_fall (asked w (steps m)) order n (keep w m k) in
      cond_elim (λ (c : ℕ). rank (call_at (step_all (asked w (steps m)) order) n) ≤ rank (call_at w n) - c) (eqb m n) _ _
      (λ e. let z = fall w n k in let same = eqb-true m n e in let there : rank (call_at (asked w (steps m)) n) ≤ rank (call_at w n) - 1 = rw same z in omega arith)
      (λ e.
      let there : rank (call_at (asked w (steps m)) n) ≡ rank (call_at w n) =
      ap (λ (t : Thread). rank t.call) (step_other w m n (λ f. eqb-false m n e (sym f))) in
      omega arith)

  round_fall : (w : Board) (order : List ℕ) (n : ℕ) → I w → Round w order → rank (call_at (step_all w order) n) ≤ rank (call_at w n) - 1
  round_fall w order n k r = by (is_open_at w n) refl
    where
      by : (b : Bool) → is_open_at w n ≡ b → rank (call_at (step_all w order) n) ≤ rank (call_at w n) - 1
      by true e =
          let z = all_fall w order n k in
          let one : times n order ≡ 1 = r n ∙ ap (λ (b : Bool). cond b 1 0) e in
          omega arith
      by false e =
          let z = all_fall w order n k in
          let none : rank (call_at w n) ≡ 0 = idle (call_at w n) (idle-call w n e) in
          omega arith

  rounds_fall : (w : Board) (rounds : List (List ℕ)) (n : ℕ) → I w → Rounds w rounds
      → rank (call_at (after w rounds) n) ≤ rank (call_at w n) - length rounds
  rounds_fall w [] n k r = omega arith
  rounds_fall w (order ∷ rounds) n k r =
      let one = round_fall w order n k r.0 in
      let more = rounds_fall (step_all w order) rounds n (all-kept w order k) r.1 in
      omega arith

  rounds_kept : (w : Board) (rounds : List (List ℕ)) → I w → I (after w rounds)
  rounds_kept w [] k = k
  rounds_kept w (order ∷ rounds) k = rounds_kept (step_all w order) rounds (all-kept w order k)

-- ---- no early call is open

pub record Calm (w : Board) : Type 0 where
  pub whole : Whole w
  pub fit : Fit w
  pub calm : (n : ℕ) → is_calm (call_at w n) ≡ true

calm-late : (call : Call) → is_calm call ≡ true → is_idle call ≡ false → is_late call ≡ true
calm-late call e f = rw f at e

-- what thread n's own step makes of its call
own-goes : (w : Board) (n : ℕ) (k : Calm w) → is_open_at w n ≡ true → Goes (state_of w k.whole.ghost) (call_at w n) (call_at (asked w (steps n)) n)
own-goes w n k e =
    subst (λ (t : Thread). Goes (state_of w k.whole.ghost) (call_at w n) t.call) (sym (step-own w n k.whole k.fit e))
    (late-step (state_of w k.whole.ghost) n (thread_at w n) (k.whole.threads n) (calm-late (call_at w n) (k.calm n) (open_call w n e)))

-- what holds of a call that stays, and of one that falls, holds after a step; the others' calls stay
own-step : (P : Call → Type 0) (w : Board) (n : ℕ) (k : Calm w) → (is_idle (call_at w n) ≡ true → P (call_at w n))
    → (Waits (state_of w k.whole.ghost) (call_at w n) → P (call_at w n)) → ((new : Call) → Falls (call_at w n) new → P new)
    → P (call_at (asked w (steps n)) n)
own-step P w n k same waits falls = by (is_open_at w n) refl
  where
    by : (b : Bool) → is_open_at w n ≡ b → P (call_at (asked w (steps n)) n)
    by true e =
        ⊎_elim (λ (f : Falls (call_at w n) (call_at (asked w (steps n)) n)). falls (call_at (asked w (steps n)) n) f)
        (λ (f : (call_at (asked w (steps n)) n ≡ call_at w n) × Waits (state_of w k.whole.ghost) (call_at w n)).
        subst P (sym f.0) (waits f.1))
        (own-goes w n k e)
    by false e = subst (λ (x : Board). P (call_at x n)) (sym (idle-step w n e)) (same (idle-call w n e))

each_step : (P : Call → Type 0) (w : Board) (n : ℕ) → P (call_at (asked w (steps n)) n) → ((j : ℕ) → P (call_at w j)) → (j : ℕ)
    → P (call_at (asked w (steps n)) j)
each_step P w n mine theirs j = by (ℕ_discrete j n)
  where
    by : Dec (j ≡ n) → P (call_at (asked w (steps n)) j)
    by (yes e) = rw e mine
    by (no o) = subst (λ (t : Thread). P t.call) (sym (step_other w n j o)) (theirs j)

calm-step : (w : Board) (n : ℕ) → Calm w → Calm (asked w (steps n))
calm-step w n k =
    record {
      whole = whole-step w n k.whole;
      fit = fit_ask w k.fit (steps n);
      calm =
          each_step (λ (c : Call). is_calm c ≡ true) w n
          (own-step (λ (c : Call). is_calm c ≡ true) w n k (λ e. k.calm n) (λ e. k.calm n) (λ new f. f.calm))
          k.calm;
    }

-- ---- phase 2: the lines that open pushes have left

abbrev push_late : Call → ℕ
push_late call = cond (is_push call) (late call) 0

push-late-idle : (call : Call) → is_idle call ≡ true → push_late call ≡ 0
push-late-idle Idle e = refl
push-late-idle (Push line) e = clash false e refl
push-late-idle (Steal line) e = refl
push-late-idle (Length line) e = refl
push-late-idle (Empty line) e = refl

push-late-waits : (w : Board) (k : Calm w) (call : Call) → Waits (state_of w k.whole.ghost) call → push_late call ≤ push_late call - 1
push-late-waits w k Idle e = omega arith
push-late-waits w k (Push line) e = absurd e
push-late-waits w k (Steal line) e = omega arith
push-late-waits w k (Length line) e = omega arith
push-late-waits w k (Empty line) e = omega arith

push-late-falls : (old new : Call) → Falls old new → push_late new ≤ push_late old - 1
push-late-falls old new f = by (is_push old) refl
  where
    at_most : (b : Bool) → is_push new ≡ b → push_late new ≤ late new
    at_most true e = rw e (omega arith)
    at_most false e = rw e (omega arith)

    by : (b : Bool) → is_push old ≡ b → push_late new ≤ push_late old - 1
    by true e =
        let less : late new < late old = f.less in
        let most = at_most (is_push new) refl in
        let is : push_late old ≡ late old = rw e in
        omega arith
    by false e =
        let none : push_late new ≡ 0 = rw (f.kind e) in
        omega arith

push_fall : (w : Board) (n : ℕ) → Calm w → push_late (call_at (asked w (steps n)) n) ≤ push_late (call_at w n) - 1
push_fall w n k =
    own-step (λ (c : Call). push_late c ≤ push_late (call_at w n) - 1) w n k
    (λ e. let z = push-late-idle (call_at w n) e in omega arith)
    (λ e. push-late-waits w k (call_at w n) e)
    (λ new f. push-late-falls (call_at w n) new f)

-- a push with no line left is no push
no_lines : (call : Call) → is_calm call ≡ true → push_late call ≤ 0 → is_push call ≡ false
no_lines Idle e z = refl
no_lines (Push (P1 v held)) e z = clash false e refl
no_lines (Push (P2 v t held)) e z = clash false e refl
no_lines (Push (P3 v t b)) e z = clash false e refl
no_lines (Push (P4 v t b held)) e z = clash false e refl
no_lines (Push (P5 v t b x)) e z = absurd (omega arith)
no_lines (Push (P6 v t b x)) e z = absurd (omega arith)
no_lines (Push (P7 v t b x)) e z = absurd (omega arith)
no_lines (Push (P8 v t b held)) e z = absurd (omega arith)
no_lines (Push (P9 v t b held)) e z = absurd (omega arith)
no_lines (Push (P10 x spent)) e z = absurd (omega arith)
no_lines (Steal line) e z = refl
no_lines (Length line) e z = refl
no_lines (Empty line) e z = refl

push-late_bound : (call : Call) → push_late call ≤ 5
push-late_bound Idle = omega arith
push-late_bound (Push line) = push_bound line
push-late_bound (Steal line) = omega arith
push-late_bound (Length line) = omega arith
push-late_bound (Empty line) = omega arith

-- ---- phase 3: no push is open, so nobody waits

record Bare (w : Board) : Type 0 where
  calm : Calm w
  bare : (n : ℕ) → is_push (call_at w n) ≡ false

no_wait : (w : Board) (k : Bare w) (n : ℕ) → Waits (state_of w k.calm.whole.ghost) (call_at w n) → ⊥
no_wait w k n e =
    let h = k.calm.whole in
    nobody_waits (state_of w h.ghost) (λ j. call_at w j) h.shared h.owed k.bare n (thread_at w n).ring.count (thread_at w n).taken
    (call_at w n) (h.threads n).call e

bare_step : (w : Board) (n : ℕ) → Bare w → Bare (asked w (steps n))
bare_step w n k =
    record {
      calm = calm-step w n k.calm;
      bare =
          each_step (λ (c : Call). is_push c ≡ false) w n
          (own-step (λ (c : Call). is_push c ≡ false) w n k.calm (λ e. k.bare n) (λ e. k.bare n) (λ new f. f.kind (k.bare n)))
          k.bare;
    }

late-idle : (call : Call) → is_idle call ≡ true → late call ≡ 0
late-idle Idle e = refl
late-idle (Push line) e = clash false e refl
late-idle (Steal line) e = clash false e refl
late-idle (Length line) e = clash false e refl
late-idle (Empty line) e = clash false e refl

late_fall : (w : Board) (n : ℕ) → Bare w → late (call_at (asked w (steps n)) n) ≤ late (call_at w n) - 1
late_fall w n k =
    own-step (λ (c : Call). late c ≤ late (call_at w n) - 1) w n k.calm
    (λ e. let z = late-idle (call_at w n) e in omega arith)
    (λ e. absurd (no_wait w k n e))
    (λ new f. let z : late new < late (call_at w n) = f.less in omega arith)

no_line : (call : Call) → is_calm call ≡ true → late call ≤ 0 → not (is_idle call) ≡ false
no_line Idle e z = refl
no_line (Push (P1 v held)) e z = clash false e refl
no_line (Push (P2 v t held)) e z = clash false e refl
no_line (Push (P3 v t b)) e z = clash false e refl
no_line (Push (P4 v t b held)) e z = clash false e refl
no_line (Push (P5 v t b x)) e z = absurd (omega arith)
no_line (Push (P6 v t b x)) e z = absurd (omega arith)
no_line (Push (P7 v t b x)) e z = absurd (omega arith)
no_line (Push (P8 v t b held)) e z = absurd (omega arith)
no_line (Push (P9 v t b held)) e z = absurd (omega arith)
no_line (Push (P10 x spent)) e z = absurd (omega arith)
no_line (Steal (S1 k)) e z = clash false e refl
no_line (Steal (S2 k h)) e z = clash false e refl
no_line (Steal (S3 k h b)) e z = clash false e refl
no_line (Steal (S4 k c more)) e z = clash false e refl
no_line (Steal (S5 k c)) e z = absurd (omega arith)
no_line (Steal (S6 k c x)) e z = absurd (omega arith)
no_line (Steal (S7 k c x more)) e z = absurd (omega arith)
no_line (Steal (S8 k c more)) e z = absurd (omega arith)
no_line (Steal (S9 k c r)) e z = absurd (omega arith)
no_line (Steal (S10 k c r)) e z = absurd (omega arith)
no_line (Steal (S11 won c r)) e z = absurd (omega arith)
no_line (Steal (S12 won b w)) e z = absurd (omega arith)
no_line (Steal (S13 won b w)) e z = absurd (omega arith)
no_line (Steal (S14 won b)) e z = absurd (omega arith)
no_line (Length line) e z = clash false e refl
no_line (Empty line) e z = clash false e refl

-- ---- the two phases, one after the other

phase_3 : (w : Board) → Bare w → (rounds : List (List ℕ)) → Rounds w rounds → 187 ≤ length rounds → (n : ℕ) → is_open_at (after w rounds) n ≡ false
phase_3 w k rounds r b n =
    let h = k.calm.whole in
    let most = late_bound (state_of w h.ghost) n (thread_at w n).ring.count (thread_at w n).taken (call_at w n) (h.threads n).call in
    let falls = rounds_fall Bare late bare_step late_fall late-idle w rounds n k r in
    no_line (call_at (after w rounds) n) ((rounds_kept Bare late bare_step late_fall late-idle w rounds k).calm.calm n) (omega arith)

phase_2 : (left : ℕ) (w : Board) → Calm w → ((n : ℕ) → push_late (call_at w n) ≤ left) → (rounds : List (List ℕ)) → Rounds w rounds
    → left + 187 ≤ length rounds → (n : ℕ) → is_open_at (after w rounds) n ≡ false
phase_2 zero w k most rounds r b =
    phase_3 w (record { calm = k; bare = λ n. no_lines (call_at w n) (k.calm n) (most n) }) rounds r (omega arith)
phase_2 (suc left) w k most [] r b = absurd (omega arith)
phase_2 (suc left) w k most (order ∷ rounds) r b =
    phase_2 left (step_all w order) (all-kept Calm push_late calm-step push_fall push-late-idle w order k)
    (λ n.
    let one = round_fall Calm push_late calm-step push_fall push-late-idle w order n k r.0 in
    let was = most n in
    omega arith)
    rounds r.1 (omega arith)

pub late_rounds : (w : Board) → Whole w → Fit w → ((n : ℕ) → is_open_at w n ≡ true → is_late (call_at w n) ≡ true)
    → (rounds : List (List ℕ)) → Rounds w rounds → 192 ≤ length rounds → (n : ℕ) → is_open_at (after w rounds) n ≡ false
late_rounds w h f none rounds r b = phase_2 5 w k (λ n. push-late_bound (call_at w n)) rounds r b
  where
    k : Calm w
    k =
        record {
          whole = h;
          fit = f;
          calm =
              λ n.
              cond_elim (λ (c : Bool). c ≡ true) (is_idle (call_at w n)) _ _
              (λ e. refl)
              (λ e. none n (rw e));
        }
