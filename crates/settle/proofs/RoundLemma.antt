-- A round, abstractly: if each step of an open call leaves a number no higher, the key's step lowers it, and the key stays
-- while the number does, then the number falls in every round in which the key is open.
use Prim.Native.Nat.{ℕ, suc, ◌≤◌}
use mathlib.Core.Path.{◌≡◌, refl, sym, ap, ◌∙◌}
use mathlib.Core.Bool.{Bool, true, false, not, cond}
use mathlib.Core.Logic.{◌⊎◌, ⊎_elim}
use mathlib.Core.List.{List, [], ◌∷◌}
use native.Mathlib.Omega.{arith}
use native.Mathlib.Decide.{ℕ_discrete}
use borrow.Author.Tests.{eq-eqb, ne_eqb}
use Rattle.state.specs.declared.Thread.{Thread}
use Rattle.machine.specs.Step.{is_idle}
use Rattle.history.specs.Board.{Board, steps, asked}
use Rattle.settle.specs.Rounds.{is_open_at, times, Round, step_all}
use Rattle.settle.proofs.Moves.{step_other}

-- what is still to come of a round: open calls, each once
abbrev pub Rest : Board → List ℕ → Type 0
Rest w order = (n : ℕ) → 1 ≤ times n order → (times n order ≡ 1) × (is_open_at w n ≡ true)

times-same : (n : ℕ) (order : List ℕ) → times n (n ∷ order) ≡ suc (times n order)
times-same n order = rw (eq-eqb n n refl)

times-other : (m n : ℕ) (order : List ℕ) → (n ≡ m → ⊥) → times m (n ∷ order) ≡ times m order
times-other m n order o = rw (ne_eqb n m o)

pub rest_open : (w : Board) (n : ℕ) (order : List ℕ) → Rest w (n ∷ order) → is_open_at w n ≡ true
rest_open w n order r = (r n (rw (times-same n order) (omega arith))).1

pub rest-step : (w : Board) (n : ℕ) (order : List ℕ) → Rest w (n ∷ order) → Rest (asked w (steps n)) order
rest-step w n order r m b = go (ℕ_discrete m n)
  where
    go : Dec (m ≡ n) → (times m order ≡ 1) × (is_open_at (asked w (steps n)) m ≡ true)
    go (yes e) =
        let b' : 1 ≤ times n order = rw e at b in
        let one = (r n (rw (times-same n order) (omega arith))).0 in
        let two = times-same n order in
        absurd (omega arith)
    go (no o) =
        let same = times-other m n order (λ e. o (sym e)) in
        let p = r m (rw same b) in
        (sym same ∙ p.0, ap (λ (t : Thread). not (is_idle t.call)) (step_other w n m o) ∙ p.1)

pub round_rest : (w : Board) (order : List ℕ) → Round w order → Rest w order
round_rest w order r n b = go (is_open_at w n) refl
  where
    go : (o : Bool) → is_open_at w n ≡ o → (times n order ≡ 1) × (is_open_at w n ≡ true)
    go true e =
        let t = r n in
        let one : ◌≡◌ {A = ℕ} (cond (is_open_at w n) 1 0) 1 = rw e in
        (omega arith, e)
    go false e =
        let t = r n in
        let none : ◌≡◌ {A = ℕ} (cond (is_open_at w n) 1 0) 0 = rw e in
        absurd (omega arith)

-- an open call's turn comes
pub round_once : (w : Board) (order : List ℕ) (k : ℕ) → Round w order → is_open_at w k ≡ true → times k order ≡ 1
round_once w order k r e =
    let t = r k in
    let one : ◌≡◌ {A = ℕ} (cond (is_open_at w k) 1 0) 1 = rw e in
    omega arith

module _ (Good : Board → Type 0) (Below : Board → ℕ → Type 0) (At : Board → ℕ → ℕ → Type 0)
    (good-step : (w : Board) (n : ℕ) → Good w → Good (asked w (steps n)))
    (below_step : (w : Board) (n f : ℕ) → Good w → is_open_at w n ≡ true → Below w f → Below (asked w (steps n)) f)
    (at-step : (w : Board) (n f k : ℕ) → Good w → is_open_at w n ≡ true → At w f k
    → Below (asked w (steps n)) f ⊎ (At (asked w (steps n)) f k × (n ≡ k → ⊥))) where
  below_all : (order : List ℕ) (w : Board) (f : ℕ) → Good w → Rest w order → Below w f → Below (step_all w order) f
  below_all [] w f g r b = b
  below_all (n ∷ order) w f g r b =
      below_all order (asked w (steps n)) f (good-step w n g) (rest-step w n order r) (below_step w n f g (rest_open w n order r) b)

  rest-falls : (order : List ℕ) (w : Board) (f k : ℕ) → Good w → Rest w order → times k order ≡ 1 → At w f k → Below (step_all w order) f
  rest-falls [] w f k g r t a = absurd (omega arith)
  rest-falls (n ∷ order) w f k g r t a =
      ⊎_elim
      (λ b. below_all order (asked w (steps n)) f (good-step w n g) (rest-step w n order r) b)
      (λ (p : At (asked w (steps n)) f k × (n ≡ k → ⊥)).
      rest-falls order (asked w (steps n)) f k (good-step w n g) (rest-step w n order r) (sym (times-other k n order p.1) ∙ t) p.0)
      (at-step w n f k g (rest_open w n order r) a)

  pub round_falls : (w : Board) (order : List ℕ) (f k : ℕ) → Good w → Round w order → is_open_at w k ≡ true → At w f k → Below (step_all w order) f
  round_falls w order f k g r e a = rest-falls order w f k g (round_rest w order r) (round_once w order k r e) a
