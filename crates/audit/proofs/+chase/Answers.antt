-- Without these answers their goals stay open, or are open to a check at half its limits.
use Rattle.std.specs.Prelude.{ℕ, zero, suc, ◌+◌, ◌-◌, ◌≡◌, List, Option, None, Some, Result, Ok}
use Rattle.std.proofs.Common.{sym, ap, ◌∙◌, arith, eq-eqb, ne_eqb}
use Rattle.state.specs.declared.Refusal.{Refusal}
use Rattle.memory.specs.Layout.{next}
use Rattle.machine.specs.Audit.{chase}
use Rattle.audit.proofs.+chase.Goals as goal

-- the definition's answers, as the code tests for them
module _ (m : List ℕ) (at tail met : ℕ) where
  reached : (left : ℕ) → at ≡ tail → ◌≡◌ {A = Result (Option ℕ) Refusal} (Ok (Some met)) (chase left m at tail met)
  unfolding chase
  reached zero e = rw (eq-eqb at tail e)
  reached (suc n) e = rw (eq-eqb at tail e)

  used : (left : ℕ) → (at ≡ tail → ⊥) → left ≡ 0 → ◌≡◌ {A = Result (Option ℕ) Refusal} (Ok None) (chase left m at tail met)
  unfolding chase
  used left f z = rw (z, ne_eqb at tail f)

  ends-suc : (n : ℕ) → (at ≡ tail → ⊥) → next m at ≡ None → ◌≡◌ {A = Result (Option ℕ) Refusal} (Ok None) (chase (suc n) m at tail met)
  unfolding chase
  ends-suc n f e = simp (ne_eqb at tail f, e)

  ends : (left : ℕ) → (at ≡ tail → ⊥) → (left ≡ 0 → ⊥) → next m at ≡ None → ◌≡◌ {A = Result (Option ℕ) Refusal} (Ok None) (chase left m at tail met)
  ends left f z e =
      let k : suc (left - 1) ≡ left = omega arith in
      ends-suc (left - 1) f e ∙ ap (λ (l : ℕ). chase l m at tail met) k

  on-suc : (n : ℕ) {x : ℕ} → (at ≡ tail → ⊥) → next m at ≡ Some x → chase (suc n) m at tail met ≡ chase n m x tail (met + 1)
  unfolding chase
  on-suc n f e = simp (ne_eqb at tail f, e)

  goes_on : (left : ℕ) {x : ℕ} → (at ≡ tail → ⊥) → (left ≡ 0 → ⊥) → next m at ≡ Some x → chase left m at tail met ≡ chase (left - 1) m x tail (met + 1)
  goes_on left f z e =
      let k : left ≡ suc (left - 1) = omega arith in
      ap (λ (l : ℕ). chase l m at tail met) k ∙ on-suc (left - 1) f e

pub returns-then-at-tail : goal.returns-then-at-tail
returns-then-at-tail t c = reached _ _ _ _ _ c.if-at-tail.true

pub returns-then-left-eq0 : goal.returns-then-left-eq0
returns-then-left-eq0 t c = used _ _ _ _ _ c.if-at-tail.false c.if-left-eq0.true

pub returns-in-None : goal.returns-in-None
returns-in-None t c = ends _ _ _ _ _ c.if-at-tail.false c.if-left-eq0.false (sym c.in-None.ensures)

pub returns-in-Some : goal.returns-in-Some
returns-in-Some t c =
    c.chase.ensures ∙ sym (goes_on _ _ _ _ _ c.if-at-tail.false c.if-left-eq0.false (sym c.in-Some.ensures))
