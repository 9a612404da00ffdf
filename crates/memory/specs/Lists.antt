-- What a run of equal stores leaves in a list.
use Rattle.std.specs.Prelude.{ℕ, zero, suc, ◌+◌, ◌<◌, ◌≤◌, ◌≡◌, refl, List, [], ◌∷◌, get_or, set, replicate}
use Rattle.std.proofs.Common.{sym, ap, ◌∙◌, ⊎_elim, add-zero, add-suc, suc-add, eq-or-lt_of_le, arith, get_or-set_other}
use Rattle.std.proofs.lemmas.List.Edits.{sets}

-- one more store at the run's end
pub sets_more : (l : List ℕ) (i n v : ℕ) → set (sets l i (replicate n v)) (i + n) v ≡ sets l i (replicate (n + 1) v)
sets_more l i zero v = ap (λ (k : ℕ). set l k v) (add-zero i)
sets_more l i (suc n) v =
    ap (λ (k : ℕ). set (sets (set l i v) (suc i) (replicate n v)) k v) (add-suc i n ∙ sym (suc-add i n))
    ∙ sets_more (set l i v) (suc i) n v
    ∙ ap (λ (k : ℕ). sets l i (replicate k v)) (sym (suc-add n 1))

-- a place outside the run keeps what it has
pub sets_outside : (l : List ℕ) (i n v j : ℕ) → (i ≤ j → j < i + n → ⊥) → get_or (sets l i (replicate n v)) j 0 ≡ get_or l j 0
sets_outside l i zero v j h = refl
sets_outside l i (suc n) v j h =
    sets_outside (set l i v) (suc i) n v j (λ a b. h (omega arith) (omega arith))
    ∙ get_or-set_other l i j v 0 (λ e. h (omega arith) (omega arith))

-- 0 stands where 0 is stored, also past the end
pub set-zero : (l : List ℕ) (i : ℕ) → get_or (set l i 0) i 0 ≡ 0
set-zero [] i = refl
set-zero (x ∷ l) zero = refl
set-zero (x ∷ l) (suc i) = set-zero l i

pub sets-zeros : (l : List ℕ) (i n j : ℕ) → i ≤ j → j < i + n → get_or (sets l i (replicate n 0)) j 0 ≡ 0
sets-zeros l i zero j h g = absurd (omega arith)
sets-zeros l i (suc n) j h g =
    ⊎_elim
    (λ (e : i ≡ j). sets_outside (set l i 0) (suc i) n 0 j (λ a b. omega arith) ∙ rw (← e) (set-zero l i))
    (λ (k : i < j). sets-zeros (set l i 0) (suc i) n j k (omega arith))
    (eq-or-lt_of_le h)
