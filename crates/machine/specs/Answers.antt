-- The values that the entries' own answers carry: of a refusal its number (document 01, "Numbers given back"). A step's and
-- a run's answer is the machine's, and its values stand in `Rattle.state.specs.Answers`.
use Rattle.std.specs.Prelude.{Option, Some, None, Result, Ok, Err, ℕ, ◌≡◌, refl, true, List, [], ◌∷◌}
use Rattle.std.proofs.Common.{eq-eqb}
use Rattle.memory.specs.Pool.{pool_len}
use Rattle.state.specs.Answers.{number}
use Rattle.state.specs.List.{counts_good, setup_good}
use Rattle.state.specs.declared.Refusal.{Refusal}
use Rattle.machine.specs.Entry.{set_up}

abbrev pub of_began : Result Unit Refusal → List ℕ
of_began (Ok tt) = []
of_began (Err r) = number r ∷ []

abbrev pub of_popped : Result (Option ℕ) Refusal → List ℕ
of_popped (Ok (Some token)) = token ∷ []
of_popped (Ok None) = []
of_popped (Err r) = number r ∷ []

abbrev pub of_ready : Result Unit Refusal → List ℕ
of_ready (Ok tt) = []
of_ready (Err r) = number r ∷ []

abbrev pub of_audited : Result (Option ℕ) Refusal → List ℕ
of_audited (Ok (Some n)) = n ∷ []
of_audited (Ok None) = []
of_audited (Err r) = number r ∷ []

-- every allowed count, with the published length, is accepted
pub accepted : (threads blocks ceiling : ℕ) → counts_good threads blocks ceiling ≡ true
    → (set_up threads blocks ceiling (pool_len threads blocks)).answer ≡ Ok tt
unfolding setup_good
accepted threads blocks ceiling good = rw (good, eq-eqb (pool_len threads blocks) (pool_len threads blocks) refl) refl
