-- A fresh start, with the ghost that it is given: nothing is owed.
use Prim.Native.Nat.{ℕ, ◌≤◌}
use mathlib.Core.Path.{refl}
use Rattle.state.specs.declared.Call.{Call}
use Rattle.promise.proofs.Start.{first, no-held, no-back}
use Rattle.settle.specs.Owed.{Owed}
use Rattle.settle.proofs.OwedStart.{nothing-owed}

pub start-owed : (threads blocks ceiling : ℕ) (two : 2 ≤ blocks) (calls : ℕ → Call) → Owed (first threads blocks ceiling two) calls
start-owed threads blocks ceiling two calls =
    nothing-owed (first threads blocks ceiling two) calls refl refl
    (λ b j e. no-held threads blocks ceiling two b j e)
    (λ b l f j e. no-back threads blocks ceiling two b l f j e)
