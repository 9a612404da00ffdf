-- What it is for a contract to admit one outcome at most.
use Rattle.std.specs.Prelude.{◌≡◌}
use contract.Lifetimes.{Lfts}
use denote.Triple.Clauses.{Ended, Lasts, AtExit, at_exit}
use denote.Triple.Entry.{Args, Res}

-- an `ensures` as a plain claim: of the arguments, the answer, and every parameter at exit. `Reads.Learnt` of a function is what
-- the prover hands a caller of it: all its `ensures` clauses, as they stand in the source
abbrev pub Says : Ended → Type 1
Says T = (κs : Lfts T.signature.lifetimes) → Args T.signature κs → Res T.signature κs → AtExit T κs → Type 0

-- two answers, and two states at exit of all that is lent, that both fit the contract for the same arguments are equal. No
-- `requires` is used
abbrev pub One : (T : Ended) → Says T → Type 0
One T says =
    (κs : Lfts T.signature.lifetimes) (a : Args T.signature κs) (r r' : Res T.signature κs) (s s' : Lasts T κs a) →
    says κs a r (at_exit T κs a s) →
    says κs a r' (at_exit T κs a s') →
    (r ≡ r') × (s ≡ s')
