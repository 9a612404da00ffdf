-- The audit: the chain of next links followed from the head's block, over at most pool size less one links.
use Rattle.std.specs.Prelude.{Result, Ok, Err, ℕ, zero, suc, ◌+◌, ◌-◌, Bool, true, false, ◌&&◌, cond, List, length, eqb, Option, None, Some}
use Rattle.state.specs.declared.Refusal.{Refusal}
use Rattle.memory.specs.Layout.{next}
use Rattle.state.specs.List.{setup_good, shared_good, nexts_good}
use Rattle.state.specs.declared.Queue.{Queue}
use Rattle.state.specs.declared.Refusal.TheVariants.{BadSetup, BadState}

abbrev pub is_link : Option ℕ → Bool
is_link None = false
is_link (Some x) = true

abbrev pub linked : Option ℕ → ℕ
linked None = 0
linked (Some x) = x

-- `met` blocks were met, of which `at` is the last; `left` links may still be followed
unfoldable pub chase : ℕ → List ℕ → ℕ → ℕ → ℕ → Result (Option ℕ) Refusal
chase zero m at tail met = cond (eqb at tail) (Ok (Some met)) (Ok None)
chase (suc left) m at tail met =
    cond (eqb at tail) (Ok (Some met))
    (cond (is_link (next m at)) (chase left m (linked (next m at)) tail (met + 1)) (Ok None))

-- 1 and 2 of the shared part, then the chase
unfoldable pub audit_entry : Queue → List ℕ → Result (Option ℕ) Refusal
audit_entry q m =
    cond (setup_good q (length m))
    (cond (shared_good q && nexts_good m q.blocks q.blocks) (chase (q.blocks - 1) m q.head_block q.tail_block 1)
    (Err BadState))
    (Err BadSetup)
