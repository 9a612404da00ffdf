-- The step entry over a lent table of thread records, with document 01's refusals in their order. A refused entry changes nothing.
use Rattle.std.specs.Prelude.{ℕ, ◌&&◌, cond, List, ltb, length, set}
use Rattle.state.specs.List.{shared_good, nexts_good}
use Rattle.state.specs.declared.Queue.{Queue}
use Rattle.state.specs.declared.Thread.{Thread}
use Rattle.state.specs.declared.Answer.TheVariants.{Refused}
use Rattle.state.specs.declared.Refusal.{Refusal}
use Rattle.state.specs.declared.Refusal.TheVariants.{BadSetup, BadState, NoThread, Idle}
use Rattle.machine.specs.declared.Ran.{Ran}
use Rattle.machine.specs.Step.{After, once, step_of, is_idle}
use Rattle.rows.specs.Rows.{sizes_good, all_good, record_at}
use Rattle.tabled.specs.declared.TableStep.{TableStep}

-- what the entry gives back, and both lent parts at its exit
pub record TableAfter : Type 0 where
  pub stepped : TableStep
  pub table : List Thread
  pub pool : List ℕ

abbrev pub refusal : Queue → Refusal → TableStep
refusal q r = record { queue = q; answer = Refused r; steps = 0 }

abbrev pub refused_table : Queue → List Thread → List ℕ → Refusal → TableAfter
refused_table q ts m r = record { stepped = refusal q r; table = ts; pool = m }

-- of what stepping one record gives back, the record goes to its place in the table
abbrev pub given : Ran → TableStep
given r = record { queue = r.queue; answer = r.answer; steps = r.steps }

abbrev pub stored : List Thread → ℕ → After → TableAfter
stored ts n a = record { stepped = given a.ran; table = set ts n a.ran.thread; pool = a.pool }

unfoldable pub table_entry : Queue → List Thread → List ℕ → ℕ → TableAfter
table_entry q ts m n =
    cond (sizes_good q (length ts) (length m))
    (cond (shared_good q && nexts_good m q.blocks q.blocks && all_good q ts)
    (cond (ltb n q.threads)
    (cond (is_idle (record_at ts n).call) (refused_table q ts m Idle) (stored ts n (once m (step_of q m (record_at ts n)))))
    (refused_table q ts m NoThread))
    (refused_table q ts m BadState))
    (refused_table q ts m BadSetup)
