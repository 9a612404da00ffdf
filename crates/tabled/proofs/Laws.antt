-- What the table's entry gives back, case by case, in the order of its tests.
use Rattle.std.specs.Prelude.{Ok}
use Prim.Native.Nat.{ℕ, zero, suc, ◌<◌}
use mathlib.Core.Path.{◌≡◌, refl, ◌∙◌, ap}
use mathlib.Core.Bool.{Bool, true, false, ◌&&◌}
use mathlib.Core.List.{List, [], ◌∷◌}
use native.Mathlib.Omega.{arith}
use lib.Dec.{ltb, eqb}
use lib.ListN.{length, get_or, set}
use borrow.Author.Tests.{ltb-true, eqb-true}
use Rattle.state.specs.List.{setup_good, shared_good, nexts_good, record_good}
use Rattle.state.specs.ListLaws.{both}
use Rattle.state.specs.declared.Queue.{Queue}
use Rattle.state.specs.declared.Thread.{Thread}
use Rattle.state.specs.declared.Refusal.TheVariants.{BadSetup, BadState, NoThread}
use Rattle.machine.specs.declared.Ran.{Ran}
use Rattle.machine.specs.Step.{After, is_idle}
use Rattle.machine.specs.Entry.{tested, step_entry}
use Rattle.machine.specs.EntryLaws.{step-idle, step-made}
use Rattle.tabled.specs.declared.TableStep.{TableStep}
use Rattle.rows.specs.Rows.{sizes_good, all_good, blank, record_at}
use Rattle.tabled.specs.Table.{refused_table, given, stored, TableAfter, table_entry}

-- a record of a table whose records are all good
good-at : (q : Queue) (ts : List Thread) (n : ℕ) (t : Thread) → n < length ts → all_good q ts ≡ true → record_good q (get_or ts n t) ≡ true
unfolding all_good
good-at q [] n t l e = absurd (omega (arith, l))
good-at q (x ∷ ts) zero t l e = (both (record_good q x) (all_good q ts) e).0
good-at q (x ∷ ts) (suc n) t l e = good-at q ts n t (omega (arith, l)) (both (record_good q x) (all_good q ts) e).1

-- a record stored where it was taken out changes nothing
set_same : (ts : List Thread) (n : ℕ) (t : Thread) → n < length ts → set ts n (get_or ts n t) ≡ ts
set_same [] n t l = absurd (omega (arith, l))
set_same (x ∷ ts) zero t l = refl
set_same (x ∷ ts) (suc n) t l = ap (λ (us : List Thread). x ∷ us) (set_same ts n t (omega (arith, l)))

module _ (q : Queue) (ts : List Thread) (m : List ℕ) (n : ℕ) where
  pub bad-setup : sizes_good q (length ts) (length m) ≡ false → refused_table q ts m BadSetup ≡ table_entry q ts m n
  unfolding table_entry
  bad-setup e = rw e

  -- what the code keeps of a step, part by part, is what is stored
  kept : (a : After) (r : Ran) (th : Thread) (out : TableStep) (vs : List ℕ) → r ≡ a.ran → th ≡ r.thread → out ≡ given r → vs ≡ a.pool → ◌≡◌ {A = TableAfter} (record { stepped = out; table = set ts n th; pool = vs }) (stored ts n a)
  kept a r th out vs e₁ e₂ e₃ e₄ = rw (e₃, e₂, e₁, e₄)

  module _ (sizes : sizes_good q (length ts) (length m) ≡ true) where
    pub bad-shared : (shared_good q && nexts_good m q.blocks q.blocks) ≡ false → refused_table q ts m BadState ≡ table_entry q ts m n
    unfolding table_entry
    bad-shared e = rw (sizes, e)

    -- the table has a record for each thread
    pub within : ltb n q.threads ≡ true → n < length ts
    unfolding sizes_good
    within l =
        let e = eqb-true (length ts) q.threads (both (setup_good q (length m)) (eqb (length ts) q.threads) sizes).1 in
        omega (arith, ltb-true n q.threads l, e)

    module _ (shared : (shared_good q && nexts_good m q.blocks q.blocks) ≡ true) where
      pub bad-record : all_good q ts ≡ false → refused_table q ts m BadState ≡ table_entry q ts m n
      unfolding table_entry
      bad-record e = rw (sizes, shared, e)

      module _ (all : all_good q ts ≡ true) where
        pub no-thread : ltb n q.threads ≡ false → refused_table q ts m NoThread ≡ table_entry q ts m n
        unfolding table_entry
        no-thread g = rw (sizes, shared, all, g)

        module _ (l : ltb n q.threads ≡ true) where
          passes : tested q m (record_at ts n) n ≡ Ok tt
          unfolding tested sizes_good
          passes =
              rw (
                (both (setup_good q (length m)) (eqb (length ts) q.threads) sizes).0,
                shared,
                good-at q ts n blank (within l) all,
                l,
              )

          by-idle : (b : Bool) → is_idle (record_at ts n).call ≡ b → stored ts n (step_entry q m (record_at ts n) n) ≡ table_entry q ts m n
          unfolding table_entry
          by-idle true i =
              rw (sizes, shared, all, l, i, step-idle q m (record_at ts n) n passes i, set_same ts n blank (within l))
          by-idle false i = rw (sizes, shared, all, l, i, step-made q m (record_at ts n) n passes i)

          pub made : (r : Ran) (th : Thread) (out : TableStep) (vs : List ℕ) → r ≡ (step_entry q m (record_at ts n) n).ran → th ≡ r.thread → out ≡ given r → vs ≡ (step_entry q m (record_at ts n) n).pool
              → ◌≡◌ {A = TableAfter} (record { stepped = out; table = set ts n th; pool = vs }) (table_entry q ts m n)
          made r th out vs e₁ e₂ e₃ e₄ = kept (step_entry q m (record_at ts n) n) r th out vs e₁ e₂ e₃ e₄ ∙ by-idle (is_idle (record_at ts n).call) refl
