-- Without these answers their goals stay open, or are open to a check at half its limits.
-- What `step_table` returns where every test passes, by `tabled`'s law of a step that is made. The record that the code
-- reads within the table is the one that the definition reads.
use Rattle.std.proofs.Common.{refl, sym, ap, ◌∙◌}
use Rattle.std.proofs.lemmas.List.{get_or_default}
use Rattle.state.specs.declared.Thread.{Thread}
use Rattle.machine.specs.Entry.{step_entry}
use Rattle.rows.specs.Rows.{blank}
use Rattle.tabled.specs.Table.{TableAfter}
use Rattle.tabled.proofs.Laws.{within, made}
use Rattle.table.proofs.step_table.Goals as goal

pub returns : goal.returns
returns c =
    let q = c.args.q in let ts = c.args.table.now in let m = c.args.pool.now in let n = c.args.number in
    let sizes = sym c.if-not-sizes_good.ensures in
    let named = sym c.if-not-has_thread.ensures in
    let same = get_or_default ts n _ blank (within q ts m n sizes named) in
    let ran = c.step-ran.ensures.value ∙ ap (λ (t : Thread). (step_entry q m t n).ran) same in
    let pool = c.step-ran.ensures.pool_after ∙ ap (λ (t : Thread). (step_entry q m t n).pool) same in
    let e = made q ts m n sizes (sym c.if-not-shared_good.ensures) (sym c.if-not-all_good.ensures) named _ _ _ _ ran refl c.into.ensures pool in
    (ap (λ (a : TableAfter). a.stepped) e, (ap (λ (a : TableAfter). a.table) e, ap (λ (a : TableAfter). a.pool) e))
