-- Without these answers their goals stay open, or are open to a check at half its limits.
use Rattle.std.proofs.Common.{Bool, ◌&&◌, List, [], ◌∷◌, refl, ap, ◌∙◌, rules, ◌≡◌}
use Rattle.std.specs.List.{list_all}
use Rattle.std.proofs.lemmas.Iterator.{YieldsList-from_slice}
use Rattle.std.proofs.lemmas.Iterator.Adapters.{YieldsList-from_skip}
use Rattle.std.proofs.lemmas.Iterator.Search.{all_from_yields_List}
use Rattle.state.specs.List.{record_good}
use Rattle.state.specs.declared.Queue.{Queue}
use Rattle.state.specs.declared.Thread.{Thread}
use Rattle.rows.specs.Rows.{all_good}
use Rattle.rows.proofs.all_good.Goals as goal

each : (q : Queue) (ts : List Thread) → list_all (record_good q) ts ≡ all_good q ts
unfolding all_good
each q [] = refl
each q (t ∷ ts) = ap (λ (b : Bool). record_good q t && b) (each q ts)

pub returns : goal.returns
returns c =
    all_from_yields_List (record_good c.args.q) _ _ _ c.all.ensures.ran
    (YieldsList-from_skip c.args.i (YieldsList-from_slice c.args.table.now cc) cc)
    (λ x b q k. search rules)
    ∙ each _ _
