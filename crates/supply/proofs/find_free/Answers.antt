-- Without these answers their goals stay open, or are open to a check at half its limits.
use Rattle.std.proofs.Common.{rules, ℕ, ◌≡◌, true, false}
use Rattle.std.proofs.lemmas.Iterator.{first_from_Range}
use Rattle.memory.specs.Layout.{is_free}
use Rattle.supply.proofs.Searching.{lowest}
use Rattle.supply.proofs.find_free.Goals as goal

pub returns : goal.returns
returns c =
    let m = c.args.pool.now in
    lowest m c.args.blocks c.find.result
    (first_from_Range _ _ _ c.find.result (λ (k : ℕ). is_free m k ≡ true) (λ (k : ℕ). is_free m k ≡ false) c.find.ensures.ran (λ x q k. search rules) (λ x q k. search rules))
