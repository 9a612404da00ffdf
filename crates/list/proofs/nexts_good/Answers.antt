-- Without these answers their goals stay open, or are open to a check at half its limits.
use Rattle.std.proofs.Common.{◌≡◌, ℕ, suc, zero, ◌+◌, ◌-◌, Bool, ◌&&◌, List, [], ◌∷◌, Option, ap, ◌∙◌, refl, arith, rules}
use Rattle.std.specs.List.{list_all}
use Rattle.std.specs.Range.{range_steps_back}
use Rattle.std.specs.Iterator.{AlwaysYields}
use Rattle.std.specs.Iterator.Adapters.{rev_source, rev_steps}
use Rattle.std.specs.declared.iter.Rev.{Rev}
use Rattle.std.specs.declared.ops.Range.{Range}
use Rattle.std.proofs.lemmas.Iterator.{YieldsList}
use Rattle.std.proofs.lemmas.Iterator.Search.{all_from_yields_List}
use Rattle.memory.specs.Layout.{next}
use Rattle.state.specs.List.{next_good, nexts_good}
use Rattle.list.proofs.nexts_good.Goals as goal

-- the first n numbers, the last of them first
down : ℕ → List ℕ
down zero = []
down (suc n) = n ∷ down n

abbrev steps : Rev (Range ℕ) → Option ℕ → Rev (Range ℕ) → Type 0
steps = rev_steps (range_steps_back (λ a b. b - a) (λ a b. b ≡ a + 1))

yields_down : (n : ℕ) (s : Rev (Range ℕ)) → (rev_source s).start ≡ 0 → (rev_source s).end ≡ n → AlwaysYields steps (λ x. x) s (down n)
unfolding down
yields_down zero s a b = λ x t p. omega (arith, a, b, p.1.0)
yields_down (suc n) s a b = (
  (λ t p. omega (arith, a, b, p.1.0)),
  λ x t p. (omega (arith, b, p.1.1, p.1.2), yields_down n t (p.0 ∙ a) (omega (arith, b, p.1.2))),
)

each : (m : List ℕ) (b n : ℕ) → list_all (λ (k : ℕ). next_good b (next m k)) (down n) ≡ nexts_good m b n
unfolding nexts_good down
each m b zero = refl
each m b (suc n) = ap (λ (x : Bool). next_good b (next m n) && x) (each m b n)

YieldsList-from_rev_range : {s : Rev (Range ℕ)} (n : ℕ) → rev_source s ≡ record { start = 0; end = n } → YieldsList steps (λ x. x) s (down n)
YieldsList-from_rev_range n e = record { runs = yields_down n _ (ap (λ r. r.start) e) (ap (λ r. r.end) e) }

pub returns : goal.returns
returns c =
    all_from_yields_List (λ (n : ℕ). next_good c.args.blocks (next c.args.pool.now n)) _ _ _ c.all.ensures.ran
    (YieldsList-from_rev_range c.args.blocks c.rev.ensures.source)
    (λ x b q k. search rules)
    ∙ each _ _ _
