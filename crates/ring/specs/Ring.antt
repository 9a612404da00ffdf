-- A thread's own ring of 64 tokens: the oldest at 0. Cells past the count hold whatever was left there.
use Rattle.std.specs.Prelude.{Some, None, ℕ, ◌+◌, ◌-◌, cond, List, ◌++◌, reverse, get_or, take, drop, replicate, eqb}
use Rattle.std.proofs.lemmas.List.Edits.{sets}
use Rattle.std.proofs.Math.Seq.{slice}
use Rattle.ring.specs.declared.Flavor.{Flavor}
use Rattle.ring.specs.declared.Flavor.TheVariants.{Fifo, Lifo}
use Rattle.ring.specs.declared.Ring.{Ring}
use Rattle.ring.specs.declared.RingPop.{RingPop}

-- the tokens that the ring holds, the oldest first
abbrev pub contents : Ring → List ℕ
contents r = take r.count r.tokens

abbrev pub empty_ring : Flavor → Ring
empty_ring f = record { tokens = replicate 64 0; count = 0; flavor = f }

-- a batch enters a Fifo ring in ticket order, a Lifo ring reversed: its owner pops the oldest of them first
abbrev pub in_order : Flavor → List ℕ → List ℕ
in_order Fifo l = l
in_order Lifo l = reverse l

-- the place in the batch, from `first` up to `end`, of the token that enters as number j
abbrev pub place_of : Flavor → ℕ → ℕ → ℕ → ℕ
place_of Fifo first end j = first + j
place_of Lifo first end j = end - 1 - j

-- the tokens of `batch` from place `first` up to place `end`, put behind those in the ring
unfoldable pub entered : Ring → List ℕ → ℕ → ℕ → Ring
entered r batch first end =
    record {
      tokens = sets r.tokens r.count (in_order r.flavor (slice first end batch));
      count = r.count + (end - first);
      flavor = r.flavor;
    }

-- every token one place down; the last cell keeps what it holds
abbrev pub shifted : List ℕ → List ℕ
shifted l = drop 1 l ++ drop 63 l

-- the owner's pop: Fifo the oldest, Lifo the newest
abbrev pub pop_some : Ring → Flavor → RingPop
pop_some r Fifo =
    record {
      ring = record { tokens = shifted r.tokens; count = r.count - 1; flavor = r.flavor };
      token = Some (get_or r.tokens 0 0);
    }
pop_some r Lifo =
    record {
      ring = record { tokens = r.tokens; count = r.count - 1; flavor = r.flavor };
      token = Some (get_or r.tokens (r.count - 1) 0);
    }

unfoldable pub popped : Ring → RingPop
popped r = cond (eqb r.count 0) (record { ring = r; token = None }) (pop_some r r.flavor)
