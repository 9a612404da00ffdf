-- Line numbers and the count of steps never pass the largest 64-bit number, whatever is read.
use Prim.Native.Nat.{ℕ, ◌≤◌}
use mathlib.Core.Path.{◌≡◌, refl}
use mathlib.Core.Bool.{Bool, true, false, cond}
use mathlib.Core.List.{List, [], ◌∷◌}
use native.Mathlib.Omega.{arith}
use lib.Dec.{eqb}
use Rattle.state.specs.List.{counts_good}
use Rattle.text.specs.declared.Command.{Command}
use Rattle.replayed.specs.declared.Stage.{Stage}
use Rattle.replayed.specs.declared.Stage.TheVariants.{First, Open, Over}
use Rattle.replayed.specs.declared.Replay.{Replay}
use Rattle.replayed.specs.Replay.{ordered_by, most, over, at_first, queue_line, line_of, line_feed, other_byte, byte_told, told}
use Rattle.replayed.proofs.Orders.{first_cases, later_cases}

pub record Counted (r : Replay) : Type 0 where
  pub number : r.number ≤ most
  pub steps : r.steps ≤ most

pub counted-first : Counted at_first
counted-first = record { number = omega arith; steps = omega arith }

module _ (r : Replay) (m : List ℕ) (c : Counted r) where
  counted-ordered : (k : Command) → Counted (ordered_by r m k).replay
  counted-ordered k = record { number = omega arith; steps = omega arith }

  counted-over : Counted (over r)
  counted-over = record { number = c.number; steps = c.steps }

  counted-queue : (a b d : ℕ) → Counted (queue_line r m a b d).replay
  counted-queue a b d = go (counts_good a b d) refl
    where
      go : (t : Bool) → counts_good a b d ≡ t → Counted (queue_line r m a b d).replay
      go true e = rw e (record { number = omega arith; steps = omega arith })
      go false e = rw e counted-over

  counted_feed : (s : Stage) → Counted (line_feed s r m).replay
  counted_feed First = first_cases r m (λ p t. Counted t.replay) counted-over counted-queue (λ k e. counted-over) (line_of r)
  counted_feed Open = later_cases r m (λ p t. Counted t.replay) counted-over (λ x y z. counted-over) (λ k e. counted-ordered k) (line_of r)
  counted_feed Over = c

  counted-other : (s : Stage) (b : ℕ) → Counted (other_byte s r m b).replay
  counted-other First b = record { number = c.number; steps = c.steps }
  counted-other Open b = record { number = c.number; steps = c.steps }
  counted-other Over b = c

  pub counted-byte : (b : ℕ) → Counted (byte_told r m b).replay
  unfolding byte_told
  counted-byte b = go (eqb b 10)
    where
      go : (t : Bool) → Counted (cond t (line_feed r.stage r m) (other_byte r.stage r m b)).replay
      go true = counted_feed r.stage
      go false = counted-other r.stage b

pub counted-told : (r : Replay) (m bytes : List ℕ) → Counted r → Counted (told r m bytes).replay
unfolding told
counted-told r m [] c = c
counted-told r m (b ∷ bytes) c = counted-told (byte_told r m b).replay (byte_told r m b).pool bytes (counted-byte r m c b)
