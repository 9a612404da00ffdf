-- Line 1 is passed, whatever it was.
use Rattle.std.specs.Prelude.{Option}
use Prim.Native.Nat.{ℕ}
use mathlib.Core.Path.{◌≡◌, refl}
use mathlib.Core.Bool.{Bool, true, false}
use mathlib.Core.List.{List}
use Rattle.state.specs.List.{counts_good}
use Rattle.text.specs.declared.Command.{Command}
use Rattle.replayed.specs.declared.Replay.{Replay}
use Rattle.replayed.specs.Replay.{queue_line, first_line}
use Rattle.replayed.specs.Feed.{is_first}
use Rattle.replayed.proofs.Orders.{first_cases}

module _ (r : Replay) (m : List ℕ) where
  past-queue : (a b d : ℕ) → is_first (queue_line r m a b d).replay.stage ≡ false
  past-queue a b d = go (counts_good a b d) refl
    where
      go : (t : Bool) → counts_good a b d ≡ t → is_first (queue_line r m a b d).replay.stage ≡ false
      go true e = rw e
      go false e = rw e

  pub past_first : (p : Option Command) → is_first (first_line r m p).replay.stage ≡ false
  past_first = first_cases r m (λ p t. is_first t.replay.stage ≡ false) refl past-queue (λ c e. refl)
