-- The public function of `later` has one outcome at most.
use Prim.Native.Nat.{ℕ}
use mathlib.Core.Path.{◌≡◌, ap}
use Rattle.outcome.specs.One.{One}
use Rattle.outcome.proofs.Equations.{both, pair, first, later as past}
use Rattle.replayed.specs.declared.Fed.{Fed}
use Rattle.replayed.specs.declared.Replay.{Replay}
use Rattle.replayed.specs.Feed.{Outcome}
use Rattle.later as later

pub whole : {a b : Replay} {m n k l : ℕ} → a ≡ b → m ≡ n → k ≡ l → ◌≡◌ {A = Fed} (record { replay = a; read = m; written = k }) (record { replay = b; read = n; written = l })
whole p q r = cc

pub feed_open : One later.specs.contracts.feed_open.ended later.proofs.feed_open.Reads.Learnt
feed_open _ _ _ _ _ _ p q =
    let e = both p.comes q.comes in (
      whole (ap (λ (o : Outcome). o.replay) e) (ap (λ (o : Outcome). o.read) e) (ap (λ (o : Outcome). o.written) e),
      past (pair (ap (λ (o : Outcome). o.pool) e) (past (first (ap (λ (o : Outcome). o.buffer) e)))),
    )
