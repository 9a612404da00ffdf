-- The board tied to the invariant's ghost, and to what the notes come to.
use Prim.Native.Nat.{ℕ, ◌<◌}
use mathlib.Core.Path.{◌≡◌}
use mathlib.Core.List.{List}
use lib.ListN.{length, get_or}
use Rattle.ring.specs.declared.Flavor.{Flavor}
use Rattle.ring.specs.declared.Flavor.TheVariants.{Fifo}
use Rattle.state.specs.declared.Queue.{Queue}
use Rattle.state.specs.declared.Thread.{Thread}
use Rattle.history.specs.Board.{Board, thread_at}
use Rattle.invariant.specs.Ghost.{Ghost}
use Rattle.invariant.specs.State.{State, np, nc}
use Rattle.invariant.specs.Shared.{Shared}
use Rattle.invariant.specs.Lines.{ThreadOk}
use Rattle.promise.proofs.Tally.{Tally}
use Rattle.promise.proofs.Stage.{At, place_of}

abbrev pub state_of : Queue → List ℕ → Ghost → State
state_of q m g = record { queue = q; pool = m; ghost = g }

-- the shared words, and the notes: as many tickets pushed and claimed, with the same tokens
pub record Sound (s : State) (c : Tally) : Type 0 where
  pub shared : Shared s
  pub size : length c.tokens ≡ np s
  pub log : (k : ℕ) → k < length c.tokens → get_or c.tokens k 0 ≡ s.ghost.pushed k
  pub done : c.done ≡ nc s

-- a thread n: its line's assertion, its stage in the notes, its ring's flavour
pub record Mine (flavors : List Flavor) (s : State) (c : Tally) (n : ℕ) (t : Thread) : Type 0 where
  pub ok : ThreadOk s n t
  pub stage : At c.tokens (c.stages n) (place_of t.call)
  pub flavor : t.ring.flavor ≡ get_or flavors n Fifo

-- the counts that setup was given
pub record Counts (threads blocks ceiling : ℕ) (q : Queue) : Type 0 where
  pub same-threads : q.threads ≡ threads
  pub same_blocks : q.blocks ≡ blocks
  pub same-ceiling : q.ceiling ≡ ceiling

module _ (flavors : List Flavor) (blocks ceiling : ℕ) where
  -- with thread n's record in hand, as an entry has it: t is n's, and `others` has those of the other threads
  pub record Hand (n : ℕ) (others : ℕ → Thread) (q : Queue) (m : List ℕ) (t : Thread) (c : Tally) : Type 0 where
    pub ghost : Ghost
    pub sound : Sound (state_of q m ghost) c
    pub mine : Mine flavors (state_of q m ghost) c n t
    pub theirs : (j : ℕ) → (j ≡ n → ⊥) → Mine flavors (state_of q m ghost) c j (others j)
    pub counts : Counts (length flavors) blocks ceiling q

  pub record World (w : Board) (c : Tally) : Type 0 where
    pub ghost : Ghost
    pub sound : Sound (state_of w.queue w.pool ghost) c
    pub threads : (n : ℕ) → Mine flavors (state_of w.queue w.pool ghost) c n (thread_at w n)
    pub counts : Counts (length flavors) blocks ceiling w.queue
    pub sized : length w.threads ≡ length flavors
