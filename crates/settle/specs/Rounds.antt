-- Rounds of steps with no call begun, what holds when every call has ended, and the theorem of demand 3, second half.
use Rattle.std.specs.Prelude.{ℕ, zero, suc, ◌+◌, ◌*◌, ◌-◌, ◌≤◌, ◌≡◌, Bool, true, false, not, cond, List, [], ◌∷◌, length, eqb}
use Rattle.index.specs.Position.{position, lap}
use Rattle.index.specs.Length.{len}
use Rattle.memory.specs.Layout.{is_free}
use Rattle.ring.specs.declared.Flavor.{Flavor}
use Rattle.state.specs.List.{counts_good}
use Rattle.machine.specs.Step.{is_idle}
use Rattle.history.specs.Board.{Board, Ask, steps, start, thread_at, asked}
use Rattle.history.specs.Log.{Note, pushes, claims, hands, ends}
use Rattle.history.specs.History.{board, notes}

-- whether thread n has a call open
abbrev pub is_open_at : Board → ℕ → Bool
is_open_at w n = not (is_idle (thread_at w n).call)

-- how often n stands in a list
abbrev pub times : ℕ → List ℕ → ℕ
times n [] = 0
times n (m ∷ l) = cond (eqb m n) (suc (times n l)) (times n l)

-- a round gives each open call exactly one step, and nobody else any, in the order of the list
abbrev pub Round : Board → List ℕ → Type 0
Round w order = (n : ℕ) → times n order ≡ cond (is_open_at w n) 1 0

abbrev pub step_all : Board → List ℕ → Board
step_all w [] = w
step_all w (n ∷ order) = step_all (asked w (steps n)) order

-- rounds, one after another, each with an order of its own
abbrev pub Rounds : Board → List (List ℕ) → Type 0
Rounds w [] = Unit
Rounds w (order ∷ rounds) = Round w order × Rounds (step_all w order) rounds

abbrev pub after : Board → List (List ℕ) → Board
after w [] = w
after w (order ∷ rounds) = after (step_all w order) rounds

-- so many rounds are enough for n threads
abbrev pub enough : ℕ → ℕ
enough n = 12 * n + 192

-- the blocks of the pool that are not free, of the first n
abbrev pub used : List ℕ → ℕ → ℕ
used m zero = 0
used m (suc n) = cond (is_free m n) (used m n) (suc (used m n))

-- every call has ended; the length, as a `len` call would answer it, is tickets pushed less tickets claimed; and
-- the blocks in use number the tail's lap less the head's lap plus one
pub record Settled (w : Board) (pushed claimed : ℕ) : Type 0 where
  pub ended : (n : ℕ) → is_open_at w n ≡ false
  pub length : len (position w.queue.tail.raw) (position w.queue.head.raw) ≡ pushed - claimed
  pub blocks : used w.pool w.queue.blocks ≡ lap (position w.queue.tail.raw) - lap (position w.queue.head.raw) + 1

-- the history with the rounds' steps, the last ask first
abbrev pub with_round : List ℕ → List Ask → List Ask
with_round [] asks = asks
with_round (n ∷ order) asks = with_round order (steps n ∷ asks)

abbrev pub with_rounds : List (List ℕ) → List Ask → List Ask
with_rounds [] asks = asks
with_rounds (order ∷ rounds) asks = with_rounds rounds (with_round order asks)

-- the tickets pushed, and the tickets claimed, as the observer noted them
abbrev pub pushed_in : List Note → ℕ
pushed_in [] = 0
pushed_in (pushes p ∷ l) = suc (pushed_in l)
pushed_in (claims c ∷ l) = pushed_in l
pushed_in (hands h ∷ l) = pushed_in l
pushed_in (ends e ∷ l) = pushed_in l

abbrev pub claimed_in : List Note → ℕ
claimed_in [] = 0
claimed_in (pushes p ∷ l) = claimed_in l
claimed_in (claims c ∷ l) = c.count + claimed_in l
claimed_in (hands h ∷ l) = claimed_in l
claimed_in (ends e ∷ l) = claimed_in l

-- The theorem: from any state of any history, if no call is begun and each round gives every open call one step, in any
-- order within each round, then after enough rounds the board is settled.
abbrev pub Settles : Type 0
Settles =
    (flavors : List Flavor) (blocks ceiling : ℕ)
    → counts_good (length flavors) blocks ceiling ≡ true
    → (asks : List Ask) (rounds : List (List ℕ))
    → Rounds (board (start flavors blocks ceiling) asks) rounds
    → enough (length flavors) ≤ length rounds
    → Settled (after (board (start flavors blocks ceiling) asks) rounds)
    (pushed_in (notes (start flavors blocks ceiling) (with_rounds rounds asks)))
    (claimed_in (notes (start flavors blocks ceiling) (with_rounds rounds asks)))

-- within 1,000 rounds for 8 threads, and within 4,000 for 32
abbrev pub EnoughFor8 : Type 0
EnoughFor8 = enough 8 ≤ 1000

abbrev pub EnoughFor32 : Type 0
EnoughFor32 = enough 32 ≤ 4000
