-- The promise of demand 3, first half, of every moment of every history.
use Rattle.std.specs.Prelude.{ℕ, ◌+◌, ◌*◌, ◌≤◌, ◌≡◌, true, cond, List, [], ◌∷◌, ◌++◌, length, get_or, ltb, leb, eqb}
use Rattle.std.proofs.Math.Seq.{slice}
use Rattle.index.specs.Position.{position}
use Rattle.ring.specs.Ring.{in_order}
use Rattle.ring.specs.declared.Flavor.{Flavor}
use Rattle.ring.specs.declared.Flavor.TheVariants.{Fifo}
use Rattle.machine.specs.Steal.{enters_from}
use Rattle.state.specs.Answers.{values}
use Rattle.state.specs.List.{counts_good, setup_good, state_good}
use Rattle.state.specs.declared.Answer.{Answer}
use Rattle.state.specs.declared.Answer.TheVariants.{Open, Pushed, Task, Moved, Empty, Retry, Len, Yes, No, Refused}
use Rattle.history.specs.Board.{Board, Ask, start, thread_at}
use Rattle.history.specs.Log.{Note, pushes, claims, hands, ends}
use Rattle.history.specs.History.{board, notes}

-- how far a thread's call has come with its tickets: none claimed; claimed; or handed over, but for the first `kept`
-- tokens, which go with the answer
pub data Stage : Type 0 where
  nothing : Stage
  claimed : (first count : ℕ) → Stage
  handed : (first kept : ℕ) → Stage

-- the stages of the threads, with one changed
abbrev pub at_stage : (ℕ → Stage) → ℕ → Stage → ℕ → Stage
at_stage stages n stage j = cond (eqb j n) stage (stages j)

-- how a call may end: with a task it has handed over its claim but for one token, and the value it answers is its first
-- ticket's token; with `moved` it has handed over all of its claim; with any other answer it has claimed nothing
abbrev pub MayEnd : List ℕ → Stage → Answer → Type 0
MayEnd tokens nothing Open = ⊥
MayEnd tokens nothing Pushed = Unit
MayEnd tokens nothing (Task v) = ⊥
MayEnd tokens nothing Moved = ⊥
MayEnd tokens nothing Empty = Unit
MayEnd tokens nothing Retry = Unit
MayEnd tokens nothing (Len n) = Unit
MayEnd tokens nothing Yes = Unit
MayEnd tokens nothing No = Unit
MayEnd tokens nothing (Refused r) = Unit
MayEnd tokens (claimed first count) answer = ⊥
MayEnd tokens (handed first kept) Open = ⊥
MayEnd tokens (handed first kept) Pushed = ⊥
MayEnd tokens (handed first kept) (Task v) = (kept ≡ 1) × (values (Task v) ≡ get_or tokens first 0 ∷ [])
MayEnd tokens (handed first kept) Moved = kept ≡ 0
MayEnd tokens (handed first kept) Empty = ⊥
MayEnd tokens (handed first kept) Retry = ⊥
MayEnd tokens (handed first kept) (Len n) = ⊥
MayEnd tokens (handed first kept) Yes = ⊥
MayEnd tokens (handed first kept) No = ⊥
MayEnd tokens (handed first kept) (Refused r) = ⊥

-- a hand-over: the thread has a claim, and what enters its ring, behind what stood there, are the tokens of its own
-- tickets, all but the first for a steal or a batch-and-pop, in the order of the ring's flavour
abbrev pub MayHand : Flavor → List ℕ → ℕ → List ℕ → List ℕ → Stage → Type 0
MayHand flavor tokens kept before after nothing = ⊥
MayHand flavor tokens kept before after (claimed first count) =
    after ≡ before ++ in_order flavor (slice (first + kept) (first + count) tokens)
MayHand flavor tokens kept before after (handed first more) = ⊥

abbrev pub given_over : ℕ → Stage → Stage
given_over kept nothing = nothing
given_over kept (claimed first count) = handed first kept
given_over kept (handed first more) = handed first more

abbrev pub MayClaim : Stage → Type 0
MayClaim nothing = Unit
MayClaim (claimed first count) = ⊥
MayClaim (handed first kept) = ⊥

-- The notes of a history, first to last. So far the tokens of tickets 0, 1, 2, .. were pushed, `done` tickets
-- were claimed, and the threads' calls stand at their stages.
--   a push takes the next ticket;
--   a claim starts where the last one ended, takes at least one ticket, and none that was not pushed;
--   a hand-over and an end are as above.
abbrev pub Fair : List Flavor → List ℕ → ℕ → (ℕ → Stage) → List Note → Type 0
Fair flavors tokens done stages [] = Unit
Fair flavors tokens done stages (pushes p ∷ l) =
    (p.ticket ≡ length tokens) × Fair flavors (tokens ++ (p.token ∷ [])) done stages l
Fair flavors tokens done stages (claims c ∷ l) =
    (c.first ≡ done) × (1 ≤ c.count) × (done + c.count ≤ length tokens) × MayClaim (stages c.thread)
    × Fair flavors tokens (done + c.count) (at_stage stages c.thread (claimed c.first c.count)) l
Fair flavors tokens done stages (hands h ∷ l) =
    MayHand (get_or flavors h.thread Fifo) tokens (enters_from h.kind) h.before h.after (stages h.thread)
    × Fair flavors tokens done (at_stage stages h.thread (given_over (enters_from h.kind) (stages h.thread))) l
Fair flavors tokens done stages (ends e ∷ l) =
    MayEnd tokens (stages e.thread) e.answer
    × Fair flavors tokens done (at_stage stages e.thread nothing) l

-- at the start nothing was pushed or claimed
abbrev pub AllFair : List Flavor → List Note → Type 0
AllFair flavors l = Fair flavors [] 0 (λ n. nothing) l

-- how many claims of the notes took a ticket
abbrev pub took : ℕ → ℕ → ℕ → ℕ
took k first count = cond (leb first k) (cond (ltb k (first + count)) 1 0) 0

abbrev pub times_claimed : ℕ → List Note → ℕ
times_claimed k [] = 0
times_claimed k (pushes p ∷ l) = times_claimed k l
times_claimed k (claims c ∷ l) = took k c.first c.count + times_claimed k l
times_claimed k (hands h ∷ l) = times_claimed k l
times_claimed k (ends e ∷ l) = times_claimed k l

-- nothing runs past its end
pub record Bounded (ceiling : ℕ) (w : Board) : Type 0 where
  pub tail : position w.queue.tail.raw ≤ ceiling * 64
  pub head : position w.queue.head.raw ≤ ceiling * 64
  pub tail_index : w.queue.tail.raw ≤ 128 * ceiling
  pub head_index : w.queue.head.raw ≤ 128 * ceiling

pub record Promise (flavors : List Flavor) (ceiling : ℕ) (w : Board) (l : List Note) : Type 0 where
  -- tickets are pushed and claimed in their order, without a gap, and each call hands over its own
  pub fair : AllFair flavors l
  -- no ticket is claimed twice
  pub once : (k : ℕ) → times_claimed k l ≤ 1
  -- no state is on the BAD_STATE list, so that an honest caller is never refused by 1 or 2
  pub setup : setup_good w.queue (length w.pool) ≡ true
  pub good : (n : ℕ) → state_good w.queue w.pool (thread_at w n) ≡ true
  pub bounded : Bounded ceiling w

-- The theorem: a board that is freshly set up, with counts in their ranges, keeps the promise through any entries.
abbrev pub Promised : Type 0
Promised =
    (flavors : List Flavor) (blocks ceiling : ℕ) (w : Board)
    → counts_good (length flavors) blocks ceiling ≡ true
    → w ≡ start flavors blocks ceiling
    → (asks : List Ask) → Promise flavors ceiling (board w asks) (notes w asks)
