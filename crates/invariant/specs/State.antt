-- The shared state with its ghost, and short names for what the conjuncts speak of.
use Rattle.std.specs.Prelude.{ℕ, Bool, List, Option}
use Rattle.index.specs.Position.{position, lap, offset, ticket}
use Rattle.memory.specs.Layout.{token, state, next, is_free, has}
use Rattle.memory.specs.declared.Mark.TheVariants.{Write, Read, Destroy}
use Rattle.state.specs.declared.Queue.{Queue}
use Rattle.invariant.specs.Ghost.{Ghost, Own}

pub record State : Type 0 where
  pub queue : Queue
  pub pool : List ℕ
  pub ghost : Ghost

-- of an index: lap, offset and ticket of its position
abbrev pub lp : ℕ → ℕ
lp i = lap (position i)

abbrev pub off : ℕ → ℕ
off i = offset (position i)

abbrev pub tk : ℕ → ℕ
tk i = ticket (position i)

-- tail and head: index and block; pool size and lap ceiling
abbrev pub T : State → ℕ
T s = s.queue.tail.raw

abbrev pub H : State → ℕ
H s = s.queue.head.raw

abbrev pub TB : State → ℕ
TB s = s.queue.tail_block

abbrev pub HB : State → ℕ
HB s = s.queue.head_block

abbrev pub N : State → ℕ
N s = s.queue.blocks

abbrev pub L : State → ℕ
L s = s.queue.ceiling

-- tickets pushed, tickets claimed
abbrev pub np : State → ℕ
np s = tk (T s)

abbrev pub nc : State → ℕ
nc s = tk (H s)

-- a slot's bits and token, a block's next and free mark
abbrev pub W : State → ℕ → ℕ → Bool
W s b o = has Write (state s.pool b o)

abbrev pub R : State → ℕ → ℕ → Bool
R s b o = has Read (state s.pool b o)

abbrev pub D : State → ℕ → ℕ → Bool
D s b o = has Destroy (state s.pool b o)

abbrev pub tok : State → ℕ → ℕ → ℕ
tok s b o = token s.pool b o

abbrev pub nxt : State → ℕ → Option ℕ
nxt s b = next s.pool b

abbrev pub free : State → ℕ → Bool
free s b = is_free s.pool b

abbrev pub own : State → ℕ → Own
own s b = s.ghost.own b
