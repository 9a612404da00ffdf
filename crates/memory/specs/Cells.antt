-- The cells of the lent memory by name, and what a touch does to each.
use Rattle.std.specs.Prelude.{ℕ, ◌+◌, ◌*◌, ◌<◌, ◌≤◌, ◌≡◌, refl, List, length, get_or, set, replicate}
use Rattle.std.proofs.Common.{ap, arith, length-set, get_or-set_same}
use Rattle.std.proofs.Math.Seq.{length-sets}
use Rattle.memory.specs.Layout.{token_at, state_at, next_at, free_at}
use Rattle.memory.specs.Touch.{Touch, leaves, writes_token, writes_state, links, frees, clears, after, cleared}
use Rattle.memory.specs.Lists.{sets-zeros}

pub data Cell : Type 0 where
  token_of : (block slot : ℕ) → Cell
  state_of : (block slot : ℕ) → Cell
  next_of : (block : ℕ) → Cell
  free_of : (block : ℕ) → Cell

abbrev pub address : Cell → ℕ
address (token_of b s) = token_at b s
address (state_of b s) = state_at b s
address (next_of b) = next_at b
address (free_of b) = free_at b

abbrev pub block_of : Cell → ℕ
block_of (token_of b s) = b
block_of (state_of b s) = b
block_of (next_of b) = b
block_of (free_of b) = b

-- its slot is one of the 63
abbrev pub Slotted : Cell → Type 0
Slotted (token_of b s) = s < 63
Slotted (state_of b s) = s < 63
Slotted (next_of b) = Unit
Slotted (free_of b) = Unit

-- a cell's address is among the 128 of its block
pub in_block : (c : Cell) → Slotted c → (block_of c * 128 ≤ address c) × (address c < block_of c * 128 + 128)
in_block (token_of b s) h = (omega arith, omega arith)
in_block (state_of b s) h = (omega arith, omega arith)
in_block (next_of b) h = (omega arith, omega arith)
in_block (free_of b) h = (omega arith, omega arith)

-- the memory has all of the block
abbrev pub Room : List ℕ → ℕ → Type 0
Room m b = b * 128 + 128 ≤ length m

-- a touch's slot, where it names one, is one of the 63
abbrev pub Aimed : Touch → Type 0
Aimed leaves = Unit
Aimed (writes_token b s v) = s < 63
Aimed (writes_state b s w) = s < 63
Aimed (links b x) = Unit
Aimed (frees b) = Unit
Aimed (clears b) = Unit

-- which cells a touch changes, and what they then hold
abbrev pub Hits : Touch → Cell → Type 0
Hits leaves c = ⊥
Hits (writes_token b s v) c = c ≡ token_of b s
Hits (writes_state b s w) c = c ≡ state_of b s
Hits (links b x) c = c ≡ next_of b
Hits (frees b) c = c ≡ free_of b
Hits (clears b) c = block_of c ≡ b

-- whether the touch is of that block
abbrev pub Of : Touch → ℕ → Type 0
Of leaves b = ⊥
Of (writes_token a s v) b = b ≡ a
Of (writes_state a s w) b = b ≡ a
Of (links a x) b = b ≡ a
Of (frees a) b = b ≡ a
Of (clears a) b = b ≡ a

abbrev pub put : Touch → ℕ
put leaves = 0
put (writes_token b s v) = v
put (writes_state b s w) = w
put (links b x) = x + 1
put (frees b) = 1
put (clears b) = 0

-- a cell that a touch hits is of its block
pub of_hit : (t : Touch) (c : Cell) → Hits t c → Of t (block_of c)
of_hit leaves c h = h
of_hit (writes_token b s v) c h = ap block_of h
of_hit (writes_state b s w) c h = ap block_of h
of_hit (links b x) c h = ap block_of h
of_hit (frees b) c h = ap block_of h
of_hit (clears b) c h = h

pub length-after : (m : List ℕ) (t : Touch) → length (after m t) ≡ length m
unfolding cleared
length-after m leaves = refl
length-after m (writes_token b s v) = length-set m (token_at b s) v
length-after m (writes_state b s w) = length-set m (state_at b s) w
length-after m (links b x) = length-set m (next_at b) (x + 1)
length-after m (frees b) = length-set m (free_at b) 1
length-after m (clears b) = length-sets m (b * 128) (replicate 128 0)

store_same : (m : List ℕ) (d c : Cell) (v : ℕ) → Slotted d → c ≡ d → Room m (block_of c) → get_or (set m (address d) v) (address c) 0 ≡ v
store_same m d c v h e r =
    let i : Room m (block_of d) = rw e at r in
    rw e (get_or-set_same m (address d) v 0 (omega (arith, in_block d h)))

-- a cleared cell holds 0, and past the end stands 0 anyway
pub cleared-cell : (m : List ℕ) (b : ℕ) (c : Cell) → Slotted c → block_of c ≡ b → get_or (cleared m b) (address c) 0 ≡ 0
unfolding cleared
cleared-cell m b c g h = sets-zeros m (b * 128) 128 (address c) (omega (arith, in_block c g)) (omega (arith, in_block c g))

-- one that it hits holds the new word
pub touched : (m : List ℕ) (t : Touch) (c : Cell) → Aimed t → Slotted c → Hits t c → Room m (block_of c) → get_or (after m t) (address c) 0 ≡ put t
touched m leaves c f g h r = absurd h
touched m (writes_token b s v) c f g h r = store_same m (token_of b s) c v f h r
touched m (writes_state b s w) c f g h r = store_same m (state_of b s) c w f h r
touched m (links b x) c f g h r = store_same m (next_of b) c (x + 1) f h r
touched m (frees b) c f g h r = store_same m (free_of b) c 1 f h r
touched m (clears b) c f g h r = cleared-cell m b c g h
