-- The BAD_STATE list of document 01, item by item, as one test: true where the list is not broken.
use Rattle.std.specs.Prelude.{ℕ, zero, suc, ◌+◌, ◌*◌, ◌-◌, min, Bool, true, ◌&&◌, not, List, ltb, leb, eqb, Option, None, Some}
use Rattle.index.specs.Position.{position, offset}
use Rattle.index.specs.declared.Index.{Index}
use Rattle.memory.specs.Layout.{next}
use Rattle.memory.specs.Pool.{pool_len}
use Rattle.state.specs.declared.Queue.{Queue}
use Rattle.state.specs.declared.Kind.{Kind}
use Rattle.state.specs.declared.Kind.TheVariants.{Steal, Batch, Take}
use Rattle.state.specs.declared.Claim.{Claim}
use Rattle.state.specs.declared.PushLine.{PushLine}
use Rattle.state.specs.declared.PushLine.TheVariants.{P1, P2, P3, P4, P5, P6, P7, P8, P9, P10}
use Rattle.state.specs.declared.StealLine.{StealLine}
use Rattle.state.specs.declared.StealLine.TheVariants.{S1, S2, S3, S4, S5, S6, S7, S8, S9, S10, S11, S12, S13, S14}
use Rattle.state.specs.declared.LengthLine.{LengthLine}
use Rattle.state.specs.declared.LengthLine.TheVariants.{L1, L2, L3}
use Rattle.state.specs.declared.EmptyLine.{EmptyLine}
use Rattle.state.specs.declared.EmptyLine.TheVariants.{E1, E2}
use Rattle.state.specs.declared.Call.{Call}
use Rattle.state.specs.declared.Call.TheVariants.{Idle, Push, Length, Empty}
use Rattle.state.specs.declared.Thread.{Thread}

-- BAD_SETUP: the counts that the state carries are in their ranges, and the lent words are as many as published
abbrev pub counts_good : ℕ → ℕ → ℕ → Bool
counts_good threads blocks ceiling =
    leb 1 threads && leb threads 8 && leb 2 blocks && leb blocks 32 && leb 1 ceiling && leb ceiling 4294967295

unfoldable pub setup_good : Queue → ℕ → Bool
setup_good q len = counts_good q.threads q.blocks q.ceiling && eqb len (pool_len q.threads q.blocks)

-- a block number is below the pool size
abbrev pub block_good : Queue → ℕ → Bool
block_good q b = ltb b q.blocks

abbrev pub held_good : Queue → Option ℕ → Bool
held_good q None = true
held_good q (Some b) = block_good q b

-- every block's next, of free blocks too: those of the first n blocks
abbrev pub next_good : ℕ → Option ℕ → Bool
next_good blocks None = true
next_good blocks (Some b) = ltb b blocks

unfoldable pub nexts_good : List ℕ → ℕ → ℕ → Bool
nexts_good m blocks zero = true
nexts_good m blocks (suc n) = next_good blocks (next m n) && nexts_good m blocks n

-- head's and tail's block; the tail position at most L × 64; the head position at most the tail position
unfoldable pub shared_good : Queue → Bool
shared_good q =
    block_good q q.head_block
    && block_good q q.tail_block
    && leb (position q.tail.raw) (q.ceiling * 64)
    && leb (position q.head.raw) (position q.tail.raw)

-- an index loaded by an open call is not above the tail position
abbrev pub loaded_good : Queue → Index → Bool
loaded_good q i = leb (position i.raw) (position q.tail.raw)

-- ... and past its P2 or S2 its offset is not 63
abbrev pub slot_good : Queue → Index → Bool
slot_good q i = loaded_good q i && ltb (offset (position i.raw)) 63

-- P4 at offset 62 has its block
abbrev pub holds_at_last : Index → Option ℕ → Bool
holds_at_last t None = not (eqb (offset (position t.raw)) 62)
holds_at_last t (Some b) = true

unfoldable pub push_good : Queue → PushLine → Bool
push_good q (P1 token held) = held_good q held
push_good q (P2 token t held) = loaded_good q t && held_good q held
push_good q (P3 token t b) = slot_good q t && block_good q b
push_good q (P4 token t b held) = slot_good q t && block_good q b && held_good q held && holds_at_last t held
push_good q (P5 token t b held) = slot_good q t && block_good q b && block_good q held
push_good q (P6 token t b held) = slot_good q t && block_good q b && block_good q held
push_good q (P7 token t b held) = slot_good q t && block_good q b && block_good q held
push_good q (P8 token t b held) = slot_good q t && block_good q b && held_good q held
push_good q (P9 token t b held) = slot_good q t && block_good q b && held_good q held
push_good q (P10 held spent) = block_good q held

-- begin's NO_LIMIT and NO_ROOM: a limit of 0; ring tokens + min(limit, 63) over 64, one less for batch-and-pop
abbrev pub limit_good : Kind → Bool
limit_good Steal = true
limit_good (Batch limit) = leb 1 limit
limit_good (Take limit) = leb 1 limit

abbrev pub room_good : Kind → ℕ → Bool
room_good Steal count = true
room_good (Batch limit) count = leb (count + min limit 63) 64
room_good (Take limit) count = leb (count + min limit 63 - 1) 64

-- the advance is at most the limit; a steal's is 1
abbrev pub within_limit : Kind → ℕ → Bool
within_limit Steal advance = eqb advance 1
within_limit (Batch limit) advance = leb advance limit
within_limit (Take limit) advance = leb advance limit

-- the advance is not 0, not past the block's end, and the claim does not end above the tail position
abbrev pub claim_good : Queue → Claim → Bool
claim_good q c =
    slot_good q c.head
    && block_good q c.block
    && leb 1 c.advance
    && leb (offset (position c.head.raw) + c.advance) 63
    && leb (position c.head.raw + c.advance) (position q.tail.raw)

-- a slot of the claim
abbrev pub in_claim : Claim → ℕ → Bool
in_claim c slot = leb (offset (position c.head.raw)) slot && ltb slot (offset (position c.head.raw) + c.advance)

-- before the call's tokens are handed over: `count` tokens stand in the ring
abbrev pub open_good : Kind → ℕ → Bool
open_good k count = limit_good k && room_good k count

abbrev pub claim_open : Queue → ℕ → Kind → Claim → Bool
claim_open q count k c = open_good k count && claim_good q c && within_limit k c.advance

unfoldable pub steal_good : Queue → ℕ → StealLine → Bool
steal_good q count (S1 k) = open_good k count
steal_good q count (S2 k h) = open_good k count && loaded_good q h
steal_good q count (S3 k h b) = open_good k count && slot_good q h && block_good q b
steal_good q count (S4 k c next) = claim_open q count k c
steal_good q count (S5 k c) = claim_open q count k c
steal_good q count (S6 k c next) = claim_open q count k c && block_good q next
steal_good q count (S7 k c next more) = claim_open q count k c && block_good q next
steal_good q count (S8 k c more) = claim_open q count k c
steal_good q count (S9 k c slot) = claim_open q count k c && in_claim c slot
steal_good q count (S10 k c slot) = claim_open q count k c && in_claim c slot
steal_good q count (S11 won c slot) = claim_good q c && in_claim c slot
steal_good q count (S12 won b slot) = block_good q b && ltb slot 63
steal_good q count (S13 won b slot) = block_good q b && ltb slot 63
steal_good q count (S14 won b) = block_good q b

unfoldable pub length_good : Queue → LengthLine → Bool
length_good q L1 = true
length_good q (L2 t) = loaded_good q t
length_good q (L3 t h) = loaded_good q t && loaded_good q h

unfoldable pub empty_good : Queue → EmptyLine → Bool
empty_good q E1 = true
empty_good q (E2 h) = loaded_good q h

abbrev pub call_good : Queue → ℕ → Call → Bool
call_good q count Idle = true
call_good q count (Push line) = push_good q line
call_good q count (Rattle.state.specs.declared.Call.TheVariants.Steal line) = steal_good q count line
call_good q count (Length line) = length_good q line
call_good q count (Empty line) = empty_good q line

-- the record: its ring count at most 64, and its call
unfoldable pub record_good : Queue → Thread → Bool
record_good q t = leb t.ring.count 64 && call_good q t.ring.count t.call

-- what an entry is handed: the shared part with the lent words, and the record
abbrev pub state_good : Queue → List ℕ → Thread → Bool
state_good q m t = shared_good q && nexts_good m q.blocks q.blocks && record_good q t
