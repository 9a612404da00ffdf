-- The step table of document 01, "Steal, and both batches": one definition a line, in the table's order.
-- h is the head index that the call loaded; a claim is h, the head's block and the advance.
use Rattle.std.specs.Prelude.{ℕ, ◌+◌, ◌-◌, Bool, true, false, not, cond, List, get_or, set, eqb, Option, None, Some}
use Rattle.index.specs.Position.{position, lap, offset, has_next}
use Rattle.index.specs.Claim.{advanced, claimed, left_lap}
use Rattle.index.specs.Length.{to_block_end, batch_advance}
use Rattle.index.specs.declared.Index.{Index}
use Rattle.memory.specs.Layout.{token, state, next, has, or}
use Rattle.memory.specs.Touch.{Touch, leaves, writes_state, frees}
use Rattle.memory.specs.declared.Mark.TheVariants.{Write, Read, Destroy}
use Rattle.ring.specs.Ring.{entered}
use Rattle.state.specs.Answers.{answered}
use Rattle.state.specs.Move.{Move, Step, on, ends, with_head, with_head_block, settled}
use Rattle.state.specs.declared.Queue.{Queue}
use Rattle.state.specs.declared.Kind.{Kind}
use Rattle.state.specs.declared.Kind.TheVariants.{Batch, Take}
use Rattle.state.specs.declared.Claim.{Claim}
use Rattle.state.specs.declared.Won.{Won}
use Rattle.state.specs.declared.Won.TheVariants.{Task, Moved}
use Rattle.state.specs.declared.StealLine.{StealLine}
use Rattle.state.specs.declared.StealLine.TheVariants.{S1, S2, S3, S4, S5, S6, S7, S8, S9, S10, S11, S12, S13, S14}
use Rattle.state.specs.declared.Call.TheVariants.{Steal}
use Rattle.state.specs.declared.Answer.{Answer}
use Rattle.state.specs.declared.Answer.TheVariants.{Open, Empty, Retry}
use Rattle.state.specs.declared.Thread.{Thread}
use Rattle.state.specs.declared.Stepped.{Stepped}

-- the call goes on at a line of steal
abbrev pub to : Queue → StealLine → Touch → Move
to q line touch = on q (Steal line) touch

-- the first claimed slot, and the slot past the last
abbrev pub first : Claim → ℕ
first c = offset (position c.head.raw)

abbrev pub past : Claim → ℕ
past c = first c + c.advance

-- S1 load head index h
abbrev pub s1 : Queue → Kind → Move
s1 q k = to q (S2 k q.head) leaves

-- the advance: steal 1. Batches: to the block's end, or as the tail that was loaded says
abbrev pub end_advance : Kind → Index → ℕ
end_advance Rattle.state.specs.declared.Kind.TheVariants.Steal h = 1
end_advance (Batch limit) h = to_block_end (position h.raw) limit
end_advance (Take limit) h = to_block_end (position h.raw) limit

abbrev pub advance_of : Kind → Index → Index → ℕ
advance_of Rattle.state.specs.declared.Kind.TheVariants.Steal h tail = 1
advance_of (Batch limit) h tail = batch_advance h.raw tail.raw limit
advance_of (Take limit) h tail = batch_advance h.raw tail.raw limit

abbrev pub claim_of : Index → ℕ → ℕ → Claim
claim_of h b advance = record { head = h; block = b; advance = advance }

-- S2 load head block. Offset 63: S1. HAS_NEXT set: S4, else S3.
unfoldable pub s2 : Queue → Kind → Index → Move
s2 q k h =
    cond (eqb (offset (position h.raw)) 63) (to q (S1 k) leaves)
    (cond (has_next h.raw) (to q (S4 k (claim_of h q.head_block (end_advance k h)) true) leaves)
    (to q (S3 k h q.head_block) leaves))

-- S3 load tail index. Same position: EMPTY. Different laps: the new head gets HAS_NEXT.
unfoldable pub s3 : Queue → Kind → Index → ℕ → Move
s3 q k h b =
    cond (eqb (position h.raw) (position q.tail.raw)) (ends q Empty leaves)
    (to q (S4 k (claim_of h b (advance_of k h q.tail)) (not (eqb (lap (position h.raw)) (lap (position q.tail.raw))))) leaves)

-- S4 compare h, set h + 2 × advance, with HAS_NEXT kept or added; failed: RETRY. New offset 63: S5, else S9.
abbrev pub s4_won : Queue → Kind → Claim → Bool → Move
s4_won q k c more =
    to (with_head q (record { raw = claimed c.head.raw c.advance more }))
    (cond (eqb (past c) 63) (S5 k c) (S9 k c (first c)))
    leaves

unfoldable pub s4 : Queue → Kind → Claim → Bool → Move
s4 q k c more = cond (eqb q.head.raw c.head.raw) (s4_won q k c more) (ends q Retry leaves)

-- S5 load next; none: S5
abbrev pub s5_next : Queue → Kind → Claim → Option ℕ → Move
s5_next q k c None = to q (S5 k c) leaves
s5_next q k c (Some x) = to q (S6 k c x) leaves

unfoldable pub s5 : Queue → List ℕ → Kind → Claim → Move
s5 q m k c = s5_next q k c (next m c.block)

-- S6 load next's next
abbrev pub some : Option ℕ → Bool
some None = false
some (Some x) = true

abbrev pub s6 : Queue → List ℕ → Kind → Claim → ℕ → Move
s6 q m k c x = to q (S7 k c x (some (next m x))) leaves

-- S7 store head block
abbrev pub s7 : Queue → Kind → Claim → ℕ → Bool → Move
s7 q k c x more = to (with_head_block q x) (S8 k c more) leaves

-- S8 store head index: new head without HAS_NEXT, plus 2, plus 1 if S6 found one
abbrev pub s8 : Queue → Kind → Claim → Bool → Move
s8 q k c more =
    to (with_head q (record { raw = left_lap (advanced c.head.raw c.advance) more })) (S9 k c (first c)) leaves

-- S9 load state; no WRITE: S9
unfoldable pub s9 : Queue → List ℕ → Kind → Claim → ℕ → Move
s9 q m k c slot =
    cond (has Write (state m c.block slot)) (to q (S10 k c slot) leaves) (to q (S9 k c slot) leaves)

-- The walk goes down from the slot below the first claimed one; past slot 0: S14.
abbrev pub walk_below : Won → ℕ → ℕ → StealLine
walk_below won b slot = cond (eqb slot 0) (S14 won b) (S12 won b (slot - 1))

-- S10 read the token. The first token of a steal or batch-and-pop is the answer.
abbrev pub won_of : Kind → List ℕ → Won
won_of Rattle.state.specs.declared.Kind.TheVariants.Steal taken = Task (get_or taken 0 0)
won_of (Batch limit) taken = Moved
won_of (Take limit) taken = Task (get_or taken 0 0)

-- the place in `taken` of the first token that enters the ring
abbrev pub enters_from : Kind → ℕ
enters_from Rattle.state.specs.declared.Kind.TheVariants.Steal = 1
enters_from (Batch limit) = 0
enters_from (Take limit) = 1

-- block ended: walk; otherwise S11 per claimed slot upwards
abbrev pub after_reads : Won → Claim → StealLine
after_reads won c = cond (eqb (past c) 63) (walk_below won c.block (first c)) (S11 won c (first c))

-- the rest enter the ring in the same step as the last S10
abbrev pub handed_over : Queue → Thread → List ℕ → Kind → Claim → Stepped
handed_over q t taken k c =
    record {
      queue = q;
      thread =
          record {
            ring = entered t.ring taken (enters_from k) c.advance;
            call = Steal (after_reads (won_of k taken) c);
            taken = taken;
          };
      answer = Open;
    }

abbrev pub read_on : Queue → Thread → List ℕ → Kind → Claim → ℕ → Stepped
read_on q t taken k c slot =
    record { queue = q; thread = record { ring = t.ring; call = Steal (S9 k c (slot + 1)); taken = taken }; answer = Open }

abbrev pub s10_took : Queue → Thread → List ℕ → Kind → Claim → ℕ → Stepped
s10_took q t taken k c slot = cond (eqb (slot + 1) (past c)) (handed_over q t taken k c) (read_on q t taken k c slot)

unfoldable pub s10 : Queue → List ℕ → Thread → Kind → Claim → ℕ → Stepped
s10 q m t k c slot = s10_took q t (set t.taken (slot - first c) (token m c.block slot)) k c slot

-- the answer of a call that has won
abbrev pub answer_of : Won → Answer
answer_of won = answered won

-- S11 or READ; DESTROY seen: walk at once
abbrev pub s11_marked : Queue → Won → Claim → ℕ → Touch → Move
s11_marked q won c slot touch =
    cond (eqb (slot + 1) (past c)) (ends q (answer_of won) touch) (to q (S11 won c (slot + 1)) touch)

unfoldable pub s11 : Queue → List ℕ → Won → Claim → ℕ → Move
s11 q m won c slot =
    cond (has Destroy (state m c.block slot))
    (to q (walk_below won c.block (first c)) (writes_state c.block slot (or (state m c.block slot) Read)))
    (s11_marked q won c slot (writes_state c.block slot (or (state m c.block slot) Read)))

-- S12 load state; READ: next lower
unfoldable pub s12 : Queue → List ℕ → Won → ℕ → ℕ → Move
s12 q m won b slot =
    cond (has Read (state m b slot)) (to q (walk_below won b slot) leaves) (to q (S13 won b slot) leaves)

-- S13 or DESTROY; READ seen: next lower, else finished without freeing
unfoldable pub s13 : Queue → List ℕ → Won → ℕ → ℕ → Move
s13 q m won b slot =
    cond (has Read (state m b slot))
    (to q (walk_below won b slot) (writes_state b slot (or (state m b slot) Destroy)))
    (ends q (answer_of won) (writes_state b slot (or (state m b slot) Destroy)))

-- S14 give the block back
abbrev pub s14 : Queue → Won → ℕ → Move
s14 q won b = ends q (answer_of won) (frees b)

abbrev pub steal : Queue → List ℕ → Thread → StealLine → Step
steal q m t (S1 k) = settled t (s1 q k)
steal q m t (S2 k h) = settled t (s2 q k h)
steal q m t (S3 k h b) = settled t (s3 q k h b)
steal q m t (S4 k c more) = settled t (s4 q k c more)
steal q m t (S5 k c) = settled t (s5 q m k c)
steal q m t (S6 k c x) = settled t (s6 q m k c x)
steal q m t (S7 k c x more) = settled t (s7 q k c x more)
steal q m t (S8 k c more) = settled t (s8 q k c more)
steal q m t (S9 k c slot) = settled t (s9 q m k c slot)
steal q m t (S10 k c slot) = record { stepped = s10 q m t k c slot; touch = leaves }
steal q m t (S11 won c slot) = settled t (s11 q m won c slot)
steal q m t (S12 won b slot) = settled t (s12 q m won b slot)
steal q m t (S13 won b slot) = settled t (s13 q m won b slot)
steal q m t (S14 won b) = settled t (s14 q won b)
