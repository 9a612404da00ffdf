-- The step table of document 01, "Push": one definition a line, in the table's order.
-- t is the tail index that the call loaded, b the tail's block, held the block it holds, if any.
use Rattle.std.specs.Prelude.{ℕ, Bool, true, false, cond, List, leb, eqb, Option, None, Some}
use Rattle.index.specs.Position.{position, lap, offset}
use Rattle.index.specs.Claim.{advanced}
use Rattle.index.specs.declared.Index.{Index}
use Rattle.memory.specs.Layout.{state, or}
use Rattle.memory.specs.Touch.{Touch, leaves, writes_token, writes_state, links, frees, clears}
use Rattle.memory.specs.Pool.{pick}
use Rattle.memory.specs.declared.Mark.TheVariants.{Write}
use Rattle.state.specs.Move.{Move, on, ends, with_tail, with_tail_block}
use Rattle.state.specs.declared.Queue.{Queue}
use Rattle.state.specs.declared.PushLine.{PushLine}
use Rattle.state.specs.declared.PushLine.TheVariants.{P1, P2, P3, P4, P5, P6, P7, P8, P9, P10}
use Rattle.state.specs.declared.Call.TheVariants.{Push}
use Rattle.state.specs.declared.Answer.TheVariants.{Pushed, Refused}
use Rattle.state.specs.declared.Refusal.TheVariants.{NoBlock, Spent}

-- the call goes on at a line of push
abbrev pub to : Queue → PushLine → Touch → Move
to q line touch = on q (Push line) touch

-- P1 load tail index t
abbrev pub p1 : Queue → ℕ → Option ℕ → Move
p1 q token held = to q (P2 token q.tail held) leaves

-- P2 load tail block b. Offset 63: P1. Lap of t at L or more: SPENT, by P10 if a block is held.
-- Offset 62 and none held: P3. Else P4.
abbrev pub p2_spent : Queue → Option ℕ → Move
p2_spent q None = ends q (Refused Spent) leaves
p2_spent q (Some x) = to q (P10 x true) leaves

abbrev pub p2_last : Queue → ℕ → Index → Option ℕ → Move
p2_last q token t None = to q (P3 token t q.tail_block) leaves
p2_last q token t (Some x) = to q (P4 token t q.tail_block (Some x)) leaves

unfoldable pub p2 : Queue → ℕ → Index → Option ℕ → Move
p2 q token t held =
    cond (eqb (offset (position t.raw)) 63) (to q (P1 token held) leaves)
    (cond (leb q.ceiling (lap (position t.raw))) (p2_spent q held)
    (cond (eqb (offset (position t.raw)) 62) (p2_last q token t held)
    (to q (P4 token t q.tail_block held) leaves)))

-- P3 take a block; none free: NO_BLOCK
abbrev pub p3_took : Queue → ℕ → Index → ℕ → Option ℕ → Move
p3_took q token t b None = ends q (Refused NoBlock) leaves
p3_took q token t b (Some x) = to q (P4 token t b (Some x)) (clears x)

unfoldable pub p3 : Queue → List ℕ → ℕ → Index → ℕ → Move
p3 q m token t b = p3_took q token t b (pick m q.blocks)

-- P4 compare t, set t + 2; failed: t is the value seen, to P2. Offset 62: P5, else P8.
abbrev pub p4_last : ℕ → Index → ℕ → Option ℕ → PushLine
p4_last token t b None = P8 token t b None
p4_last token t b (Some x) = P5 token t b x

abbrev pub p4_won : Queue → ℕ → Index → ℕ → Option ℕ → Move
p4_won q token t b held =
    to (with_tail q (record { raw = advanced t.raw 1 }))
    (cond (eqb (offset (position t.raw)) 62) (p4_last token t b held) (P8 token t b held))
    leaves

abbrev pub p4_lost : Queue → ℕ → Option ℕ → Move
p4_lost q token held = to q (P2 token q.tail held) leaves

unfoldable pub p4 : Queue → ℕ → Index → ℕ → Option ℕ → Move
p4 q token t b held = cond (eqb q.tail.raw t.raw) (p4_won q token t b held) (p4_lost q token held)

-- P5 store tail block
abbrev pub p5 : Queue → ℕ → Index → ℕ → ℕ → Move
p5 q token t b x = to (with_tail_block q x) (P6 token t b x) leaves

-- P6 store tail index t + 4
abbrev pub p6 : Queue → ℕ → Index → ℕ → ℕ → Move
p6 q token t b x = to (with_tail q (record { raw = advanced t.raw 2 })) (P7 token t b x) leaves

-- P7 store b's next; the block is held no longer
abbrev pub p7 : Queue → ℕ → Index → ℕ → ℕ → Move
p7 q token t b x = to q (P8 token t b None) (links b x)

-- P8 write the token
abbrev pub p8 : Queue → ℕ → Index → ℕ → Option ℕ → Move
p8 q token t b held = to q (P9 token t b held) (writes_token b (offset (position t.raw)) token)

-- P9 or WRITE; P10, only if a block is still held
abbrev pub p9_ends : Queue → Option ℕ → Touch → Move
p9_ends q None touch = ends q Pushed touch
p9_ends q (Some x) touch = to q (P10 x false) touch

unfoldable pub p9 : Queue → List ℕ → ℕ → Index → ℕ → Option ℕ → Move
p9 q m token t b held =
    p9_ends q held
    (writes_state b (offset (position t.raw)) (or (state m b (offset (position t.raw))) Write))

-- P10 give it back
abbrev pub p10 : Queue → ℕ → Bool → Move
p10 q x spent = ends q (cond spent (Refused Spent) Pushed) (frees x)

abbrev pub push : Queue → List ℕ → PushLine → Move
push q m (P1 token held) = p1 q token held
push q m (P2 token t held) = p2 q token t held
push q m (P3 token t b) = p3 q m token t b
push q m (P4 token t b held) = p4 q token t b held
push q m (P5 token t b x) = p5 q token t b x
push q m (P6 token t b x) = p6 q token t b x
push q m (P7 token t b x) = p7 q token t b x
push q m (P8 token t b held) = p8 q token t b held
push q m (P9 token t b held) = p9 q m token t b held
push q m (P10 x spent) = p10 q x spent
