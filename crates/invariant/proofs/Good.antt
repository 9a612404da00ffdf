-- No state with the invariant is on the BAD_STATE list, item by item.
use Rattle.std.specs.Prelude.{Option, None, Some}
use Prim.Native.Nat.{ℕ, zero, suc, ◌+◌, ◌*◌, ◌≤◌, ◌<◌}
use mathlib.Core.Path.{◌≡◌, refl, ap}
use mathlib.Core.Bool.{Bool, true, false, ◌&&◌, not}
use mathlib.Core.List.{List}
use native.Mathlib.Omega.{arith}
use native.Mathlib.Nat.{le_refl}
use lib.Dec.{ltb, leb}
use borrow.Author.Tests.{lt-ltb, le-leb, ne_eqb}
use Rattle.index.specs.Position.{position}
use Rattle.index.specs.declared.Index.{Index}
use Rattle.state.specs.List.{next_good, nexts_good, shared_good, held_good, loaded_good, slot_good, holds_at_last, push_good, open_good, within_limit, claim_good, in_claim, claim_open, steal_good, length_good, empty_good, call_good, record_good, state_good}
use Rattle.state.specs.declared.Kind.{Kind}
use Rattle.state.specs.declared.Claim.{Claim}
use Rattle.state.specs.declared.PushLine.{PushLine}
use Rattle.state.specs.declared.PushLine.TheVariants.{P1, P2, P3, P4, P5, P6, P7, P8, P9, P10}
use Rattle.state.specs.declared.StealLine.{StealLine}
use Rattle.state.specs.declared.StealLine.TheVariants.{S1, S2, S3, S4, S5, S6, S7, S8, S9, S10, S11, S12, S13, S14}
use Rattle.state.specs.declared.LengthLine.{LengthLine}
use Rattle.state.specs.declared.LengthLine.TheVariants.{L1, L2, L3}
use Rattle.state.specs.declared.EmptyLine.{EmptyLine}
use Rattle.state.specs.declared.EmptyLine.TheVariants.{E1, E2}
use Rattle.state.specs.declared.Call.{Call}
use Rattle.state.specs.declared.Call.TheVariants.{Idle, Push, Steal, Length, Empty}
use Rattle.state.specs.declared.Thread.{Thread}
use Rattle.state.specs.declared.Won.{Won}
use Rattle.invariant.specs.Ghost.{some, lap_of}
use Rattle.invariant.specs.State.{State, lp, off, tk, T, H, TB, HB, N, L, nxt, own}
use Rattle.invariant.specs.Shared.{Shared}
use Rattle.invariant.specs.Lines.{HeldOk, Has, Owes, PushOk, Claims, Leaves, S6Ok, S9Ok, WalkOk, StealOk, LengthOk, EmptyOk, CallOk, ThreadOk}
use Rattle.invariant.proofs.Facts.{serving-number, held_number}
use Rattle.invariant.proofs.LocalSteal.{next_open}

pub both : {a b : Bool} → a ≡ true → b ≡ true → (a && b) ≡ true
both {a} {b} p q = at a p
  where
    at : (c : Bool) → c ≡ true → (c && b) ≡ true
    at true e = q
    at false e = e

-- the position of an index whose ticket is below the count of another's, and a claim's end
ticket-before : (t u : ℕ) → off t < 63 → tk t < tk u → position t ≤ position u
ticket-before t u o b = omega arith

claim-before : (h u a : ℕ) → 1 ≤ a → off h + a ≤ 63 → tk h + a ≤ tk u → position h + a ≤ position u
claim-before h u a o w b = omega arith

module _ (s : State) (h : Shared s) where
  shared-good : shared_good s.queue ≡ true
  unfolding shared_good
  shared-good =
      both
      (both (both (lt-ltb (HB s) (N s) h.head-number) (lt-ltb (TB s) (N s) h.tail-number))
      (le-leb (position (T s)) (L s * 64) h.ceiling))
      (le-leb (position (H s)) (position (T s)) h.order)

  next-good : (b : ℕ) → b < N s → (n : Option ℕ) → nxt s b ≡ n → next_good (N s) n ≡ true
  next-good b p None e = refl
  next-good b p (Some x) e = lt-ltb x (N s) (h.next-number b x p e)

  nexts-good : (n : ℕ) → n ≤ N s → nexts_good s.pool (N s) n ≡ true
  unfolding nexts_good
  nexts-good zero p = refl
  nexts-good (suc n) p = both (next-good n p (nxt s n) refl) (nexts-good n (omega arith))

  held-good : (i : ℕ) (x : Option ℕ) → HeldOk s i x → held_good s.queue x ≡ true
  held-good i None p = refl
  held-good i (Some x) p = lt-ltb x (N s) (held_number s h x i p)

  block-good : (b l : ℕ) → lap_of (own s b) ≡ some l → ltb b (N s) ≡ true
  block-good b l p = lt-ltb b (N s) (serving-number s h b l p)

  -- an index loaded from the tail or the head
  tail-good : (t : ℕ) → t ≤ T s → leb (position t) (position (T s)) ≡ true
  tail-good t p = le-leb (position t) (position (T s)) (omega arith)

  head-good : (t : ℕ) → t ≤ H s → leb (position t) (position (T s)) ≡ true
  head-good t p = let order : position (H s) ≤ position (T s) = h.order in le-leb (position t) (position (T s)) (omega arith)

  slot-good : (t : ℕ) → off t < 63 → ltb (off t) 63 ≡ true
  slot-good t o = lt-ltb (off t) 63 o

  owes-good : (i v : ℕ) (t : Index) (b : ℕ) → Owes s i v t.raw b → (slot_good s.queue t && ltb b (N s)) ≡ true
  owes-good i v t b p =
      both
      (both (le-leb (position t.raw) (position (T s)) (ticket-before t.raw (T s) p.slot p.below))
      (slot-good t.raw p.slot))
      (block-good b (lp t.raw) p.serves)

  last-good : (t : Index) (x : Option ℕ) → (off t.raw ≡ 62 → Has x) → holds_at_last t x ≡ true
  last-good t None p = ap not (ne_eqb (off t.raw) 62 p)
  last-good t (Some x) p = refl

  push-good : (i : ℕ) (line : PushLine) → PushOk s i line → push_good s.queue line ≡ true
  unfolding push_good
  push-good i (P1 v x) p = held-good i x p
  push-good i (P2 v t x) p = both (tail-good t.raw p.seen) (held-good i x p.holds)
  push-good i (P3 v t b) p =
      both (both (tail-good t.raw p.at.seen) (slot-good t.raw (let o = p.last in omega arith)))
      (lt-ltb b (N s) p.at.number)
  push-good i (P4 v t b x) p =
      both
      (both
      (both (both (tail-good t.raw p.at.seen) (slot-good t.raw p.slot)) (lt-ltb b (N s) p.at.number))
      (held-good i x p.holds))
      (last-good t x p.last)
  push-good i (P5 v t b x) p = both (owes-good i v t b p.owes) (lt-ltb x (N s) (held_number s h x i p.holds))
  push-good i (P6 v t b x) p =
      both (owes-good i v t b p.installs.owes) (lt-ltb x (N s) (held_number s h x i p.installs.holds))
  push-good i (P7 v t b x) p = both (owes-good i v t b p.owes) (lt-ltb x (N s) p.number)
  push-good i (P8 v t b x) p = both (owes-good i v t b p.owes) (held-good i x p.holds)
  push-good i (P9 v t b x) p = both (owes-good i v t b p.owes) (held-good i x p.holds)
  push-good i (P10 x spent) p = lt-ltb x (N s) (held_number s h x i p)

  -- ---- a thief

  -- the claim's test, from what its items say
  claim-good : (c : Claim) → leb (position c.head.raw) (position (T s)) ≡ true → off c.head.raw < 63 → c.block < N s → 1 ≤ c.advance
      → off c.head.raw + c.advance ≤ 63 → position c.head.raw + c.advance ≤ position (T s) → claim_good s.queue c ≡ true
  claim-good c seen slot number one within end =
      both
      (both
      (both (both (both seen (slot-good c.head.raw slot)) (lt-ltb c.block (N s) number)) (le-leb 1 c.advance one))
      (le-leb (off c.head.raw + c.advance) 63 within))
      (le-leb (position c.head.raw + c.advance) (position (T s)) end)

  claims-good : (i : ℕ) (c : Claim) → Claims s i c.head.raw c.block c.advance → claim_good s.queue c ≡ true
  claims-good i c p =
      let one : 1 ≤ c.advance = p.some-slot in
      let within : off c.head.raw + c.advance ≤ 63 = p.within in
      let order : position (H s) ≤ position (T s) = h.order in
      let end : position c.head.raw + c.advance ≤ position (H s) = claim-before c.head.raw (H s) c.advance one within p.below in
      claim-good c (le-leb (position c.head.raw) (position (T s)) (omega arith)) (omega arith)
      (serving-number s h c.block (lp c.head.raw) p.serves)
      one
      within
      (omega arith)

  open_good_lem : (i count : ℕ) (k : Kind) (c : Claim) → open_good k count ≡ true → within_limit k c.advance ≡ true
      → Claims s i c.head.raw c.block c.advance → claim_open s.queue count k c ≡ true
  open_good_lem i count k c room limit p = both (both room (claims-good i c p)) limit

  leaves-good : (i count : ℕ) (k : Kind) (c : Claim) → Leaves s i k count c.head.raw c.block c.advance
      → claim_open s.queue count k c ≡ true
  leaves-good i count k c p = open_good_lem i count k c p.room p.limit p.claims

  next-block-good : (i count : ℕ) (k : Kind) (c : Claim) (x : ℕ) → S6Ok s i k count c.head.raw c.block c.advance x
      → (claim_open s.queue count k c && ltb x (N s)) ≡ true
  next-block-good i count k c x p =
      both (leaves-good i count k c p.leaves)
      (block-good x (lp c.head.raw + 1) (next_open s i k count c.head.raw c.block c.advance x h p))

  in_claim_lem : (c : Claim) (n : ℕ) → off c.head.raw ≤ n → n < off c.head.raw + c.advance → in_claim c n ≡ true
  in_claim_lem c n from to = both (le-leb (off c.head.raw) n from) (lt-ltb n (off c.head.raw + c.advance) to)

  reads-good : (i count : ℕ) (taken : List ℕ) (k : Kind) (c : Claim) (n : ℕ) → S9Ok s i k count taken c.head.raw c.block c.advance n
      → (claim_open s.queue count k c && in_claim c n) ≡ true
  reads-good i count taken k c n p = both (open_good_lem i count k c p.room p.limit p.claims) (in_claim_lem c n p.from p.to)

  walk-good : (i : ℕ) (won : Won) (b w : ℕ) → WalkOk s i won b w → ltb b (N s) ≡ true
  walk-good i won b w p = block-good b p.lap (ap lap_of p.own)

  walk-slot-good : (i : ℕ) (won : Won) (b w : ℕ) → WalkOk s i won b (w + 1) → (ltb b (N s) && ltb w 63) ≡ true
  walk-slot-good i won b w p =
      both (walk-good i won b (w + 1) p) (lt-ltb w 63 (let f : w + 1 < 63 = p.below in omega arith))

  steal-good : (i count : ℕ) (taken : List ℕ) (line : StealLine) → StealOk s i count taken line → steal_good s.queue count line ≡ true
  unfolding steal_good
  steal-good i count taken (S1 k) p = p
  steal-good i count taken (S2 k t) p = both p.room (head-good t.raw p.seen)
  steal-good i count taken (S3 k t b) p =
      both (both p.room (both (head-good t.raw p.at.seen) (slot-good t.raw p.slot))) (lt-ltb b (N s) p.at.number)
  steal-good i count taken (S4 k c more) p =
      both
      (both p.room
      (claim-good c (head-good c.head.raw p.at.seen) p.slot p.at.number p.some-slot p.within p.end))
      p.limit
  steal-good i count taken (S5 k c) p = leaves-good i count k c p
  steal-good i count taken (S6 k c x) p = next-block-good i count k c x p
  steal-good i count taken (S7 k c x more) p = next-block-good i count k c x p.at
  steal-good i count taken (S8 k c more) p = leaves-good i count k c p.leaves
  steal-good i count taken (S9 k c n) p = reads-good i count taken k c n p
  steal-good i count taken (S10 k c n) p = reads-good i count taken k c n p.at
  steal-good i count taken (S11 won c n) p = both (claims-good i c p.claims) (in_claim_lem c n p.from p.to)
  steal-good i count taken (S12 won b w) p = walk-slot-good i won b w p
  steal-good i count taken (S13 won b w) p = walk-slot-good i won b w p
  steal-good i count taken (S14 won b) p = walk-good i won b 0 p

  -- ---- length and empty, and the record

  loaded_good_lem : (t : Index) → position t.raw ≤ position (T s) → loaded_good s.queue t ≡ true
  loaded_good_lem t p = le-leb (position t.raw) (position (T s)) p

  length-good : (line : LengthLine) → LengthOk s line → length_good s.queue line ≡ true
  unfolding length_good
  length-good L1 p = refl
  length-good (L2 t) p = loaded_good_lem t p
  length-good (L3 t u) p = both (loaded_good_lem t p.0) (loaded_good_lem u p.1)

  empty-good : (line : EmptyLine) → EmptyOk s line → empty_good s.queue line ≡ true
  unfolding empty_good
  empty-good E1 p = refl
  empty-good (E2 t) p = loaded_good_lem t p

  call-good : (i count : ℕ) (taken : List ℕ) (call : Call) → CallOk s i count taken call → call_good s.queue count call ≡ true
  call-good i count taken Idle p = refl
  call-good i count taken (Push line) p = push-good i line p
  call-good i count taken (Steal line) p = steal-good i count taken line p
  call-good i count taken (Length line) p = length-good line p
  call-good i count taken (Empty line) p = empty-good line p

  record_good_lem : (i : ℕ) (t : Thread) → ThreadOk s i t → record_good s.queue t ≡ true
  unfolding record_good
  record_good_lem i t p =
      both (le-leb t.ring.count 64 p.count) (call-good i t.ring.count t.taken t.call p.call)

pub good : (s : State) (i : ℕ) (t : Thread) → Shared s → ThreadOk s i t → state_good s.queue s.pool t ≡ true
good s i t h p = both (both (shared-good s h) (nexts-good s h (N s) (le_refl (N s)))) (record_good_lem s h i t p)
