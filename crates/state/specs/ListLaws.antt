-- What the BAD_STATE list's tests tell where they hold: a law for `&&`, then one for each item, then the lines that
-- lean on one.
use Rattle.std.specs.Prelude.{ℕ, ◌+◌, ◌≤◌, ◌<◌, ◌≡◌, refl, Bool, true, false, ◌&&◌, ltb, leb}
use Rattle.std.proofs.Common.{ltb-true, leb-true}
use Rattle.index.specs.Position.{position, offset}
use Rattle.index.specs.declared.Index.{Index}
use Rattle.state.specs.declared.Queue.{Queue}
use Rattle.state.specs.declared.Kind.{Kind}
use Rattle.state.specs.declared.Claim.{Claim}
use Rattle.state.specs.declared.PushLine.TheVariants.{P6, P7}
use Rattle.state.specs.List.{block_good, loaded_good, slot_good, claim_good, in_claim, open_good, within_limit, claim_open, push_good}

-- both tests of an `&&`, which nests to the left
pub both : (a b : Bool) → (a && b) ≡ true → (a ≡ true) × (b ≡ true)
both true b e = (refl, e)
both false b e = cc

pub block-below : (q : Queue) (b : ℕ) → block_good q b ≡ true → b < q.blocks
block-below q b e = ltb-true b q.blocks e

pub loaded_below : (q : Queue) (i : Index) → loaded_good q i ≡ true → position i.raw ≤ position q.tail.raw
loaded_below q i e = leb-true (position i.raw) (position q.tail.raw) e

-- a loaded index that names a slot
pub record Slot (q : Queue) (i : Index) : Type 0 where
  pub below : position i.raw ≤ position q.tail.raw
  pub inside : offset (position i.raw) < 63

pub slot : (q : Queue) (i : Index) → slot_good q i ≡ true → Slot q i
slot q i e =
    let s = both (loaded_good q i) (ltb (offset (position i.raw)) 63) e in
    record { below = loaded_below q i s.0; inside = ltb-true (offset (position i.raw)) 63 s.1 }

-- a claim: some slots of one block, up to the tail position at most
pub record Claimed (q : Queue) (c : Claim) : Type 0 where
  pub head : Slot q c.head
  pub block : c.block < q.blocks
  pub some : 1 ≤ c.advance
  pub fits : offset (position c.head.raw) + c.advance ≤ 63
  pub below : position c.head.raw + c.advance ≤ position q.tail.raw

pub claim : (q : Queue) (c : Claim) → claim_good q c ≡ true → Claimed q c
claim q c e =
    let first = slot_good q c.head in
    let some = leb 1 c.advance in
    let fits = leb (offset (position c.head.raw) + c.advance) 63 in
    let below = leb (position c.head.raw + c.advance) (position q.tail.raw) in
    let s4 = both (first && block_good q c.block && some && fits) below e in
    let s3 = both (first && block_good q c.block && some) fits s4.0 in
    let s2 = both (first && block_good q c.block) some s3.0 in
    let s1 = both first (block_good q c.block) s2.0 in
    record {
      head = slot q c.head s1.0;
      block = block-below q c.block s1.1;
      some = leb-true 1 c.advance s2.1;
      fits = leb-true (offset (position c.head.raw) + c.advance) 63 s3.1;
      below = leb-true (position c.head.raw + c.advance) (position q.tail.raw) s4.1;
    }

-- a slot of the claim
pub record In (c : Claim) (s : ℕ) : Type 0 where
  pub low : offset (position c.head.raw) ≤ s
  pub high : s < offset (position c.head.raw) + c.advance

pub in_claim_lem : (c : Claim) (s : ℕ) → in_claim c s ≡ true → In c s
in_claim_lem c s e =
    let past = offset (position c.head.raw) + c.advance in
    let t = both (leb (offset (position c.head.raw)) s) (ltb s past) e in
    record { low = leb-true (offset (position c.head.raw)) s t.0; high = ltb-true s past t.1 }

-- what every line from S4 to S10 begins with
pub record Opened (q : Queue) (count : ℕ) (k : Kind) (c : Claim) : Type 0 where
  pub begun : open_good k count ≡ true
  pub claimed : Claimed q c
  pub within : within_limit k c.advance ≡ true

pub opened : (q : Queue) (count : ℕ) (k : Kind) (c : Claim) → claim_open q count k c ≡ true → Opened q count k c
opened q count k c e =
    let s2 = both (open_good k count && claim_good q c) (within_limit k c.advance) e in
    let s1 = both (open_good k count) (claim_good q c) s2.0 in
    record { begun = s1.0; claimed = claim q c s1.1; within = s2.1 }

-- the index that P6 advances, and the block whose number P7 stores
module _ (q : Queue) (token : ℕ) (t : Index) (b : ℕ) where
  pub slot-p6 : (held : ℕ) → push_good q (P6 token t b held) ≡ true → Slot q t
  unfolding push_good
  slot-p6 held e =
      let s2 = both (slot_good q t && block_good q b) (block_good q held) e in
      slot q t (both (slot_good q t) (block_good q b) s2.0).0

  pub next-p7 : (held : ℕ) → push_good q (P7 token t b held) ≡ true → held < q.blocks
  unfolding push_good
  next-p7 held e = block-below q held (both (slot_good q t && block_good q b) (block_good q held) e).1
