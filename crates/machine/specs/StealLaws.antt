-- What the list tells of a line's claim and of the ring's room, and which lines leave the lent memory alone.
use Rattle.std.specs.Prelude.{ℕ, ◌+◌, ◌-◌, ◌≤◌, min, ◌≡◌, refl, Bool, true, ◌&&◌, List, Option, None, Some}
use Rattle.std.proofs.Common.{ap, arith, leb-true, eqb-true}
use Rattle.index.specs.declared.Index.{Index}
use Rattle.memory.specs.Layout.{next}
use Rattle.memory.specs.Touch.{leaves}
use Rattle.state.specs.List.{limit_good, room_good, open_good, within_limit, claim_open, claim_good, in_claim, steal_good}
use Rattle.state.specs.ListLaws.{both, in_claim_lem, opened, Claimed, In}
use Rattle.state.specs.MoveLaws.{either-touch, same-touch}
use Rattle.state.specs.declared.Queue.{Queue}
use Rattle.state.specs.declared.Claim.{Claim}
use Rattle.state.specs.declared.Won.{Won}
use Rattle.state.specs.declared.Kind.{Kind}
use Rattle.state.specs.declared.Kind.TheVariants.{Steal, Batch, Take}
use Rattle.state.specs.declared.StealLine.TheVariants.{S4, S8, S10, S11}
use Rattle.machine.specs.Steal.{enters_from, s2, s3, s4, s5_next, s5, s9, s12}

-- an index is its number
pub index_is : (i : Index) (n : ℕ) → i.raw ≡ n → i ≡ record { raw = n }
index_is i n e = ap {B = Index} (λ (r : ℕ). record { raw = r }) e

-- the claim of a line that needs it
module _ (q : Queue) (count : ℕ) where
  open_claim : (k : Kind) (c : Claim) → claim_open q count k c ≡ true → claim_good q c ≡ true
  open_claim k c e =
      let open_good_lem = both (open_good k count && claim_good q c) (within_limit k c.advance) e in
      (both (open_good k count) (claim_good q c) open_good_lem.0).1

  pub claim-s4 : (k : Kind) (c : Claim) (more : Bool) → steal_good q count (S4 k c more) ≡ true → claim_good q c ≡ true
  unfolding steal_good
  claim-s4 k c more e = open_claim k c e

  pub claim-s8 : (k : Kind) (c : Claim) (more : Bool) → steal_good q count (S8 k c more) ≡ true → claim_good q c ≡ true
  unfolding steal_good
  claim-s8 k c more e = open_claim k c e

  pub claim-s11 : (won : Won) (c : Claim) (slot : ℕ) → steal_good q count (S11 won c slot) ≡ true
      → (claim_good q c ≡ true) × (in_claim c slot ≡ true)
  unfolding steal_good
  claim-s11 won c slot e = both (claim_good q c) (in_claim c slot) e

-- the tokens that a claim hands over, and the ring's room for them
pub record Room (count : ℕ) (k : Kind) (advance : ℕ) : Type 0 where
  pub some : enters_from k ≤ advance
  pub free : count + (advance - enters_from k) ≤ 64

-- begin asked for the room, and the advance is within the limit; a steal hands nothing over
room : (count : ℕ) (k : Kind) (advance : ℕ) → count ≤ 64 → 1 ≤ advance → advance ≤ 63
    → open_good k count ≡ true
    → within_limit k advance ≡ true
    → Room count k advance
room count Steal advance held some few begun within =
    let one = eqb-true advance 1 within in
    record { some = omega arith; free = omega arith }
room count (Batch limit) advance held some few begun within =
    let asked = (both (limit_good (Batch limit)) (room_good (Batch limit) count) begun).1 in
    let has_room = leb-true (count + min limit 63) 64 asked in
    let less = leb-true advance limit within in
    record { some = omega arith; free = omega arith }
room count (Take limit) advance held some few begun within =
    let asked = (both (limit_good (Take limit)) (room_good (Take limit) count) begun).1 in
    let has_room = leb-true (count + min limit 63 - 1) 64 asked in
    let less = leb-true advance limit within in
    record { some = omega arith; free = omega arith }

-- S10 reads a slot of its claim, and with the last one hands the tokens over
pub record Reads (q : Queue) (count : ℕ) (k : Kind) (c : Claim) (slot : ℕ) : Type 0 where
  pub claimed : Claimed q c
  pub here : In c slot
  pub room : count ≤ 64 → Room count k c.advance

pub reads : (q : Queue) (count : ℕ) (k : Kind) (c : Claim) (slot : ℕ) → steal_good q count (S10 k c slot) ≡ true
    → Reads q count k c slot
unfolding steal_good
reads q count k c slot e =
    let s = both (claim_open q count k c) (in_claim c slot) e in
    let o = opened q count k c s.0 in
    record {
      claimed = o.claimed;
      here = in_claim_lem c slot s.1;
      room = λ held. room count k c.advance held o.claimed.some (omega arith) o.begun o.within;
    }

-- The lines that only load, and the compare of the head, leave the lent memory as it is.
module _ (q : Queue) (k : Kind) where
  pub s2-leaves : (h : Index) → (s2 q k h).touch ≡ leaves
  unfolding s2
  s2-leaves h = simp (either-touch, same-touch)

  pub s3-leaves : (h : Index) (b : ℕ) → (s3 q k h b).touch ≡ leaves
  unfolding s3
  s3-leaves h b = simp (either-touch, same-touch)

  pub s4-leaves : (c : Claim) (more : Bool) → (s4 q k c more).touch ≡ leaves
  unfolding s4
  s4-leaves c more = simp (either-touch, same-touch)

  next-leaves : (c : Claim) (x : Option ℕ) → (s5_next q k c x).touch ≡ leaves
  next-leaves c None = refl
  next-leaves c (Some x) = refl

  pub s5-leaves : (m : List ℕ) (c : Claim) → (s5 q m k c).touch ≡ leaves
  unfolding s5
  s5-leaves m c = next-leaves c (next m c.block)

  pub s9-leaves : (m : List ℕ) (c : Claim) (slot : ℕ) → (s9 q m k c slot).touch ≡ leaves
  unfolding s9
  s9-leaves m c slot = simp (either-touch, same-touch)

pub s12-leaves : (q : Queue) (m : List ℕ) (won : Won) (b slot : ℕ) → (s12 q m won b slot).touch ≡ leaves
unfolding s12
s12-leaves q m won b slot = simp (either-touch, same-touch)
