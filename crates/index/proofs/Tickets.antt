-- What everybody cites of tickets: they go on through a lap's slots and over its end, and the length counts them.
use Rattle.std.specs.Prelude.{ℕ, ◌+◌, ◌*◌, ◌-◌, ◌≤◌, ◌<◌, ◌≡◌, refl, Bool, true, false, ◌↔◌, eqb}
use Rattle.std.proofs.Common.{arith, eqb-true}
use Rattle.std.proofs.lemmas.Bool.{eqb-false}
use Rattle.index.specs.Position.{position, offset, ticket}
use Rattle.index.specs.Claim.{claimed, left_lap}
use Rattle.index.specs.Length.{moved_on, len_from, len}
use Rattle.index.specs.Laws.{claimed-position, left-position}

-- an advance that stays inside the block moves the ticket by as much
pub ticket_add : (p n : ℕ) → offset p + n ≤ 63 → ticket (p + n) ≡ ticket p + n
ticket_add p n h = omega arith

-- past the block's slots comes the next lap's first position, with the same ticket
pub ticket-over : (p : ℕ) → offset p ≡ 63 → ticket (p + 1) ≡ ticket p
ticket-over p h = omega arith

-- the ticket grows by exactly one from a position that can hold a token to the next one that can
pub next-ticket : (p : ℕ) → offset p < 62 → ticket (p + 1) ≡ ticket p + 1
next-ticket p h = omega arith

pub next-ticket-over : (p : ℕ) → offset p ≡ 62 → (offset (p + 2) ≡ 0) × (ticket (p + 2) ≡ ticket p + 1)
next-ticket-over p h = omega arith

pub ticket_mono : (p q : ℕ) → p ≤ q → ticket p ≤ ticket q
ticket_mono p q h = omega arith

-- a slot's position and its ticket are on the same side of a mark
pub slot-before : (l s p : ℕ) → s < 63 → (64 * l + s < p) ↔ (63 * l + s < ticket p)
slot-before l s p h = (λ a. omega arith, λ a. omega arith)

pub lap-before : (l p : ℕ) → (64 * l + 63 ≤ p) ↔ (63 * l + 63 ≤ ticket p)
lap-before l p = (λ a. omega arith, λ a. omega arith)

-- moving an offset of 63 on leaves it below 63, and keeps the ticket
moved : (p : ℕ) → (offset (moved_on p) < 63) × (ticket (moved_on p) ≡ ticket p)
moved p = at (eqb (offset p) 63) refl
  where
    at : (b : Bool) → eqb (offset p) 63 ≡ b → (offset (moved_on p) < 63) × (ticket (moved_on p) ≡ ticket p)
    at true e = rw e (omega (arith, eqb-true (offset p) 63 e))
    at false e = rw e (omega (arith, eqb-false (offset p) 63 e))

-- of two positions that can hold a token, the length counts the tickets between
len-from : (t h : ℕ) → offset t < 63 → offset h < 63 → ticket h ≤ ticket t → len_from t h ≡ ticket t - ticket h
len-from t h a b c = omega arith

-- the length is the number of tickets from the head to the tail
pub len_tickets : (t h : ℕ) → h ≤ t → len t h ≡ ticket t - ticket h
unfolding len
len_tickets t h b =
    let m = moved t in
    let n = moved h in
    omega (arith, len-from (moved_on t) (moved_on h) m.0 n.0 (omega arith))

-- a claim within the block moves the ticket by as many
pub claimed-ticket : (h n : ℕ) (next : Bool) → offset (position h) + n ≤ 63 → ticket (position (claimed h n next)) ≡ ticket (position h) + n
claimed-ticket h n next b = rw (claimed-position h n next) (ticket_add (position h) n b)

-- from a block's end S8 passes over no ticket
pub left-ticket : (i : ℕ) (next : Bool) → offset (position i) ≡ 63 → ticket (position (left_lap i next)) ≡ ticket (position i)
left-ticket i next e = rw (left-position i next) (ticket-over (position i) e)
