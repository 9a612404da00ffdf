-- The lines of a thief that change neither the shared state nor the ghost: S1, S2, S3, S5, S6, S9.
use Rattle.std.specs.Prelude.{Option, None, Some}
use Prim.Native.Nat.{ℕ, ◌+◌, ◌%◌, ◌≤◌, ◌<◌}
use mathlib.Core.Path.{◌≡◌, refl, sym, ap, ◌∙◌}
use mathlib.Core.Bool.{Bool, true, false, not, ◌&&◌}
use mathlib.Core.List.{List}
use native.Mathlib.Omega.{arith}
use native.Mathlib.Nat.{le_refl}
use lib.Dec.{eqb, leb}
use borrow.Author.Tests.{eqb-true, eqb-false, leb-true, le-leb, not-true}
use Rattle.index.specs.Position.{position, has_next}
use Rattle.index.specs.Length.{to_block_end, batch_advance}
use Rattle.index.specs.Laws.{Inside, to-end-some, to-end-below, batch-some, batch-below}
use Rattle.index.specs.declared.Index.{Index}
use Rattle.state.specs.List.{room_good, within_limit}
use Rattle.state.specs.declared.Kind.{Kind}
use Rattle.state.specs.declared.Kind.TheVariants.{Batch, Take}
use Rattle.state.specs.declared.Claim.{Claim}
use Rattle.state.specs.declared.StealLine.TheVariants.{S1, S2, S3, S4, S5, S6, S7, S9, S10}
use Rattle.state.specs.declared.Call.TheVariants.{Steal}
use Rattle.state.specs.declared.Answer.TheVariants.{Empty}
use Rattle.machine.specs.Steal.{s1, s2, s3, s5, s5_next, s6, some, s9, end_advance, advance_of, claim_of}
use Rattle.invariant.specs.Ghost.{lap_of}
use Rattle.invariant.specs.State.{State, lp, off, T, H, HB, W, nxt, own}
use Rattle.invariant.specs.Shared.{Shared}
use Rattle.invariant.specs.Lines.{Room, AtHead, S2Ok, S3Ok, S4Ok, S6Ok, StealOk}
use Rattle.invariant.specs.Kept.{Kept}
use Rattle.invariant.proofs.Facts.{cond_elim, cond_same, clash, and_left}
use Rattle.invariant.proofs.Local.{goes_on, stops}

pub s1-kept : (s : State) (i count : ℕ) (taken : List ℕ) (k : Kind) → Shared s → StealOk s i count taken (S1 k)
    → Kept s i count taken (s1 s.queue k)
s1-kept s i count taken k h p =
    goes_on s i count taken (Steal (S2 k s.queue.head)) h
    (record { room = p; seen = le_refl _; flag = h.flag })

-- ---- the advance

-- what S4 asks of an advance from index h, with the tail where it is
record Advance (s : State) (k : Kind) (h a : ℕ) : Type 0 where
  limit : within_limit k a ≡ true
  some-slot : 1 ≤ a
  within : off h + a ≤ 63
  end : position h + a ≤ position (T s)

one_advance : (s : State) (h : ℕ) → off h < 63 → position h < position (T s) → Advance s Rattle.state.specs.declared.Kind.TheVariants.Steal h 1
one_advance s h slot b = record { limit = refl; some-slot = omega arith; within = omega arith; end = omega arith }

-- a batch of either kind begins with a limit of at least 1
open_limit : (limit : ℕ) (room : Bool) → (leb 1 limit && room) ≡ true → 1 ≤ limit
open_limit limit room e = leb-true 1 limit (and_left (leb 1 limit) room e)

inside : (s : State) (k : Kind) (limit h a : ℕ) → (leb a limit ≡ true → within_limit k a ≡ true) → Inside (position h) limit a
    → position h + a ≤ position (T s) → Advance s k h a
inside s k limit h a same n end =
    record { limit = same (le-leb a limit n.few); some-slot = n.some; within = n.fits; end = end }

-- a tail that is laps ahead leaves the block's end below it
end_advance_lem : (s : State) (k : Kind) (count : ℕ) (h : Index) → Room k count → off h.raw < 63 → lp h.raw < lp (T s)
    → Advance s k h.raw (end_advance k h)
end_advance_lem s Rattle.state.specs.declared.Kind.TheVariants.Steal count h room slot l =
    one_advance s h.raw slot (omega arith)
end_advance_lem s (Batch limit) count h room slot l =
    inside s (Batch limit) limit h.raw (to_block_end (position h.raw) limit) (λ e. e)
    (to-end-some (position h.raw) limit slot (open_limit limit (room_good (Batch limit) count) room))
    (to-end-below (position h.raw) (position (T s)) limit l)
end_advance_lem s (Take limit) count h room slot l =
    inside s (Take limit) limit h.raw (to_block_end (position h.raw) limit) (λ e. e)
    (to-end-some (position h.raw) limit slot (open_limit limit (room_good (Take limit) count) room))
    (to-end-below (position h.raw) (position (T s)) limit l)

tail_advance : (s : State) (k : Kind) (count : ℕ) (h : Index) → Room k count → off h.raw < 63 → has_next h.raw ≡ false
    → position h.raw < position (T s) → Advance s k h.raw (advance_of k h s.queue.tail)
tail_advance s Rattle.state.specs.declared.Kind.TheVariants.Steal count h room slot plain b =
    one_advance s h.raw slot b
tail_advance s (Batch limit) count h room slot plain b =
    inside s (Batch limit) limit h.raw (batch_advance h.raw (T s) limit) (λ e. e)
    (batch-some h.raw (T s) limit b slot (open_limit limit (room_good (Batch limit) count) room))
    (batch-below h.raw (T s) limit b plain)
tail_advance s (Take limit) count h room slot plain b =
    inside s (Take limit) limit h.raw (batch_advance h.raw (T s) limit) (λ e. e)
    (batch-some h.raw (T s) limit b slot (open_limit limit (room_good (Take limit) count) room))
    (batch-below h.raw (T s) limit b plain)

-- ---- S2

-- an offset that is not 63 is that of a slot
slot_of : (h : ℕ) → eqb (off h) 63 ≡ false → off h < 63
slot_of h e = let n = eqb-false (off h) 63 e in omega arith

claim_ready : (s : State) (k : Kind) (count h b a : ℕ) (more : Bool) → Room k count → AtHead s h b → off h < 63 → Advance s k h a
    → (more ≡ true → lp h < lp (T s)) → S4Ok s k count h b a more
claim_ready s k count h b a more room at slot n flag =
    record {
      room = room;
      limit = n.limit;
      at = at;
      slot = slot;
      some-slot = n.some-slot;
      within = n.within;
      end = n.end;
      flag = flag;
    }

-- the block was loaded at this very step
at_head : (s : State) (h : ℕ) → Shared s → h ≤ H s → AtHead s h (HB s)
at_head s h k p = record { seen = p; number = k.head-number; same = λ e. refl }

s2-to-s4 : (s : State) (k : Kind) (count : ℕ) (h : Index) → Shared s → S2Ok s k count h.raw → off h.raw < 63 → has_next h.raw ≡ true
    → S4Ok s k count h.raw (HB s) (end_advance k h) true
s2-to-s4 s k count h sh p slot e =
    let l : lp h.raw < lp (T s) = p.flag (eqb-true (h.raw % 2) 1 e) in
    claim_ready s k count h.raw (HB s) (end_advance k h) true p.room (at_head s h.raw sh p.seen) slot
    (end_advance_lem s k count h p.room slot l)
    (λ q. l)

pub s2-kept : (s : State) (i count : ℕ) (taken : List ℕ) (k : Kind) (h : Index) → Shared s → StealOk s i count taken (S2 k h)
    → Kept s i count taken (s2 s.queue k h)
unfolding s2
s2-kept s i count taken k h sh p =
    cond_elim (Kept s i count taken) (eqb (off h.raw) 63) _ _
    (λ e. goes_on s i count taken (Steal (S1 k)) sh p.room)
    (λ e.
    cond_elim (Kept s i count taken) (has_next h.raw) _ _
    (λ f.
    goes_on s i count taken (Steal (S4 k (claim_of h (HB s) (end_advance k h)) true)) sh
    (s2-to-s4 s k count h sh p (slot_of h.raw e) f))
    (λ f.
    goes_on s i count taken (Steal (S3 k h (HB s))) sh
    (record { room = p.room; at = at_head s h.raw sh p.seen; slot = slot_of h.raw e; plain = f })))

-- ---- S3

s3-to-s4 : (s : State) (k : Kind) (count : ℕ) (h : Index) (b : ℕ) → Shared s → S3Ok s k count h.raw b
    → eqb (position h.raw) (position (T s)) ≡ false
    → S4Ok s k count h.raw b (advance_of k h s.queue.tail) (not (eqb (lp h.raw) (lp (T s))))
s3-to-s4 s k count h b sh p e =
    let seen : h.raw ≤ H s = p.at.seen in
    let order : position (H s) ≤ position (T s) = sh.order in
    let other = eqb-false (position h.raw) (position (T s)) e in
    claim_ready s k count h.raw b (advance_of k h s.queue.tail) (not (eqb (lp h.raw) (lp (T s)))) p.room p.at
    p.slot
    (tail_advance s k count h p.room p.slot p.plain (omega arith))
    (λ q. let laps = eqb-false (lp h.raw) (lp (T s)) (not-true (eqb (lp h.raw) (lp (T s))) q) in omega arith)

pub s3-kept : (s : State) (i count : ℕ) (taken : List ℕ) (k : Kind) (h : Index) (b : ℕ) → Shared s → StealOk s i count taken (S3 k h b)
    → Kept s i count taken (s3 s.queue k h b)
unfolding s3
s3-kept s i count taken k h b sh p =
    cond_elim (Kept s i count taken) (eqb (position h.raw) (position (T s))) _ _
    (λ e. stops s i count taken Empty sh)
    (λ e.
    goes_on s i count taken
    (Steal (S4 k (claim_of h b (advance_of k h s.queue.tail)) (not (eqb (lp h.raw) (lp (T s))))))
    sh
    (s3-to-s4 s k count h b sh p e))

-- ---- S5, S6

-- by what the block's next is
s5-by : (s : State) (i count : ℕ) (taken : List ℕ) (k : Kind) (c : Claim) → Shared s → StealOk s i count taken (S5 k c)
    → (n : Option ℕ) → nxt s c.block ≡ n → Kept s i count taken (s5_next s.queue k c n)
s5-by s i count taken k c h p None e = goes_on s i count taken (Steal (S5 k c)) h p
s5-by s i count taken k c h p (Some x) e =
    goes_on s i count taken (Steal (S6 k c x)) h
    (record {
      leaves = p;
      lap = h.next-lap c.block (lp c.head.raw) x p.claims.serves e;
      chain = h.next-at c.block (lp c.head.raw) x p.claims.serves e;
    })

pub s5-kept : (s : State) (i count : ℕ) (taken : List ℕ) (k : Kind) (c : Claim) → Shared s → StealOk s i count taken (S5 k c)
    → Kept s i count taken (s5 s.queue s.pool k c)
unfolding s5
s5-kept s i count taken k c h p = s5-by s i count taken k c h p (nxt s c.block) refl

-- the next block is open too, since the head is still in the lap before
pub next_open : (s : State) (i : ℕ) (k : Kind) (count h b a x : ℕ) → Shared s → S6Ok s i k count h b a x
    → lap_of (own s x) ≡ Rattle.invariant.specs.Ghost.some (lp h + 1)
next_open s i k count h b a x sh p =
    let ended : off h + a ≡ 63 = p.leaves.ended in
    let head : position (H s) ≡ position h + a = p.leaves.head in
    let l : lp h < lp (T s) = p.lap in
    ap (λ (y : ℕ). lap_of (own s y)) (sym p.chain) ∙ ap lap_of (sh.live (lp h + 1) (omega arith) (omega arith))

s6-more : (s : State) (i : ℕ) (k : Kind) (count h b a x : ℕ) → Shared s → S6Ok s i k count h b a x
    → (n : Option ℕ) → nxt s x ≡ n → some n ≡ true → lp h + 2 ≤ lp (T s)
s6-more s i k count h b a x sh p None e q = clash false q refl
s6-more s i k count h b a x sh p (Some y) e q =
    let l : lp h + 1 < lp (T s) = sh.next-lap x (lp h + 1) y (next_open s i k count h b a x sh p) e in
    omega arith

pub s6-kept : (s : State) (i count : ℕ) (taken : List ℕ) (k : Kind) (c : Claim) (x : ℕ) → Shared s → StealOk s i count taken (S6 k c x)
    → Kept s i count taken (s6 s.queue s.pool k c x)
s6-kept s i count taken k c x h p =
    goes_on s i count taken (Steal (S7 k c x (some (nxt s x)))) h
    (record { at = p; more-laps = s6-more s i k count c.head.raw c.block c.advance x h p (nxt s x) refl })

-- ---- S9

pub s9-kept : (s : State) (i count : ℕ) (taken : List ℕ) (k : Kind) (c : Claim) (slot : ℕ) → Shared s → StealOk s i count taken (S9 k c slot)
    → Kept s i count taken (s9 s.queue s.pool k c slot)
unfolding s9
s9-kept s i count taken k c slot h p =
    cond_elim (Kept s i count taken) (W s c.block slot) _ _
    (λ e. goes_on s i count taken (Steal (S10 k c slot)) h (record { at = p; written = e }))
    (λ e. goes_on s i count taken (Steal (S9 k c slot)) h p)

-- ---- the ghost that is chosen is the old one

module _ (s : State) (i count : ℕ) (taken : List ℕ) (k : Kind) (h : Shared s) where
  pub s1-ghost : (p : StealOk s i count taken (S1 k)) → (s1-kept s i count taken k h p).ghost ≡ s.ghost
  unfolding s1-kept goes_on
  s1-ghost p = refl

  pub s2-ghost : (u : Index) (p : StealOk s i count taken (S2 k u)) → (s2-kept s i count taken k u h p).ghost ≡ s.ghost
  unfolding s2 s2-kept goes_on
  s2-ghost u p =
      cond_same (Kept s i count taken) (λ m k. k.ghost) (eqb (off u.raw) 63) _ _ _ _ s.ghost (λ e. refl)
      (λ e. cond_same (Kept s i count taken) (λ m k. k.ghost) (has_next u.raw) _ _ _ _ s.ghost (λ f. refl) (λ f. refl))

  pub s3-ghost : (u : Index) (b : ℕ) (p : StealOk s i count taken (S3 k u b)) → (s3-kept s i count taken k u b h p).ghost ≡ s.ghost
  unfolding s3 s3-kept goes_on stops
  s3-ghost u b p =
      cond_same (Kept s i count taken) (λ m k. k.ghost) (eqb (position u.raw) (position (T s))) _ _ _ _ s.ghost
      (λ e. refl)
      (λ e. refl)

  s5-by-ghost : (c : Claim) (p : StealOk s i count taken (S5 k c)) (n : Option ℕ) (e : nxt s c.block ≡ n)
      → (s5-by s i count taken k c h p n e).ghost ≡ s.ghost
  unfolding s5-by goes_on
  s5-by-ghost c p None e = refl
  s5-by-ghost c p (Some x) e = refl

  pub s5-ghost : (c : Claim) (p : StealOk s i count taken (S5 k c)) → (s5-kept s i count taken k c h p).ghost ≡ s.ghost
  unfolding s5 s5-kept
  s5-ghost c p = s5-by-ghost c p (nxt s c.block) refl

  pub s6-ghost : (c : Claim) (x : ℕ) (p : StealOk s i count taken (S6 k c x)) → (s6-kept s i count taken k c x h p).ghost ≡ s.ghost
  unfolding s6-kept goes_on
  s6-ghost c x p = refl

  pub s9-ghost : (c : Claim) (slot : ℕ) (p : StealOk s i count taken (S9 k c slot)) → (s9-kept s i count taken k c slot h p).ghost ≡ s.ghost
  unfolding s9 s9-kept goes_on
  s9-ghost c slot p =
      cond_same (Kept s i count taken) (λ m k. k.ghost) (W s c.block slot) _ _ _ _ s.ghost (λ e. refl) (λ e. refl)
