-- What the entries' tests tell: of a state that passed them, and of the line at which a good record stands.
use Rattle.std.specs.Prelude.{ℕ, ◌*◌, ◌≤◌, ◌<◌, ◌≡◌, refl, Bool, true, false, cond, ◌&&◌, List, length, ltb, leb, eqb, Ok, Err}
use Rattle.std.proofs.Common.{arith}
use borrow.Author.Tests.{ltb-true, leb-true}
use Rattle.index.specs.Position.{position}
use Rattle.memory.specs.Pool.{pool_len}
use Rattle.state.specs.List.{block_good, counts_good, setup_good, shared_good, nexts_good, call_good, record_good, state_good, push_good, steal_good}
use Rattle.state.specs.ListLaws.{both}
use Rattle.state.specs.declared.Queue.{Queue}
use Rattle.state.specs.declared.Thread.{Thread}
use Rattle.state.specs.declared.PushLine.{PushLine}
use Rattle.state.specs.declared.StealLine.{StealLine}
use Rattle.state.specs.declared.Call.TheVariants.{Push, Steal}
use Rattle.state.specs.declared.Refusal.TheVariants.{BadSetup, BadState, NoThread}
use Rattle.machine.specs.Entry.{tested}

-- the three tests that every entry makes first
pub record Passed (q : Queue) (m : List ℕ) (t : Thread) (n : ℕ) : Type 0 where
  pub setup : setup_good q (length m) ≡ true
  pub state : state_good q m t ≡ true
  pub number : n < q.threads

all_pass : (a b d : Bool) → cond a (cond b (cond d (Ok (tt {0})) (Err NoThread)) (Err BadState)) (Err BadSetup) ≡ Ok tt → (a ≡ true) × ((b ≡ true) × (d ≡ true))
all_pass true true true e = (refl, (refl, refl))
all_pass true true false e = cc
all_pass true false d e = cc
all_pass false b d e = cc

pub passed : (q : Queue) (m : List ℕ) (t : Thread) (n : ℕ) → tested q m t n ≡ Ok tt → Passed q m t n
unfolding tested
passed q m t n e =
    let p = all_pass (setup_good q (length m)) (state_good q m t) (ltb n q.threads) e in
    record { setup = p.0; state = p.1.0; number = ltb-true n q.threads p.1.1 }

module _ (q : Queue) (m : List ℕ) (t : Thread) where
  pub good-shared : state_good q m t ≡ true → shared_good q ≡ true
  good-shared e =
      (both (shared_good q) (nexts_good m q.blocks q.blocks)
      (both (shared_good q && nexts_good m q.blocks q.blocks) (record_good q t) e).0
      ).0

  pub good_record : state_good q m t ≡ true → record_good q t ≡ true
  good_record e = (both (shared_good q && nexts_good m q.blocks q.blocks) (record_good q t) e).1

-- the pool size and the ceiling are within their ranges
pub record Counted (q : Queue) : Type 0 where
  pub blocks : 2 ≤ q.blocks
  pub few : q.blocks ≤ 32
  pub ceiling : q.ceiling ≤ 4294967295

pub counted : (q : Queue) (len : ℕ) → setup_good q len ≡ true → Counted q
unfolding setup_good
counted q len e =
    let threads = leb 1 q.threads && leb q.threads 8 in
    let s = (both (counts_good q.threads q.blocks q.ceiling) (eqb len (pool_len q.threads q.blocks)) e).0 in
    let s4 = both (threads && leb 2 q.blocks && leb q.blocks 32 && leb 1 q.ceiling) (leb q.ceiling 4294967295) s in
    let s3 = both (threads && leb 2 q.blocks && leb q.blocks 32) (leb 1 q.ceiling) s4.0 in
    let s2 = both (threads && leb 2 q.blocks) (leb q.blocks 32) s3.0 in
    let s1 = both threads (leb 2 q.blocks) s2.0 in
    record {
      blocks = leb-true 2 q.blocks s1.1;
      few = leb-true q.blocks 32 s2.1;
      ceiling = leb-true q.ceiling 4294967295 s4.1;
    }

-- no sum of a line wraps: the tail is not past the last lap
pub good-tail : (q : Queue) (len : ℕ) → setup_good q len ≡ true → shared_good q ≡ true → position q.tail.raw ≤ 4294967295 * 64
unfolding shared_good
good-tail q len setup shared =
    let blocks = block_good q q.head_block && block_good q q.tail_block in
    let low = leb (position q.tail.raw) (q.ceiling * 64) in
    let s = (both (blocks && low) (leb (position q.head.raw) (position q.tail.raw)) shared).0 in
    let below = leb-true (position q.tail.raw) (q.ceiling * 64) (both blocks low s).1 in
    let c = counted q len setup in
    omega arith

-- the ring and the line of a good record
module _ (q : Queue) (t : Thread) where
  pub good_ring : record_good q t ≡ true → t.ring.count ≤ 64
  unfolding record_good
  good_ring e = leb-true t.ring.count 64 (both (leb t.ring.count 64) (call_good q t.ring.count t.call) e).0

  good-call : record_good q t ≡ true → call_good q t.ring.count t.call ≡ true
  unfolding record_good
  good-call e = (both (leb t.ring.count 64) (call_good q t.ring.count t.call) e).1

  pub good-push : (line : PushLine) → record_good q t ≡ true → t.call ≡ Push line → push_good q line ≡ true
  good-push line e h = rw h at (good-call e)

  pub good-steal : (line : StealLine) → record_good q t ≡ true → t.call ≡ Steal line → steal_good q t.ring.count line ≡ true
  good-steal line e h = rw h at (good-call e)
