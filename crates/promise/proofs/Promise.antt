-- The promise of demand 3, first half.
use Rattle.std.specs.Prelude.{Ok}
use Prim.Native.Nat.{ℕ, ◌*◌, ◌%◌, ◌≤◌, ◌<◌}
use mathlib.Core.Path.{◌≡◌, sym, subst}
use mathlib.Core.Bool.{true}
use mathlib.Core.List.{List, [], ◌∷◌}
use native.Mathlib.Omega.{arith}
use native.Mathlib.Decide.{ℕ_discrete}
use lib.ListN.{length}
use borrow.Author.Tests.{eq-eqb, lt-ltb}
use Rattle.index.specs.Position.{position}
use Rattle.memory.specs.Pool.{pool_len}
use Rattle.ring.specs.declared.Flavor.{Flavor}
use Rattle.state.specs.List.{counts_good, setup_good}
use Rattle.state.specs.declared.Queue.{Queue}
use Rattle.machine.specs.Entry.{tested}
use Rattle.history.specs.Board.{Board, Ask, start, thread_at, asked}
use Rattle.history.specs.Log.{Note}
use Rattle.history.specs.History.{board, notes, asked_notes}
use Rattle.invariant.specs.State.{lp}
use Rattle.invariant.proofs.Facts.{two_blocks}
use Rattle.invariant.proofs.Good.{both, good}
use Rattle.promise.specs.Promise.{Bounded, Promise, Promised}
use Rattle.promise.proofs.Tally.{Tally, none_yet, fair_append, tallied_append}
use Rattle.promise.proofs.World.{state_of, Counts, World}
use Rattle.promise.proofs.Keeps.{Kept, keeps}
use Rattle.promise.proofs.Start.{start-world}
use Rattle.promise.proofs.Once.{at-most-once}

module _ (flavors : List Flavor) (blocks ceiling : ℕ) (counts : counts_good (length flavors) blocks ceiling ≡ true) where
  -- what a history leaves, from a fresh start
  after : (asks : List Ask)
      → Kept flavors blocks ceiling (board (start flavors blocks ceiling) asks) none_yet (notes (start flavors blocks ceiling) asks)
  after [] = record { fair = tt; world = start-world flavors blocks ceiling (two_blocks (length flavors) blocks ceiling counts) }
  after (ask ∷ before) =
      let w : Board = board (start flavors blocks ceiling) before in
      let p = after before in
      let k = keeps flavors blocks ceiling w _ ask p.world in
      record {
        fair = fair_append flavors none_yet (notes (start flavors blocks ceiling) before) (asked_notes w ask) p.fair k.fair;
        world =
            subst (λ (c : Tally). World flavors blocks ceiling (asked w ask) c)
            (sym (tallied_append none_yet (notes (start flavors blocks ceiling) before) (asked_notes w ask)))
            k.world;
      }

  setup-good : (q : Queue) (len : ℕ) → Counts (length flavors) blocks ceiling q → len ≡ q.blocks * 128 → setup_good q len ≡ true
  unfolding setup_good
  setup-good q len p e =
      let inside : counts_good q.threads q.blocks q.ceiling ≡ true = rw (p.same-threads, p.same_blocks, p.same-ceiling) counts in
      both inside (eq-eqb len (pool_len q.threads q.blocks) e)

  -- a head with HAS_NEXT is a lap behind the tail
  bounds : (w : Board) (c : Tally) → World flavors blocks ceiling w c → Bounded ceiling w
  bounds w c h =
      let same : w.queue.ceiling ≡ ceiling = h.counts.same-ceiling in
      let tail : position w.queue.tail.raw ≤ w.queue.ceiling * 64 = h.sound.shared.ceiling in
      let order : position w.queue.head.raw ≤ position w.queue.tail.raw = h.sound.shared.order in
      let even : w.queue.tail.raw % 2 ≡ 0 = h.sound.shared.even in
      record { tail = omega arith; head = omega arith; tail_index = omega arith; head_index = by_flag (ℕ_discrete (w.queue.head.raw % 2) 1) }
    where
      by_flag : Dec (w.queue.head.raw % 2 ≡ 1) → w.queue.head.raw ≤ 128 * ceiling
      by_flag (yes e) =
          let same : w.queue.ceiling ≡ ceiling = h.counts.same-ceiling in
          let tail : position w.queue.tail.raw ≤ w.queue.ceiling * 64 = h.sound.shared.ceiling in
          let behind : lp w.queue.head.raw < lp w.queue.tail.raw = h.sound.shared.flag e in
          omega arith
      by_flag (no n) =
          let same : w.queue.ceiling ≡ ceiling = h.counts.same-ceiling in
          let tail : position w.queue.tail.raw ≤ w.queue.ceiling * 64 = h.sound.shared.ceiling in
          let order : position w.queue.head.raw ≤ position w.queue.tail.raw = h.sound.shared.order in
          omega arith

  pub promise : (asks : List Ask)
      → Promise flavors ceiling (board (start flavors blocks ceiling) asks) (notes (start flavors blocks ceiling) asks)
  promise asks =
      let w : Board = board (start flavors blocks ceiling) asks in
      let k = after asks in
      let h = k.world in
      record {
        fair = k.fair;
        once = λ i. at-most-once flavors i none_yet (notes (start flavors blocks ceiling) asks) k.fair;
        setup = setup-good w.queue (length w.pool) h.counts h.sound.shared.sized;
        good = λ n. good (state_of w.queue w.pool h.ghost) n (thread_at w n) h.sound.shared (h.threads n).ok;
        bounded = bounds w _ h;
      }

pub promised : Promised
promised flavors blocks ceiling w counts fresh asks =
    subst (λ (x : Board). Promise flavors ceiling (board x asks) (notes x asks)) (sym fresh) (promise flavors blocks ceiling counts asks)

-- what its `setup` and `good` are for: an entry for one of the threads passes 1, 2 and 3
pub never_refused : (flavors : List Flavor) (ceiling : ℕ) (w : Board) (l : List Note) → Promise flavors ceiling w l
    → (n : ℕ) → n < w.queue.threads → tested w.queue w.pool (thread_at w n) n ≡ Ok tt
unfolding tested
never_refused flavors ceiling w l p n b = rw (p.setup, p.good n, lt-ltb n w.queue.threads b)
