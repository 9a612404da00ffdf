-- What holds of the shared state and the ghost alone. l is a lap, b a block, o a slot; slot o of lap l has ticket 63 l + o.
use Rattle.std.specs.Prelude.{ℕ, ◌+◌, ◌*◌, ◌%◌, ◌≤◌, ◌<◌, ◌≡◌, true, length, None, Some}
use Rattle.index.specs.Position.{position}
use Rattle.memory.specs.Layout.{state}
use Rattle.invariant.specs.Ghost.{Free, Held, Open, Back, some, lap_of, front}
use Rattle.invariant.specs.State.{State, lp, off, T, H, TB, HB, N, L, np, nc, W, R, D, tok, nxt, free, own}

pub record Shared (s : State) : Type 0 where
  -- the lent words are a pool's
  pub sized : length s.pool ≡ N s * 128
  -- the tail carries no flag and stays under the ceiling; the head is not past it; HAS_NEXT tells the truth
  pub even : T s % 2 ≡ 0
  pub ceiling : position (T s) ≤ L s * 64
  pub order : position (H s) ≤ position (T s)
  pub flag : H s % 2 ≡ 1 → lp (H s) < lp (T s)
  -- the ghost owner and the free mark agree; owned blocks are the pool's
  pub freed : (b : ℕ) → b < N s → own s b ≡ Free → free s b ≡ true
  pub taken : (b : ℕ) → b < N s → free s b ≡ true → own s b ≡ Free
  pub number : (b : ℕ) → (own s b ≡ Free → ⊥) → b < N s
  -- a lap from the head's to the tail's is served by its own block; a block on its way back served a lap before
  pub open_from : (b l : ℕ) → own s b ≡ Open l → lp (H s) ≤ l
  pub open_to : (b l : ℕ) → own s b ≡ Open l → l ≤ lp (T s)
  pub open_at : (b l : ℕ) → own s b ≡ Open l → s.ghost.chain l ≡ b
  pub back_to : (b l f i : ℕ) → own s b ≡ Back l f i → l < lp (H s)
  pub back_at : (b l f i : ℕ) → own s b ≡ Back l f i → s.ghost.chain l ≡ b
  pub live : (l : ℕ) → lp (H s) ≤ l → l ≤ lp (T s) → own s (s.ghost.chain l) ≡ Open l
  -- tail's and head's block
  pub tail-number : TB s < N s
  pub tail_at : off (T s) < 63 → TB s ≡ s.ghost.chain (lp (T s))
  pub head-number : HB s < N s
  pub head_at : off (H s) < 63 → HB s ≡ s.ghost.chain (lp (H s))
  -- every next is a pool's block; a held block is clean; a link leads to the next lap's block
  pub next-number : (b x : ℕ) → b < N s → nxt s b ≡ Some x → x < N s
  pub held_next : (b i : ℕ) → own s b ≡ Held i → nxt s b ≡ None
  pub held-clean : (b i o : ℕ) → own s b ≡ Held i → o < 63 → state s.pool b o ≡ 0
  pub next-lap : (b l x : ℕ) → lap_of (own s b) ≡ some l → nxt s b ≡ Some x → l < lp (T s)
  pub next-at : (b l x : ℕ) → lap_of (own s b) ≡ some l → nxt s b ≡ Some x → s.ghost.chain (l + 1) ≡ x
  -- a written slot's ticket was pushed, and its token is the one pushed
  pub written : (b l o : ℕ) → lap_of (own s b) ≡ some l → o < 63 → W s b o ≡ true → 63 * l + o < np s
  pub token : (b l o : ℕ) → lap_of (own s b) ≡ some l → o < 63 → W s b o ≡ true → tok s b o ≡ s.ghost.pushed (63 * l + o)
  -- a slot marked READ was written and its ticket claimed
  pub read-written : (b l o : ℕ) → lap_of (own s b) ≡ some l → o < 63 → R s b o ≡ true → W s b o ≡ true
  pub read-claimed : (b l o : ℕ) → lap_of (own s b) ≡ some l → o < 63 → R s b o ≡ true → 63 * l + o < nc s
  -- DESTROY stands only at or above the frontier's last slot; finished slots are written
  pub destroy_front : (b l o : ℕ) → lap_of (own s b) ≡ some l → o < 63 → D s b o ≡ true → front (own s b) ≤ o + 1
  pub destroy_below : (b l o : ℕ) → lap_of (own s b) ≡ some l → o < 63 → D s b o ≡ true → o + 1 < 63
  pub front-written : (b l o : ℕ) → lap_of (own s b) ≡ some l → o < 63 → front (own s b) ≤ o → W s b o ≡ true
