-- What a step of one thread leaves true for every other thread j: all that j's line can lean on.
use Rattle.std.specs.Prelude.{ℕ, ◌+◌, ◌*◌, ◌-◌, ◌≤◌, ◌<◌, ◌≡◌, true, false}
use Rattle.invariant.specs.Ghost.{Held, some, lap_of, front, resp}
use Rattle.invariant.specs.State.{State, lp, off, T, H, TB, HB, N, L, np, nc, W, R, D, tok, own}

pub record Rely (j : ℕ) (s s' : State) : Type 0 where
  -- the counts stay; tail and head only grow
  pub blocks : N s' ≡ N s
  pub ceiling : L s' ≡ L s
  pub tail : T s ≤ T s'
  pub head : H s ≤ H s'
  -- while the index stays, its block does, unless the index waits at offset 63
  pub tail-block : T s' ≡ T s → off (T s) < 63 → TB s' ≡ TB s
  pub head-block : H s' ≡ H s → off (H s) < 63 → HB s' ≡ HB s
  -- a tail that waits for j, and a head that waits for j, wait on
  pub installing : off (T s) ≡ 63 → s.ghost.pusher (np s - 1) ≡ j → (T s' ≡ T s) × (TB s' ≡ TB s)
  pub leaving : off (H s) ≡ 63 → s.ghost.claimer (nc s - 1) ≡ j → (H s' ≡ H s) × (HB s' ≡ HB s)
  -- the logs are written at their end
  pub pushed : (k : ℕ) → k < np s → s'.ghost.pushed k ≡ s.ghost.pushed k
  pub pusher : (k : ℕ) → k < np s → s'.ghost.pusher k ≡ s.ghost.pusher k
  pub claimer : (k : ℕ) → k < nc s → s'.ghost.claimer k ≡ s.ghost.claimer k
  pub chain : (l : ℕ) → l ≤ lp (T s) → s'.ghost.chain l ≡ s.ghost.chain l
  pub first : s'.ghost.first j ≡ s.ghost.first j
  -- j's held blocks, and the blocks whose walk j carries on
  pub held : (b : ℕ) → own s b ≡ Held j → own s' b ≡ Held j
  pub walk : (b : ℕ) → resp (own s b) ≡ some j → own s' b ≡ own s b
  -- a slot that j pushed and has not written: its block serves on, it stays unwritten, its token is j's alone
  pub owed-serves : (b l o : ℕ) → lap_of (own s b) ≡ some l → o < 63 → 63 * l + o < np s → s.ghost.pusher (63 * l + o) ≡ j → W s b o ≡ false → lap_of (own s' b) ≡ some l
  pub owed-unwritten : (b l o : ℕ) → lap_of (own s b) ≡ some l → o < 63 → 63 * l + o < np s → s.ghost.pusher (63 * l + o) ≡ j → W s b o ≡ false → W s' b o ≡ false
  pub owed-token : (b l o : ℕ) → lap_of (own s b) ≡ some l → o < 63 → 63 * l + o < np s → s.ghost.pusher (63 * l + o) ≡ j → W s b o ≡ false → tok s' b o ≡ tok s b o
  -- a claim of j's, by its top slot o
  pub claim : (b l o : ℕ) → lap_of (own s b) ≡ some l → o < 63 → 63 * l + o < nc s → s.ghost.claimer (63 * l + o) ≡ j
      → o + 1 ≤ front (own s b) → R s b o ≡ false → (D s b o ≡ true → resp (own s b) ≡ some j)
      → (lap_of (own s' b) ≡ some l) × (o + 1 ≤ front (own s' b)) × (R s' b o ≡ false) × (D s' b o ≡ true → resp (own s' b) ≡ some j)
  -- what is written in a serving block stays written
  pub wrote : (b l o : ℕ) → lap_of (own s b) ≡ some l → o < 63 → W s b o ≡ true → W s' b o ≡ true
