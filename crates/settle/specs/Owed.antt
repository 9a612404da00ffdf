-- What is missing is owed by a thread that is still open.
use Rattle.std.specs.Prelude.{ℕ, ◌+◌, ◌*◌, ◌-◌, ◌≤◌, ◌<◌, ◌≡◌, true, false, None}
use Rattle.state.specs.declared.Call.{Call}
use Rattle.invariant.specs.Ghost.{some, Held, Back, lap_of, front}
use Rattle.invariant.specs.State.{State, off, T, H, np, nc, W, R, nxt, own}
use Rattle.settle.specs.Views.{holds, owes, links, installs, leaves, Reads, Carries}

-- a tail that waits at offset 63 has its installer, and a head its mover
abbrev pub InstallerOwed : State → (ℕ → Call) → Type 0
InstallerOwed s calls = off (T s) ≡ 63 → installs (calls (s.ghost.pusher (np s - 1))) ≡ true

abbrev pub MoverOwed : State → (ℕ → Call) → Type 0
MoverOwed s calls = off (H s) ≡ 63 → leaves (calls (s.ghost.claimer (nc s - 1))) ≡ true

-- no block leaks with a push
abbrev pub HeldOwed : State → (ℕ → Call) → Type 0
HeldOwed s calls = (b j : ℕ) → own s b ≡ Held j → holds (calls j) ≡ some b

-- a pushed slot is written or its push is open; a block's link is there or its push is at P5 to P7
abbrev pub WriteOwed : State → (ℕ → Call) → Type 0
WriteOwed s calls =
    (b l o : ℕ) → lap_of (own s b) ≡ some l → o < 63 → 63 * l + o < np s → W s b o ≡ false
    → owes (calls (s.ghost.pusher (63 * l + o))) ≡ some (63 * l + o)

abbrev pub LinkOwed : State → (ℕ → Call) → Type 0
LinkOwed s calls =
    (b l : ℕ) → lap_of (own s b) ≡ some l → nxt s b ≡ None → 63 * l + 63 ≤ np s
    → links (calls (s.ghost.pusher (63 * l + 62))) ≡ some (63 * l + 62)

-- a claimed slot below the frontier is marked or its thief still reads
abbrev pub ReadOwed : State → (ℕ → Call) → Type 0
ReadOwed s calls =
    (b l o : ℕ) → lap_of (own s b) ≡ some l → o < 63 → o < front (own s b) → 63 * l + o < nc s → R s b o ≡ false
    → Reads (calls (s.ghost.claimer (63 * l + o))) (63 * l + o)

-- every block on its way back has a thread that carries it on
abbrev pub BackOwed : State → (ℕ → Call) → Type 0
BackOwed s calls = (b l f j : ℕ) → own s b ≡ Back l f j → Carries s (calls j) b l f

pub record Owed (s : State) (calls : ℕ → Call) : Type 0 where
  pub installer : InstallerOwed s calls
  pub mover : MoverOwed s calls
  pub held : HeldOwed s calls
  pub write : WriteOwed s calls
  pub link : LinkOwed s calls
  pub read : ReadOwed s calls
  pub back : BackOwed s calls
