-- What holds of a thread at each line of the step table. t and h are raw indices; i is the thread.
use Rattle.std.specs.Prelude.{ℕ, ◌+◌, ◌-◌, ◌%◌, ◌≤◌, ◌<◌, ◌≡◌, Bool, true, false, List, length, get_or, Option, None, Some}
use Rattle.index.specs.Position.{position, has_next}
use Rattle.state.specs.List.{open_good, within_limit}
use Rattle.state.specs.declared.Kind.{Kind}
use Rattle.state.specs.declared.Won.{Won}
use Rattle.state.specs.declared.Won.TheVariants.{Task, Moved}
use Rattle.state.specs.declared.PushLine.{PushLine}
use Rattle.state.specs.declared.PushLine.TheVariants.{P1, P2, P3, P4, P5, P6, P7, P8, P9, P10}
use Rattle.state.specs.declared.StealLine.{StealLine}
use Rattle.state.specs.declared.StealLine.TheVariants.{S1, S2, S3, S4, S5, S6, S7, S8, S9, S10, S11, S12, S13, S14}
use Rattle.state.specs.declared.LengthLine.{LengthLine}
use Rattle.state.specs.declared.LengthLine.TheVariants.{L1, L2, L3}
use Rattle.state.specs.declared.EmptyLine.{EmptyLine}
use Rattle.state.specs.declared.EmptyLine.TheVariants.{E1, E2}
use Rattle.state.specs.declared.Call.{Call}
use Rattle.state.specs.declared.Call.TheVariants.{Idle, Push, Steal, Length, Empty}
use Rattle.state.specs.declared.Thread.{Thread}
use Rattle.invariant.specs.Ghost.{Held, Back, some, lap_of, front, resp}
use Rattle.invariant.specs.State.{State, lp, off, tk, T, H, TB, HB, N, L, np, nc, W, R, D, tok, own}

-- a push holds a block
abbrev pub HeldOk : State → ℕ → Option ℕ → Type 0
HeldOk s i None = Unit
HeldOk s i (Some x) = own s x ≡ Held i

abbrev pub Has : Option ℕ → Type 0
Has None = ⊥
Has (Some x) = Unit

-- a loaded index and block that a compare may still find unchanged
pub record AtTail (s : State) (t b : ℕ) : Type 0 where
  pub seen : t ≤ T s
  pub number : b < N s
  pub same : t ≡ T s → b ≡ TB s

pub record AtHead (s : State) (h b : ℕ) : Type 0 where
  pub seen : h ≤ H s
  pub number : b < N s
  pub same : h ≡ H s → b ≡ HB s

-- the push has its ticket, and its slot is still to be written
pub record Owes (s : State) (i v t b : ℕ) : Type 0 where
  pub slot : off t < 63
  pub below : tk t < np s
  pub pusher : s.ghost.pusher (tk t) ≡ i
  pub pushed : s.ghost.pushed (tk t) ≡ v
  pub serves : lap_of (own s b) ≡ some (lp t)
  pub unwritten : W s b (off t) ≡ false

pub record P3Ok (s : State) (t b : ℕ) : Type 0 where
  pub at : AtTail s t b
  pub last : off t ≡ 62
  pub lap : lp t < L s

pub record P4Ok (s : State) (i t b : ℕ) (held : Option ℕ) : Type 0 where
  pub holds : HeldOk s i held
  pub at : AtTail s t b
  pub slot : off t < 63
  pub last : off t ≡ 62 → Has held
  pub lap : lp t < L s

-- at P5 and P6 the push has ended the lap, and the tail waits at offset 63
pub record Installs (s : State) (i v t b x : ℕ) : Type 0 where
  pub owes : Owes s i v t b
  pub last : off t ≡ 62
  pub holds : own s x ≡ Held i
  pub tail : T s ≡ t + 2
  pub lap : lp t < L s

pub record P6Ok (s : State) (i v t b x : ℕ) : Type 0 where
  pub installs : Installs s i v t b x
  pub block : TB s ≡ x

pub record P7Ok (s : State) (i v t b x : ℕ) : Type 0 where
  pub owes : Owes s i v t b
  pub last : off t ≡ 62
  pub lap : lp t < lp (T s)
  pub chain : s.ghost.chain (lp t + 1) ≡ x
  pub number : x < N s

pub record P8Ok (s : State) (i v t b : ℕ) (held : Option ℕ) : Type 0 where
  pub owes : Owes s i v t b
  pub holds : HeldOk s i held

pub record P9Ok (s : State) (i v t b : ℕ) (held : Option ℕ) : Type 0 where
  pub owes : Owes s i v t b
  pub holds : HeldOk s i held
  pub token : tok s b (off t) ≡ v

pub record P2Ok (s : State) (i t : ℕ) (held : Option ℕ) : Type 0 where
  pub holds : HeldOk s i held
  pub seen : t ≤ T s

abbrev pub PushOk : State → ℕ → PushLine → Type 0
PushOk s i (P1 v held) = HeldOk s i held
PushOk s i (P2 v t held) = P2Ok s i t.raw held
PushOk s i (P3 v t b) = P3Ok s t.raw b
PushOk s i (P4 v t b held) = P4Ok s i t.raw b held
PushOk s i (P5 v t b x) = Installs s i v t.raw b x
PushOk s i (P6 v t b x) = P6Ok s i v t.raw b x
PushOk s i (P7 v t b x) = P7Ok s i v t.raw b x
PushOk s i (P8 v t b held) = P8Ok s i v t.raw b held
PushOk s i (P9 v t b held) = P9Ok s i v t.raw b held
PushOk s i (P10 x spent) = own s x ≡ Held i

-- the thief has claimed `a` slots from h on, and has marks to make: e is the slot past its last
pub record Claims (s : State) (i h b a : ℕ) : Type 0 where
  pub some-slot : 1 ≤ a
  pub within : off h + a ≤ 63
  pub below : tk h + a ≤ nc s
  pub claimer : (k : ℕ) → tk h ≤ k → k < tk h + a → s.ghost.claimer k ≡ i
  pub first : s.ghost.first i ≡ tk h
  pub serves : lap_of (own s b) ≡ some (lp h)
  pub front : off h + a ≤ front (own s b)
  pub unread : R s b (off h + a - 1) ≡ false
  pub mine : D s b (off h + a - 1) ≡ true → resp (own s b) ≡ some i

-- the slots from p up to r are written
abbrev pub Wrote : State → ℕ → ℕ → ℕ → Type 0
Wrote s b p r = (o : ℕ) → p ≤ o → o < r → W s b o ≡ true

-- the first n tokens read are those of the tickets from k on
abbrev pub Tokens : State → ℕ → ℕ → List ℕ → Type 0
Tokens s k n taken = (j : ℕ) → j < n → get_or taken j 0 ≡ s.ghost.pushed (k + j)

-- before its tokens are handed over a call keeps begin's limit and room: count tokens stand in the ring
abbrev pub Room : Kind → ℕ → Type 0
Room k count = open_good k count ≡ true

pub record S2Ok (s : State) (k : Kind) (count h : ℕ) : Type 0 where
  pub room : Room k count
  pub seen : h ≤ H s
  pub flag : h % 2 ≡ 1 → lp h < lp (T s)

pub record S3Ok (s : State) (k : Kind) (count h b : ℕ) : Type 0 where
  pub room : Room k count
  pub at : AtHead s h b
  pub slot : off h < 63
  -- a head with HAS_NEXT skips S3, and S3's advance leans on that
  pub plain : has_next h ≡ false

pub record S4Ok (s : State) (k : Kind) (count h b a : ℕ) (more : Bool) : Type 0 where
  pub room : Room k count
  pub limit : within_limit k a ≡ true
  pub at : AtHead s h b
  pub slot : off h < 63
  pub some-slot : 1 ≤ a
  pub within : off h + a ≤ 63
  pub end : position h + a ≤ position (T s)
  pub flag : more ≡ true → lp h < lp (T s)

-- at S5 to S8 the thief has ended the block, and the head waits at offset 63
pub record Leaves (s : State) (i : ℕ) (k : Kind) (count h b a : ℕ) : Type 0 where
  pub room : Room k count
  pub limit : within_limit k a ≡ true
  pub claims : Claims s i h b a
  pub ended : off h + a ≡ 63
  pub head : position (H s) ≡ position h + a

pub record S6Ok (s : State) (i : ℕ) (k : Kind) (count h b a x : ℕ) : Type 0 where
  pub leaves : Leaves s i k count h b a
  pub lap : lp h < lp (T s)
  pub chain : s.ghost.chain (lp h + 1) ≡ x

pub record S7Ok (s : State) (i : ℕ) (k : Kind) (count h b a x : ℕ) (more : Bool) : Type 0 where
  pub at : S6Ok s i k count h b a x
  pub more-laps : more ≡ true → lp h + 2 ≤ lp (T s)

pub record S8Ok (s : State) (i : ℕ) (k : Kind) (count h b a : ℕ) (more : Bool) : Type 0 where
  pub leaves : Leaves s i k count h b a
  pub lap : lp h < lp (T s)
  pub block : s.ghost.chain (lp h + 1) ≡ HB s
  pub more-laps : more ≡ true → lp h + 2 ≤ lp (T s)

pub record S9Ok (s : State) (i : ℕ) (k : Kind) (count : ℕ) (taken : List ℕ) (h b a r : ℕ) : Type 0 where
  pub room : Room k count
  pub limit : within_limit k a ≡ true
  pub claims : Claims s i h b a
  pub from : off h ≤ r
  pub to : r < off h + a
  pub resp : off h + a ≡ 63 → resp (own s b) ≡ some i
  pub wrote : Wrote s b (off h) r
  pub tokens : Tokens s (tk h) (r - off h) taken

pub record S10Ok (s : State) (i : ℕ) (k : Kind) (count : ℕ) (taken : List ℕ) (h b a r : ℕ) : Type 0 where
  pub at : S9Ok s i k count taken h b a r
  pub written : W s b r ≡ true

-- the answer is the token of the claim's first ticket
abbrev pub WonOk : State → ℕ → Won → Type 0
WonOk s i (Task v) = (v ≡ s.ghost.pushed (s.ghost.first i)) × (s.ghost.first i < np s)
WonOk s i Moved = Unit

pub record S11Ok (s : State) (i : ℕ) (won : Won) (h b a c : ℕ) : Type 0 where
  pub claims : Claims s i h b a
  pub short : off h + a < 63
  pub from : off h ≤ c
  pub to : c < off h + a
  pub wrote : Wrote s b (off h) (off h + a)
  pub answer : WonOk s i won

-- the thread carries the walk on: the slots from w on are finished with
pub record WalkOk (s : State) (i : ℕ) (won : Won) (b w : ℕ) : Type 0 where
  pub lap : ℕ
  pub own : own s b ≡ Back lap w i
  pub below : w < 63
  pub answer : WonOk s i won

abbrev pub StealOk : State → ℕ → ℕ → List ℕ → StealLine → Type 0
StealOk s i count taken (S1 k) = Room k count
StealOk s i count taken (S2 k h) = S2Ok s k count h.raw
StealOk s i count taken (S3 k h b) = S3Ok s k count h.raw b
StealOk s i count taken (S4 k c more) = S4Ok s k count c.head.raw c.block c.advance more
StealOk s i count taken (S5 k c) = Leaves s i k count c.head.raw c.block c.advance
StealOk s i count taken (S6 k c x) = S6Ok s i k count c.head.raw c.block c.advance x
StealOk s i count taken (S7 k c x more) = S7Ok s i k count c.head.raw c.block c.advance x more
StealOk s i count taken (S8 k c more) = S8Ok s i k count c.head.raw c.block c.advance more
StealOk s i count taken (S9 k c r) = S9Ok s i k count taken c.head.raw c.block c.advance r
StealOk s i count taken (S10 k c r) = S10Ok s i k count taken c.head.raw c.block c.advance r
StealOk s i count taken (S11 won c r) = S11Ok s i won c.head.raw c.block c.advance r
StealOk s i count taken (S12 won b w) = WalkOk s i won b (w + 1)
StealOk s i count taken (S13 won b w) = WalkOk s i won b (w + 1)
StealOk s i count taken (S14 won b) = WalkOk s i won b 0

-- indices that length and empty loaded
abbrev pub Seen : State → ℕ → Type 0
Seen s i = position i ≤ position (T s)

abbrev pub LengthOk : State → LengthLine → Type 0
LengthOk s L1 = Unit
LengthOk s (L2 t) = Seen s t.raw
LengthOk s (L3 t h) = Seen s t.raw × Seen s h.raw

abbrev pub EmptyOk : State → EmptyLine → Type 0
EmptyOk s E1 = Unit
EmptyOk s (E2 h) = Seen s h.raw

abbrev pub CallOk : State → ℕ → ℕ → List ℕ → Call → Type 0
CallOk s i count taken Idle = Unit
CallOk s i count taken (Push line) = PushOk s i line
CallOk s i count taken (Steal line) = StealOk s i count taken line
CallOk s i count taken (Length line) = LengthOk s line
CallOk s i count taken (Empty line) = EmptyOk s line

-- a thread: its arrays are as long as they are, its ring holds what it can, and its line
pub record ThreadOk (s : State) (i : ℕ) (t : Thread) : Type 0 where
  pub tokens : length t.ring.tokens ≡ 64
  pub count : t.ring.count ≤ 64
  pub taken : length t.taken ≡ 63
  pub call : CallOk s i t.ring.count t.taken t.call
