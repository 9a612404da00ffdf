-- While a call is early some early call leaves the early lines within 12 rounds; so after 12 rounds for each thread none is.
use Prim.Native.Nat.{ℕ, ◌+◌, ◌*◌, ◌-◌, ◌≤◌, ◌<◌}
use mathlib.Core.Path.{◌≡◌, refl, sym, ap, subst, ◌∙◌}
use mathlib.Core.Bool.{Bool, true, false, not}
use mathlib.Core.Logic.{◌⊎◌, inl, inr, ⊎_elim}
use mathlib.Core.List.{List}
use native.Mathlib.Omega.{arith}
use native.Mathlib.Decide.{ℕ_discrete}
use lib.ListN.{length, length-set}
use Rattle.state.specs.declared.Queue.{Queue}
use Rattle.state.specs.declared.Call.{Call}
use Rattle.state.specs.declared.Call.TheVariants.{Idle, Push, Steal, Length, Empty}
use Rattle.state.specs.declared.Thread.{Thread}
use Rattle.machine.specs.Step.{is_idle, step_of}
use Rattle.history.specs.Board.{Board, steps, thread_at, asked}
use Rattle.invariant.proofs.Facts.{clash, true-or-false}
use Rattle.settle.specs.Whole.{Whole, state_of}
use Rattle.settle.specs.Rounds.{is_open_at, Round, step_all}
use Rattle.settle.specs.Early.{is_early, Rank, free, tail-waits, head-waits, link-waits}
use Rattle.settle.proofs.OwedFrame.{Line}
use Rattle.settle.proofs.Moves.{Fit, step_moves, step-own, step_other, open_call, open_record, open_thread}
use Rattle.settle.proofs.Fits.{fit_ask, fit_all}
use Rattle.settle.proofs.Whole.{whole-step, whole-all}
use Rattle.settle.proofs.Early.{Went, left, again, further, went}
use Rattle.settle.proofs.EarlyRank.{tail-early, head-early, rank-within, Installing, at5, at6, installing, Leaving, on5, on6, on7, on8, leaving, Linking, in5, in6, in7, linking, ranked}
use Rattle.settle.proofs.EarlyStep.{Next, fewer, lower, same, early-step}
use Rattle.settle.proofs.RoundLemma.{round_falls}
use Rattle.settle.proofs.Tallies.{held, held-fewer, held-less, held_one, held-some}

pub record Good (w : Board) : Type 0 where
  pub whole : Whole w
  pub fit : Fit w

abbrev calls : Board → ℕ → Call
calls w n = (thread_at w n).call

-- thread n's call is early, and how many are
abbrev pub early_at : Board → ℕ → Bool
early_at w n = is_early (thread_at w n).call

abbrev pub earlies : Board → ℕ
earlies w = held (early_at w) (length w.threads)

pub good-step : (w : Board) (n : ℕ) → Good w → Good (asked w (steps n))
good-step w n g = record { whole = whole-step w n g.whole; fit = fit_ask w g.fit (steps n) }

pub good-all : (w : Board) (order : List ℕ) → Good w → Good (step_all w order)
good-all w order g = record { whole = whole-all w order g.whole; fit = fit_all w order g.fit }

-- ---- one step

own-call : (w : Board) (n : ℕ) → Good w → is_open_at w n ≡ true
    → calls (asked w (steps n)) n ≡ (step_of w.queue w.pool (thread_at w n)).stepped.thread.call
own-call w n g e = ap (λ (t : Thread). t.call) (step-own w n g.whole g.fit e)

own-queue : (w : Board) (n : ℕ) → Good w → is_open_at w n ≡ true
    → (asked w (steps n)).queue ≡ (step_of w.queue w.pool (thread_at w n)).stepped.queue
own-queue w n g e = ap (λ (b : Board). b.queue) (step_moves w n g.whole g.fit (open_thread w n g.fit e) e)

call-went : (w : Board) (n : ℕ) → Good w → is_open_at w n ≡ true
    → Went w.queue (calls w n) (asked w (steps n)).queue (calls (asked w (steps n)) n)
call-went w n g e =
    subst (λ (c : Call). Went w.queue (calls w n) (asked w (steps n)).queue c) (sym (own-call w n g e))
    (subst (λ (q : Queue). Went w.queue (calls w n) q (step_of w.queue w.pool (thread_at w n)).stepped.thread.call) (sym (own-queue w n g e))
    (went (state_of w g.whole.ghost) n (thread_at w n) (open_call w n e) (g.whole.threads n).call))

-- nobody becomes early
stays-late : (w : Board) (n : ℕ) → Good w → is_open_at w n ≡ true → (x : ℕ) → early_at (asked w (steps n)) x ≡ true → early_at w x ≡ true
stays-late w n g e x f = go (ℕ_discrete x n)
  where
    mine : Went w.queue (calls w n) (asked w (steps n)).queue (calls (asked w (steps n)) n) → early_at (asked w (steps n)) n ≡ true → early_at w n ≡ true
    mine (left a b) h = a
    mine (again a) h = a.early
    mine (further p) h = clash (early_at (asked w (steps n)) n) h p.stays

    go : Dec (x ≡ n) → early_at w x ≡ true
    go (yes d) = rw d (mine (call-went w n g e) (rw d at f))
    go (no o) = sym (ap (λ (t : Thread). is_early t.call) (step_other w n x o)) ∙ f

no_more : (w : Board) (n : ℕ) → Good w → is_open_at w n ≡ true → earlies (asked w (steps n)) ≤ earlies w
no_more w n g e =
    subst (λ (m : ℕ). held (early_at (asked w (steps n))) m ≤ earlies w) (sym (length-set w.threads n _))
    (held-fewer (early_at w) (early_at (asked w (steps n))) (stays-late w n g e) (length w.threads))

one_fewer : (w : Board) (n : ℕ) → Good w → is_open_at w n ≡ true → early_at w n ≡ true → early_at (asked w (steps n)) n ≡ false
    → earlies (asked w (steps n)) < earlies w
one_fewer w n g e a b =
    subst (λ (m : ℕ). held (early_at (asked w (steps n))) m < earlies w) (sym (length-set w.threads n _))
    (held-less (early_at w) (early_at (asked w (steps n))) (stays-late w n g e) (length w.threads) n (open_record w n e) a b)

each_line : (w : Board) (g : Good w) (j : ℕ) → Line (state_of w g.whole.ghost) j (calls w j)
each_line w g j = record { count = (thread_at w j).ring.count; taken = (thread_at w j).taken; ok = (g.whole.threads j).call }

next-rank : (w : Board) (n : ℕ) → Good w → is_open_at w n ≡ true → (x r k : ℕ) → Rank w.queue (calls w) x r k
    → Next (calls w) n (asked w (steps n)).queue (calls (asked w (steps n))) x r k
unfolding step_of
next-rank w n g e =
    early-step (state_of w g.whole.ghost) (calls w) n (thread_at w n) (asked w (steps n)).queue (calls (asked w (steps n)))
    g.whole.shared
    (each_line w g)
    g.whole.owed
    (own-queue w n g e)
    (own-call w n g e)
    (λ j o. ap (λ (t : Thread). t.call) (step_other w n j o))
    (call-went w n g e)

-- ---- the potential: 12 for each early call but one, and the rank of that one

pub record At (w : Board) (f k : ℕ) : Type 0 where
  pub thread : ℕ
  pub value : ℕ
  pub rank : Rank w.queue (calls w) thread value k
  pub room : 12 * earlies w + value ≤ f + 12

abbrev pub NoneEarly : Board → Type 0
NoneEarly w = (n : ℕ) → early_at w n ≡ false

pub record Under (w : Board) (f : ℕ) : Type 0 where
  pub value : ℕ
  pub key : ℕ
  pub at : At w value key
  pub less : value < f

abbrev pub Below : Board → ℕ → Type 0
Below w f = NoneEarly w ⊎ Under w f

early_open : (w : Board) (n : ℕ) → early_at w n ≡ true → is_open_at w n ≡ true
early_open w n e = go (calls w n) e
  where
    go : (c : Call) → is_early c ≡ true → not (is_idle c) ≡ true
    go Idle f = f
    go (Push line) f = refl
    go (Steal line) f = refl
    go (Length line) f = refl
    go (Empty line) f = refl

rank-early : (w : Board) (x r k : ℕ) → Rank w.queue (calls w) x r k → early_at w x ≡ true
rank-early w x r k (free e b) = e
rank-early w x r k (tail-waits i e f) = tail-early (calls w x) e
rank-early w x r k (head-waits i e f g) = head-early (calls w x) e
rank-early w x r k (link-waits i m n e a l) = head-early (calls w x) e

key_open : (w : Board) (x r k : ℕ) → Rank w.queue (calls w) x r k → is_open_at w k ≡ true
key_open w x r k (free e b) = early_open w x e
key_open w x r k (tail-waits i e f) = go (calls w i) (installing (calls w i) f)
  where
    go : (c : Call) → Installing c → not (is_idle c) ≡ true
    go c (at5 v t b y) = refl
    go c (at6 v t b y) = refl
key_open w x r k (head-waits i e f g) = go (calls w i) (leaving (calls w i) f)
  where
    go : (c : Call) → Leaving c → not (is_idle c) ≡ true
    go c (on5 d z) = refl
    go c (on6 d z y) = refl
    go c (on7 d z y more) = refl
    go c (on8 d z more) = refl
key_open w x r k (link-waits i m n e a l) = go (calls w i) (linking n (calls w i) l)
  where
    go : (c : Call) → Linking n c → not (is_idle c) ≡ true
    go c (in5 v t b y z) = refl
    go c (in6 v t b y z) = refl
    go c (in7 v t b y z) = refl

pub at_open : (w : Board) (f k : ℕ) → At w f k → is_open_at w k ≡ true
at_open w f k a = key_open w a.thread a.value k a.rank

some-early : (w : Board) (f k : ℕ) → At w f k → 1 ≤ earlies w
some-early w f k a =
    let e = rank-early w a.thread a.value k a.rank in
    held_one (early_at w) (length w.threads) a.thread (open_record w a.thread (early_open w a.thread e)) e

pub at_some : (w : Board) (f k : ℕ) → At w f k → 1 ≤ f
at_some w f k a =
    let u = some-early w f k a in
    let r = rank-within w.queue (calls w) a.thread a.value k a.rank in
    let l : 12 * earlies w + a.value ≤ f + 12 = a.room in
    omega arith

-- no call is early, or the potential is at most 12 for each early call
pub begins : (w : Board) → Good w → Below w (12 * earlies w + 1)
begins w g = by (ℕ_discrete (earlies w) 0)
  where
    none : earlies w ≡ 0 → NoneEarly w
    none z n =
        ⊎_elim
        (λ (e : early_at w n ≡ true).
        let one = held_one (early_at w) (length w.threads) n (open_record w n (early_open w n e)) e in
        absurd (omega arith))
        (λ (e : early_at w n ≡ false). e)
        (true-or-false (early_at w n))

    by : Dec (earlies w ≡ 0) → Below w (12 * earlies w + 1)
    by (yes z) = inl (none z)
    by (no o) =
        let p = held-some (early_at w) (length w.threads) (omega arith) in
        let k = ranked (state_of w g.whole.ghost) (calls w) (each_line w g) g.whole.owed p.place p.holds in
        let r = rank-within w.queue (calls w) p.place k.value k.key k.rank in
        inr
        (record {
          value = 12 * earlies w + k.value - 12;
          key = k.key;
          at = record { thread = p.place; value = k.value; rank = k.rank; room = omega arith };
          less = omega arith;
        })

pub under_less : (w : Board) (f g : ℕ) → f ≤ g → Below w f → Below w g
under_less w f g l (inl n) = inl n
under_less w f g l (inr u) = let d = u.less in inr (record { value = u.value; key = u.key; at = u.at; less = omega arith })

at-step : (w : Board) (n f k : ℕ) → Good w → is_open_at w n ≡ true → At w f k
    → Below (asked w (steps n)) f ⊎ (At (asked w (steps n)) f k × (n ≡ k → ⊥))
at-step w n f k g e a = go (next-rank w n g e a.thread a.value k a.rank)
  where
    room : 12 * earlies w + a.value ≤ f + 12
    room = a.room

    go : Next (calls w) n (asked w (steps n)).queue (calls (asked w (steps n))) a.thread a.value k
        → Below (asked w (steps n)) f ⊎ (At (asked w (steps n)) f k × (n ≡ k → ⊥))
    go (fewer p) =
        let u = one_fewer w n g e p.0 p.1 in
        let r = rank-within w.queue (calls w) a.thread a.value k a.rank in
        let l = room in
        inl (under_less (asked w (steps n)) (12 * earlies (asked w (steps n)) + 1) f (omega arith) (begins (asked w (steps n)) (good-step w n g)))
    go (lower p) =
        let u = no_more w n g e in
        let d = p.less in
        let one = at_some w f k a in
        let l = room in
        inl
        (inr
        (record {
          value = f - 1;
          key = p.key;
          at = record { thread = a.thread; value = p.value; rank = p.rank; room = omega arith };
          less = omega arith;
        }))
    go (same p o) =
        let u = no_more w n g e in
        let l = room in
        inr (record { thread = a.thread; value = a.value; rank = p; room = omega arith }, o)

below_step : (w : Board) (n f : ℕ) → Good w → is_open_at w n ≡ true → Below w f → Below (asked w (steps n)) f
below_step w n f g e (inl none) =
    inl
    (λ x.
    ⊎_elim (λ (d : early_at (asked w (steps n)) x ≡ true). clash (early_at w x) (stays-late w n g e x d) (none x))
    (λ (d : early_at (asked w (steps n)) x ≡ false). d)
    (true-or-false (early_at (asked w (steps n)) x)))
below_step w n f g e (inr u) =
    let d = u.less in
    ⊎_elim (λ b. under_less (asked w (steps n)) u.value f (omega arith) b)
    (λ (p : At (asked w (steps n)) u.value u.key × (n ≡ u.key → ⊥)).
    inr (record { value = u.value; key = u.key; at = p.0; less = d }))
    (at-step w n u.value u.key g e u.at)

pub early_round : (w : Board) (order : List ℕ) (f k : ℕ) → Good w → Round w order → At w f k → Below (step_all w order) f
early_round w order f k g r a = round_falls Good Below At good-step below_step at-step w order f k g r (at_open w f k a) a
