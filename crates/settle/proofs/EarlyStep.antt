-- The early lemma: a step of any open call takes a call out of the early ones, or leaves the rank of thread x no
-- higher; the key's step lowers it, and while it stays the key stays.
use Rattle.std.specs.Prelude.{Option, None, Some}
use Prim.Native.Nat.{ℕ, ◌+◌, ◌*◌, ◌≤◌, ◌<◌}
use mathlib.Core.Path.{◌≡◌, refl, sym, ap, subst, ◌∙◌}
use mathlib.Core.Bool.{Bool, true, false, cond}
use mathlib.Core.Logic.{◌⊎◌, inl, inr, ⊎_elim}
use native.Mathlib.Omega.{arith}
use native.Mathlib.Decide.{ℕ_discrete}
use lib.Dec.{eqb}
use borrow.Author.Tests.{ne_eqb, eqb-false}
use Rattle.index.specs.Position.{position}
use Rattle.index.specs.Claim.{advanced, left_lap}
use Rattle.index.specs.Laws.{left-lap, advanced-position}
use Rattle.memory.specs.Layout.{next}
use Rattle.state.specs.declared.Queue.{Queue}
use Rattle.state.specs.declared.Kind.{Kind}
use Rattle.state.specs.declared.Claim.{Claim}
use Rattle.state.specs.declared.PushLine.TheVariants.{P6, P7, P8}
use Rattle.state.specs.declared.StealLine.TheVariants.{S5, S6, S7, S8}
use Rattle.state.specs.declared.LengthLine.TheVariants.{L1, L2, L3}
use Rattle.state.specs.declared.EmptyLine.TheVariants.{E1, E2}
use Rattle.state.specs.declared.Call.{Call}
use Rattle.state.specs.declared.Call.TheVariants.{Idle, Push, Steal, Length, Empty}
use Rattle.state.specs.declared.Thread.{Thread}
use Rattle.machine.specs.Steal.{s5, s5_next}
use Rattle.machine.specs.Step.{step_at}
use Rattle.invariant.specs.Ghost.{Maybe, none, some}
use Rattle.invariant.specs.State.{State, lp, off, tk, T, H, nc, nxt}
use Rattle.invariant.specs.Shared.{Shared}
use Rattle.invariant.specs.Lines.{CallOk}
use Rattle.invariant.proofs.Facts.{clash, none-some, some_inj}
use Rattle.settle.specs.Views.{links, installs, leaves}
use Rattle.settle.specs.Owed.{Owed}
use Rattle.settle.specs.Early.{is_early, at_tail, at_head, blocked, push_rank, rank, install_rank, leave_rank, link_rank, awaits, Rank, free, tail-waits, head-waits, link-waits}
use Rattle.settle.proofs.OwedFrame.{Line}
use Rattle.settle.proofs.Early.{Went, left, again, further}
use Rattle.settle.proofs.EarlyRank.{Installing, at5, at6, installing, Leaving, on5, on6, on7, on8, leaving, Linking, in5, in6, in7, linking, Awaiting, waits, awaiting, tail-early, head-early, early-links, free-rank, thief_rank, not-both, link_above, one_linker}

-- the rank of a call that does not need the tail does not look at it
rank_same : (c : Call) (t u : ℕ) → (at_tail c ≡ true → u ≡ t) → is_early c ≡ true → rank u c ≡ rank t c
rank_same Idle t u e f = refl
rank_same (Push line) t u e f = ap (λ n. push_rank n line) (e f)
rank_same (Steal line) t u e f = refl
rank_same (Length L1) t u e f = refl
rank_same (Length (L2 v)) t u e f = ap (λ n. rank n (Length (L2 v))) (e refl)
rank_same (Length (L3 v h)) t u e f = ap (λ n. rank n (Length (L3 v h))) (e refl)
rank_same (Empty E1) t u e f = refl
rank_same (Empty (E2 h)) t u e f = refl

-- the index that an unblocked call needs is not at offset 63
free-tail : (q : Queue) (c : Call) → blocked q c ≡ false → at_tail c ≡ true → off q.tail.raw ≡ 63 → ⊥
free-tail q c b e = eqb-false (off q.tail.raw) 63 (rw e at b)

head-not-tail : (c : Call) → at_head c ≡ true → at_tail c ≡ false
head-not-tail Idle e = refl
head-not-tail (Push line) e = clash false e refl
head-not-tail (Steal line) e = refl
head-not-tail (Length line) e = clash false e refl
head-not-tail (Empty line) e = refl

free-head : (q : Queue) (c : Call) → blocked q c ≡ false → at_head c ≡ true → off q.head.raw ≡ 63 → ⊥
free-head q c b e = eqb-false (off q.head.raw) 63 (rw (head-not-tail c e, e) at b)

blocked-same : (q p : Queue) (c : Call) → (at_tail c ≡ true → p.tail.raw ≡ q.tail.raw) → (at_head c ≡ true → p.head.raw ≡ q.head.raw)
    → blocked p c ≡ blocked q c
blocked-same q p c e f = go (at_tail c) (at_head c) e f
  where
    go : (t h : Bool) → (t ≡ true → p.tail.raw ≡ q.tail.raw) → (h ≡ true → p.head.raw ≡ q.head.raw)
        → cond t (eqb (off p.tail.raw) 63) (cond h (eqb (off p.head.raw) 63) false)
        ≡ cond t (eqb (off q.tail.raw) 63) (cond h (eqb (off q.head.raw) 63) false)
    go true h a b = rw (a refl)
    go false true a b = rw (b refl)
    go false false a b = refl

-- j's call was early and is no longer
abbrev pub Fewer : (ℕ → Call) → ℕ → (ℕ → Call) → Type 0
Fewer calls j calls' = (is_early (calls j) ≡ true) × (is_early (calls' j) ≡ false)

-- x has a lower rank
pub record Lower (q' : Queue) (calls' : ℕ → Call) (x r : ℕ) : Type 0 where
  pub value : ℕ
  pub key : ℕ
  pub rank : Rank q' calls' x value key
  pub less : value < r

-- what j's step makes of the rank of x
pub data Next (calls : ℕ → Call) (j : ℕ) (q' : Queue) (calls' : ℕ → Call) (x r k : ℕ) : Type 0 where
  fewer : Fewer calls j calls' → Next calls j q' calls' x r k
  lower : Lower q' calls' x r → Next calls j q' calls' x r k
  same : Rank q' calls' x r k → (j ≡ k → ⊥) → Next calls j q' calls' x r k

module _ (s : State) (calls : ℕ → Call) (j : ℕ) (t : Thread) (q' : Queue) (calls' : ℕ → Call)
    (shared : Shared s) (lines : (i : ℕ) → Line s i (calls i)) (owed : Owed s calls)
    (queue : q' ≡ (step_at s.queue s.pool t (calls j)).stepped.queue)
    (own : calls' j ≡ (step_at s.queue s.pool t (calls j)).stepped.thread.call)
    (others : (i : ℕ) → (i ≡ j → ⊥) → calls' i ≡ calls i)
    (went : Went s.queue (calls j) q' (calls' j)) where
  -- ---- what stays, unless an early call goes

  tail-stays : (x : ℕ) → at_tail (calls x) ≡ true → Fewer calls j calls' ⊎ (at_tail (calls' x) ≡ true)
  tail-stays x e = go (ℕ_discrete x j)
    where
      mine : Went s.queue (calls j) q' (calls' j) → at_tail (calls j) ≡ true → Fewer calls j calls' ⊎ (at_tail (calls' j) ≡ true)
      mine (left a b) f = inl (a, b)
      mine (again g) f = inr (g.tail ∙ f)
      mine (further p) f = clash (is_early (calls j)) (tail-early (calls j) f) p.late

      go : Dec (x ≡ j) → Fewer calls j calls' ⊎ (at_tail (calls' x) ≡ true)
      go (yes d) = rw d (mine went (rw d at e))
      go (no n) = inr (ap at_tail (others x n) ∙ e)

  head-stays : (x : ℕ) → at_head (calls x) ≡ true → Fewer calls j calls' ⊎ (at_head (calls' x) ≡ true)
  head-stays x e = go (ℕ_discrete x j)
    where
      mine : Went s.queue (calls j) q' (calls' j) → at_head (calls j) ≡ true → Fewer calls j calls' ⊎ (at_head (calls' j) ≡ true)
      mine (left a b) f = inl (a, b)
      mine (again g) f = inr (g.head ∙ f)
      mine (further p) f = clash (is_early (calls j)) (head-early (calls j) f) p.late

      go : Dec (x ≡ j) → Fewer calls j calls' ⊎ (at_head (calls' x) ≡ true)
      go (yes d) = rw d (mine went (rw d at e))
      go (no n) = inr (ap at_head (others x n) ∙ e)

  -- nobody new links a block
  unlinked-stays : (n : ℕ) → ((i : ℕ) → links (calls i) ≡ some n → ⊥) → Fewer calls j calls' ⊎ ((i : ℕ) → links (calls' i) ≡ some n → ⊥)
  unlinked-stays n f = by went
    where
      each : (links (calls' j) ≡ some n → ⊥) → (i : ℕ) → Dec (i ≡ j) → links (calls' i) ≡ some n → ⊥
      each g i (yes d) e = g (rw d at e)
      each g i (no o) e = f i (sym (ap links (others i o)) ∙ e)

      by : Went s.queue (calls j) q' (calls' j) → Fewer calls j calls' ⊎ ((i : ℕ) → links (calls' i) ≡ some n → ⊥)
      by (left a b) = inl (a, b)
      by (again g) = inr (λ i. each (λ e. early-links n (calls' j) g.still e) i (ℕ_discrete i j))
      by (further p) = inr (λ i. each (λ e. f j (p.links n e)) i (ℕ_discrete i j))

  -- a rank that is read off the key's call
  key-rank : (x k : ℕ) (of : Call → ℕ) → (k ≡ j → ⊥) → Rank q' calls' x (of (calls' k)) k → Rank q' calls' x (of (calls k)) k
  key-rank x k of n r = subst (λ (c : Call). Rank q' calls' x (of c) k) (others k n) r

  lower-to : (x r v k : ℕ) → v < r → Rank q' calls' x v k → Next calls j q' calls' x r k
  lower-to x r v k l p = lower (record { value = v; key = k; rank = p; less = l })

  -- ---- x is not blocked

  module _ (x : ℕ) (e : is_early (calls x) ≡ true) (b : blocked s.queue (calls x) ≡ false) where
    free_stays : (x ≡ j → ⊥) → (at_tail (calls x) ≡ true → q'.tail.raw ≡ T s) → (at_head (calls x) ≡ true → q'.head.raw ≡ H s)
        → Next calls j q' calls' x (rank (T s) (calls x)) x
    free_stays n f h =
        same
        (subst (λ (v : ℕ). Rank q' calls' x v x)
        (ap (rank q'.tail.raw) (others x n) ∙ rank_same (calls x) (T s) q'.tail.raw f e)
        (free (ap is_early (others x n) ∙ e) (ap (blocked q') (others x n) ∙ blocked-same s.queue q' (calls x) f h ∙ b)))
        (λ d. n (sym d))

    free_other : (x ≡ j → ⊥) → Went s.queue (calls j) q' (calls' j) → Next calls j q' calls' x (rank (T s) (calls x)) x
    free_other n (left a f) = fewer (a, f)
    free_other n (again g) =
        free_stays n (λ f. ap (λ (q : Queue). q.tail.raw) g.queue) (λ f. ap (λ (q : Queue). q.head.raw) g.queue)
    free_other n (further p) =
        free_stays n (λ f. p.tail (free-tail s.queue (calls x) b f)) (λ f. p.head (free-head s.queue (calls x) b f))

  free_own : (x : ℕ) → x ≡ j → is_early (calls x) ≡ true → blocked s.queue (calls x) ≡ false → Went s.queue (calls x) q' (calls' x)
      → Fewer calls j calls' ⊎ Lower q' calls' x (rank (T s) (calls x))
  free_own x d e b (left a f) = inl (rw d at a, rw d at f)
  free_own x d e b (again g) =
      let same-tail : q'.tail.raw ≡ T s = ap (λ (q : Queue). q.tail.raw) g.queue in
      inr
      (record {
        value = rank q'.tail.raw (calls' x);
        key = x;
        rank = free g.still (ap (λ (q : Queue). blocked q (calls' x)) g.queue ∙ unblocked);
        less = rw same-tail (g.lower b);
      })
    where
      unblocked : blocked s.queue (calls' x) ≡ false
      unblocked = rw (g.tail, g.head) b
  free_own x d e b (further p) = clash (is_early (calls x)) e p.late

  free-next : (x : ℕ) → is_early (calls x) ≡ true → blocked s.queue (calls x) ≡ false → Dec (x ≡ j) → Next calls j q' calls' x (rank (T s) (calls x)) x
  free-next x e b (yes d) =
      ⊎_elim (λ f. fewer f) (λ l. lower l)
      (free_own x d e b (subst (λ (i : ℕ). Went s.queue (calls i) q' (calls' i)) (sym d) went))
  free-next x e b (no n) = free_other x e b n went

  -- ---- the tail waits

  open_tail : (x k : ℕ) → at_tail (calls' x) ≡ true → (off q'.tail.raw ≡ 63 → ⊥) → Next calls j q' calls' x 7 k
  open_tail x k e n =
      lower
      (record {
        value = rank q'.tail.raw (calls' x);
        key = x;
        rank = free (tail-early (calls' x) e) (rw (e, ne_eqb (off q'.tail.raw) 63 n));
        less = let p = free-rank q'.tail.raw (calls' x) (tail-early (calls' x) e) in omega arith;
      })

  tail-key : (x : ℕ) → at_tail (calls' x) ≡ true → (c : Call) → calls j ≡ c → Installing c → Next calls j q' calls' x (install_rank c) j
  tail-key x e c at (at5 v u b y) =
      let next-call : calls' j ≡ Push (P6 v u b y) = rw at at own in
      lower-to x 8 7 j (omega arith)
      (subst (λ (d : Call). Rank q' calls' x (install_rank d) j) next-call (tail-waits j e (ap installs next-call)))
  tail-key x e c at (at6 v u b y) =
      let next-tail : q'.tail.raw ≡ advanced u.raw 2 = ap (λ (q : Queue). q.tail.raw) (rw at at queue) in
      let last : off u.raw ≡ 62 = line.installs.last in
      open_tail x j e (λ f. omega arith)
    where
      line : CallOk s j (lines j).count (lines j).taken (Push (P6 v u b y))
      line = rw at at (lines j).ok

  tail-next : (x k : ℕ) → at_tail (calls x) ≡ true → installs (calls k) ≡ true → Dec (k ≡ j) → Next calls j q' calls' x (install_rank (calls k)) k
  tail-next x k e f (yes d) =
      rw d (⊎_elim (λ g. fewer g) (λ g. tail-key x g (calls j) refl (installing (calls j) (rw d at f))) (tail-stays x e))
  tail-next x k e f (no n) =
      ⊎_elim (λ g. fewer g)
      (λ g. same (key-rank x k install_rank n (tail-waits k g (ap installs (others k n) ∙ f))) (λ h. n (sym h)))
      (tail-stays x e)

  -- ---- the head waits

  open_head : (x k : ℕ) → at_head (calls' x) ≡ true → (off q'.head.raw ≡ 63 → ⊥) → Next calls j q' calls' x 6 k
  open_head x k e n =
      lower
      (record {
        value = rank q'.tail.raw (calls' x);
        key = x;
        rank = free (head-early (calls' x) e) (rw (head-not-tail (calls' x) e, e, ne_eqb (off q'.head.raw) 63 n));
        less = let p = thief_rank q'.tail.raw (calls' x) e in omega arith;
      })

  -- at S6 to S8 the thief awaits nothing
  leave_to : (x r : ℕ) (c : Call) → at_head (calls' x) ≡ true → calls' j ≡ c → leaves c ≡ true → ((n : ℕ) → awaits c ≡ some n → ⊥)
      → leave_rank c < r → Next calls j q' calls' x r j
  leave_to x r c e at f g l =
      lower-to x r (leave_rank c) j l
      (subst (λ (d : Call). Rank q' calls' x (leave_rank d) j) at
      (head-waits j e (ap leaves at ∙ f) (λ n h i z. g n (sym (ap awaits at) ∙ h))))

  -- a thief at S5 finds the next block: its push does not link it any more
  linked : (k : Kind) (c : Claim) → calls j ≡ Steal (S5 k c)
      → ((i : ℕ) → links (calls i) ≡ some (63 * lp c.head.raw + 62) → ⊥) → nxt s c.block ≡ None → ⊥
  linked k c at f g =
      let one : off c.head.raw + c.advance ≡ 63 = line.ended in
      let below : tk c.head.raw + c.advance ≤ nc s = line.claims.below in
      let order : position (H s) ≤ position (T s) = shared.order in
      f (s.ghost.pusher (63 * lp c.head.raw + 62))
      (owed.link c.block (lp c.head.raw) line.claims.serves g (omega arith))
    where
      line : CallOk s j (lines j).count (lines j).taken (Steal (S5 k c))
      line = rw at at (lines j).ok

  s5-next : (x : ℕ) (k : Kind) (c : Claim) → at_head (calls' x) ≡ true → calls j ≡ Steal (S5 k c)
      → ((i : ℕ) → links (calls i) ≡ some (63 * lp c.head.raw + 62) → ⊥) → Next calls j q' calls' x 9 j
  unfolding s5
  s5-next x k c e at f = go (next s.pool c.block) refl (rw at at own)
    where
      go : (n : Option ℕ) → next s.pool c.block ≡ n → calls' j ≡ (s5_next s.queue k c n).made.call → Next calls j q' calls' x 9 j
      go None g h = absurd (linked k c at f g)
      go (Some y) g h = leave_to x 9 (Steal (S6 k c y)) e h refl (λ n z. none-some n z) (omega arith)

  head-key : (x : ℕ) → at_head (calls' x) ≡ true → (c : Call) → calls j ≡ c
      → ((n : ℕ) → awaits c ≡ some n → (i : ℕ) → links (calls i) ≡ some n → ⊥) → Leaving c → Next calls j q' calls' x (leave_rank c) j
  head-key x e c at f (on5 k d) = s5-next x k d e at (f (63 * lp d.head.raw + 62) refl)
  head-key x e c at f (on6 k d y) = leave_to x 8 (Steal (S7 k d y _)) e (rw at at own) refl (λ n z. none-some n z) (omega arith)
  head-key x e c at f (on7 k d y more) = leave_to x 7 (Steal (S8 k d more)) e (rw at at own) refl (λ n z. none-some n z) (omega arith)
  head-key x e c at f (on8 k d more) =
      let next-head : q'.head.raw ≡ left_lap (advanced d.head.raw d.advance) more = ap (λ (q : Queue). q.head.raw) (rw at at queue) in
      let one : off d.head.raw + d.advance ≡ 63 = line.leaves.ended in
      let p = left-lap (advanced d.head.raw d.advance) more (omega (arith, advanced-position d.head.raw d.advance)) in
      open_head x j e (λ g. omega arith)
    where
      line : CallOk s j (lines j).count (lines j).taken (Steal (S8 k d more))
      line = rw at at (lines j).ok

  head-next : (x k : ℕ) → at_head (calls x) ≡ true → leaves (calls k) ≡ true
      → ((n : ℕ) → awaits (calls k) ≡ some n → (i : ℕ) → links (calls i) ≡ some n → ⊥) → Dec (k ≡ j) → Next calls j q' calls' x (leave_rank (calls k)) k
  head-next x k e f g (yes d) =
      rw d (⊎_elim (λ h. fewer h) (λ h. head-key x h (calls j) refl (rw d at g) (leaving (calls j) (rw d at f))) (head-stays x e))
  head-next x k e f g (no o) =
      ⊎_elim (λ h. fewer h) (λ h. by h (awaits (calls k)) refl) (head-stays x e)
    where
      stays : at_head (calls' x) ≡ true → ((n : ℕ) → awaits (calls k) ≡ some n → (i : ℕ) → links (calls' i) ≡ some n → ⊥)
          → Next calls j q' calls' x (leave_rank (calls k)) k
      stays h u =
          same
          (key-rank x k leave_rank o
          (head-waits k h (ap leaves (others k o) ∙ f) (λ n z. u n (sym (ap awaits (others k o)) ∙ z))))
          (λ z. o (sym z))

      by : at_head (calls' x) ≡ true → (a : Maybe) → awaits (calls k) ≡ a → Next calls j q' calls' x (leave_rank (calls k)) k
      by h none z = stays h (λ n y i l. none-some n (sym z ∙ y))
      by h (some n) z =
          ⊎_elim (λ y. fewer y)
          (λ (u : (i : ℕ) → links (calls' i) ≡ some n → ⊥).
          stays h (λ m y i l. u i (l ∙ ap some (sym (some_inj n m (sym z ∙ y))))))
          (unlinked-stays n (g n z))

  -- ---- the head waits for a link

  module _ (x m n : ℕ) (e : at_head (calls' x) ≡ true) where
    -- j links no longer, and nobody else does
    nobody : links (calls j) ≡ some n → (links (calls' j) ≡ some n → ⊥) → (i : ℕ) → Dec (i ≡ j) → links (calls' i) ≡ some n → ⊥
    nobody l g i (yes d) z = g (rw d at z)
    nobody l g i (no o) z =
        o (sym (one_linker s calls lines i n (sym (ap links (others i o)) ∙ z)) ∙ one_linker s calls lines j n l)

    link-step : (r : ℕ) (c : Call) → calls' j ≡ c → links c ≡ some n → link_rank c < r → awaits (calls' m) ≡ some n → Next calls j q' calls' x r j
    link-step r c at l less a =
        lower-to x r (link_rank c) j less
        (subst (λ (d : Call). Rank q' calls' x (link_rank d) j) at (link-waits j m n e a (ap links at ∙ l)))

    moves-on : awaits (calls' m) ≡ some n → ((i : ℕ) → links (calls' i) ≡ some n → ⊥) → Next calls j q' calls' x 10 j
    moves-on a f = go (calls' m) refl (awaiting n (calls' m) a)
      where
        go : (c : Call) → calls' m ≡ c → Awaiting n c → Next calls j q' calls' x 10 j
        go c at (waits k d z) =
            lower
            (record {
              value = 9;
              key = m;
              rank =
                  subst (λ (y : Call). Rank q' calls' x (leave_rank y) m) at
                  (head-waits m e (ap leaves at) (λ y w i l. f i (l ∙ ap some (some_inj y n (sym w ∙ a)))));
              less = omega arith;
            })

    link-key : (c : Call) → calls j ≡ c → awaits (calls' m) ≡ some n → links (calls j) ≡ some n → Linking n c → Next calls j q' calls' x (link_rank c) j
    link-key c at a l (in5 v u b y d) = link-step 12 (Push (P6 v u b y)) (rw at at own) (ap some d) (omega arith) a
    link-key c at a l (in6 v u b y d) = link-step 11 (Push (P7 v u b y)) (rw at at own) (ap some d) (omega arith) a
    link-key c at a l (in7 v u b y d) =
        let next-call : calls' j ≡ Push (P8 v u b None) = rw at at own in
        moves-on a (λ i. nobody l (λ z. none-some n (sym (ap links next-call) ∙ z)) i (ℕ_discrete i j))

  -- the thief itself looks again: it is still at S5, or has found the link
  abbrev Looks : ℕ → ℕ → Type 0
  Looks m n =
      (awaits (calls' m) ≡ some n)
      ⊎ ((leaves (calls' m) ≡ true) × (leave_rank (calls' m) ≡ 8) × ((l : ℕ) → awaits (calls' m) ≡ some l → ⊥))

  looks : (n : ℕ) → awaits (calls j) ≡ some n → Looks j n
  unfolding s5
  looks n a = by (calls j) refl (awaiting n (calls j) a)
    where
      go : (k : Kind) (f : Claim) → 63 * lp f.head.raw + 62 ≡ n → (y : Option ℕ) → calls' j ≡ (s5_next s.queue k f y).made.call → Looks j n
      go k f z None h = inl (ap awaits h ∙ ap some z)
      go k f z (Some y) h = inr (ap leaves h, ap leave_rank h, λ l g. none-some l (sym (ap awaits h) ∙ g))

      by : (c : Call) → calls j ≡ c → Awaiting n c → Looks j n
      by c at (waits k f z) = go k f z (next s.pool f.block) (rw at at own)

  link-next : (x k m n : ℕ) → at_head (calls x) ≡ true → awaits (calls m) ≡ some n → links (calls k) ≡ some n → Dec (k ≡ j)
      → Next calls j q' calls' x (link_rank (calls k)) k
  link-next x k m n e a l (yes d) =
      let l' : links (calls j) ≡ some n = rw d at l in
      let o : m ≡ j → ⊥ = λ f. not-both (calls j) n n (rw f at a) l' in
      rw d
      (⊎_elim (λ h. fewer h) (λ h. link-key x m n h (calls j) refl (ap awaits (others m o) ∙ a) l' (linking n (calls j) l'))
      (head-stays x e))
  link-next x k m n e a l (no o) = ⊎_elim (λ h. fewer h) (λ h. at h (ℕ_discrete m j)) (head-stays x e)
    where
      waits-on : at_head (calls' x) ≡ true → awaits (calls' m) ≡ some n → Next calls j q' calls' x (link_rank (calls k)) k
      waits-on h b = same (key-rank x k link_rank o (link-waits k m n h b (ap links (others k o) ∙ l))) (λ z. o (sym z))

      found : at_head (calls' x) ≡ true → (leaves (calls' m) ≡ true) × (leave_rank (calls' m) ≡ 8) × ((i : ℕ) → awaits (calls' m) ≡ some i → ⊥)
          → Next calls j q' calls' x (link_rank (calls k)) k
      found h p =
          lower
          (record {
            value = leave_rank (calls' m);
            key = m;
            rank = head-waits m h p.0 (λ i z y w. p.2 i z);
            less = omega (arith, p.1, link_above (calls k) n l);
          })

      at : at_head (calls' x) ≡ true → Dec (m ≡ j) → Next calls j q' calls' x (link_rank (calls k)) k
      at h (yes d) = ⊎_elim (waits-on h) (found h) (rw d (looks n (rw d at a)))
      at h (no f) = waits-on h (ap awaits (others m f) ∙ a)

  pub early-step : (x r k : ℕ) → Rank s.queue calls x r k → Next calls j q' calls' x r k
  early-step x r k (free e b) = free-next x e b (ℕ_discrete x j)
  early-step x r k (tail-waits i e f) = tail-next x i e f (ℕ_discrete i j)
  early-step x r k (head-waits i e f g) = head-next x i e f g (ℕ_discrete i j)
  early-step x r k (link-waits i m n e a l) = link-next x i m n e a l (ℕ_discrete i j)
