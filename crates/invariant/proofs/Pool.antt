-- P3, P10 and S14: a block is taken from the pool, and is given back. Which free block is taken does not matter.
use Rattle.std.specs.Prelude.{Option, None, Some}
use Prim.Native.Nat.{ℕ, ◌+◌, ◌≤◌, ◌<◌}
use mathlib.Core.Path.{◌≡◌, refl, sym, ap, ◌∙◌}
use mathlib.Core.Bool.{Bool, true, false}
use mathlib.Core.List.{List}
use native.Mathlib.Omega.{arith}
use native.Mathlib.Nat.{le_refl}
use native.Mathlib.Decide.{ℕ_discrete}
use Rattle.index.specs.declared.Index.{Index}
use Rattle.memory.specs.Layout.{state, next, is_free, has}
use Rattle.memory.specs.Touch.{Touch, frees, clears, after}
use Rattle.memory.specs.Pool.{pick}
use Rattle.memory.specs.Laws.{Aimed, Of, Alike, length-after, pick-block, free-freed, free-cleared, next-cleared, state-cleared}
use Rattle.memory.proofs.Apart.{elsewhere, next-frees, state-frees}
use Rattle.memory.specs.declared.Mark.{Mark}
use Rattle.memory.specs.declared.Mark.TheVariants.{Write, Read, Destroy}
use Rattle.state.specs.declared.PushLine.TheVariants.{P3, P10}
use Rattle.state.specs.declared.StealLine.TheVariants.{S14}
use Rattle.state.specs.declared.Answer.TheVariants.{Refused}
use Rattle.state.specs.declared.Refusal.TheVariants.{NoBlock}
use Rattle.state.specs.declared.Won.{Won}
use Rattle.machine.specs.Push.{p3, p3_took, p10}
use Rattle.machine.specs.Steal.{s14}
use Rattle.invariant.specs.Ghost.{Ghost, none, Own, Free, Held, Open, Back, some, lap_of, front, resp}
use Rattle.invariant.specs.State.{State, lp, T, H, N, W, R, D, nxt, free, own}
use Rattle.invariant.specs.Shared.{Shared}
use Rattle.invariant.specs.Lines.{P3Ok, P4Ok, WalkOk, PushOk, StealOk}
use Rattle.invariant.specs.Rely.{Rely}
use Rattle.invariant.specs.Kept.{Kept}
use Rattle.invariant.proofs.Facts.{clash, put, put_same, put_other, held_number, serving-number, none-some, some_inj, room}
use Rattle.invariant.proofs.Local.{stops}
use Rattle.invariant.proofs.Install.{put_elim}
use Rattle.invariant.proofs.Leave.{unlike}

-- block x has a new owner w
abbrev pub given : Ghost → ℕ → Own → Ghost
given g x w =
    record {
      pushed = g.pushed;
      pusher = g.pusher;
      claimer = g.claimer;
      chain = g.chain;
      own = put g.own x w;
      first = g.first;
    }

abbrev pub given-on : State → ℕ → Own → Touch → State
given-on s x w touch = record { queue = s.queue; pool = after s.pool touch; ghost = given s.ghost x w }

-- a block that served no lap between head and tail goes to an owner for whom it serves none, and only its words are touched
pub record Changes (s : State) (x : ℕ) (w : Own) (touch : Touch) : Type 0 where
  pub number : x < N s
  pub closed : (l : ℕ) → own s x ≡ Open l → ⊥
  pub idle : lap_of w ≡ none
  pub aimed : Aimed touch
  pub alone : (c : ℕ) → (c ≡ x → ⊥) → Of touch c → ⊥
  -- the free mark agrees with the new owner, the link is a pool's block, and a held block is clean
  pub freed : w ≡ Free → is_free (after s.pool touch) x ≡ true
  pub taken : is_free (after s.pool touch) x ≡ true → w ≡ Free
  pub linked : (y : ℕ) → next (after s.pool touch) x ≡ Some y → y < N s
  pub unlinked : (j : ℕ) → w ≡ Held j → next (after s.pool touch) x ≡ None
  pub clean : (j o : ℕ) → w ≡ Held j → o < 63 → state (after s.pool touch) x o ≡ 0

-- no thread but i leans on the block, and what is written in it stays written
pub record Unwanted (s : State) (i x : ℕ) (touch : Touch) : Type 0 where
  pub held : (j : ℕ) → own s x ≡ Held j → j ≡ i
  pub walked : (j : ℕ) → resp (own s x) ≡ some j → j ≡ i
  pub owed : (l o : ℕ) → lap_of (own s x) ≡ some l → o < 63 → W s x o ≡ false → ⊥
  pub claimed : (l o : ℕ) → lap_of (own s x) ≡ some l → o + 1 ≤ front (own s x) → ⊥
  pub wrote : (l o : ℕ) → lap_of (own s x) ≡ some l → o < 63 → has Write (state (after s.pool touch) x o) ≡ W s x o

module _ (s : State) (x : ℕ) (w : Own) (touch : Touch) (h : Shared s) (change : Changes s x w touch) where
  -- what is said by owners and words: of x, and of every other block
  owners : (P : Own → Type 0) (c : ℕ) → (c ≡ x → P w) → ((c ≡ x → ⊥) → P (own s c)) → P (own (given-on s x w touch) c)
  owners P c p q = put_elim P (own s) x w c p q

  pub alike : (c : ℕ) → (c ≡ x → ⊥) → Alike s.pool (after s.pool touch) c
  alike c n = elsewhere s.pool touch c change.aimed (change.alone c n)

  by-block : (P : ℕ → Type 0) (c : ℕ) → P x → ((c ≡ x → ⊥) → P c) → P c
  by-block P c p q = at (ℕ_discrete c x)
    where
      at : Dec (c ≡ x) → P c
      at (yes e) = rw e p
      at (no n) = q n

  -- a block that serves a lap is another one, and is as it was
  pub served : (c l : ℕ) → lap_of (own (given-on s x w touch) c) ≡ some l → (lap_of (own s c) ≡ some l) × (c ≡ x → ⊥)
  served c l =
      owners (λ v. lap_of v ≡ some l → (lap_of (own s c) ≡ some l) × (c ≡ x → ⊥)) c
      (λ e p. none-some l (sym change.idle ∙ p))
      (λ n p. (p, n))

  was : (k : Mark) (c o : ℕ) → (c ≡ x → ⊥) → o < 63 → has k (state s.pool c o) ≡ has k (state (after s.pool touch) c o)
  was k c o n q = sym (ap (has k) ((alike c n).states o q))

  pub same-owner : (c : ℕ) → (c ≡ x → ⊥) → own (given-on s x w touch) c ≡ own s c
  same-owner c n = put_other (own s) x w c n

  serves-none : {A : Type 0} (v : Own) (l : ℕ) → lap_of v ≡ some l → w ≡ v → A
  serves-none v l p e = none-some l (sym change.idle ∙ ap lap_of e ∙ p)

  pub given-shared : Shared (given-on s x w touch)
  given-shared =
      record {
        sized = length-after s.pool touch ∙ h.sized;
        even = h.even;
        ceiling = h.ceiling;
        order = h.order;
        flag = h.flag;
        freed = λ c.
            by-block (λ c. c < N s → own (given-on s x w touch) c ≡ Free → free (given-on s x w touch) c ≡ true) c
            (λ q f. change.freed (sym (put_same (own s) x w) ∙ f))
            (λ n q f. (alike c n).marks ∙ h.freed c q (sym (same-owner c n) ∙ f));
        taken = λ c.
            by-block (λ c. c < N s → free (given-on s x w touch) c ≡ true → own (given-on s x w touch) c ≡ Free) c
            (λ q f. put_same (own s) x w ∙ change.taken f)
            (λ n q f. same-owner c n ∙ h.taken c q (sym (alike c n).marks ∙ f));
        number = λ c. owners (λ v. (v ≡ Free → ⊥) → c < N s) c (λ e n. rw e change.number) (λ n. h.number c);
        open_from = λ c l. owners (λ v. v ≡ Open l → lp (H s) ≤ l) c (λ e. serves-none (Open l) l refl) (λ n. h.open_from c l);
        open_to = λ c l. owners (λ v. v ≡ Open l → l ≤ lp (T s)) c (λ e. serves-none (Open l) l refl) (λ n. h.open_to c l);
        open_at = λ c l. owners (λ v. v ≡ Open l → s.ghost.chain l ≡ c) c (λ e. serves-none (Open l) l refl) (λ n. h.open_at c l);
        back_to = λ c l f j. owners (λ v. v ≡ Back l f j → l < lp (H s)) c (λ e. serves-none (Back l f j) l refl) (λ n. h.back_to c l f j);
        back_at = λ c l f j. owners (λ v. v ≡ Back l f j → s.ghost.chain l ≡ c) c (λ e. serves-none (Back l f j) l refl) (λ n. h.back_at c l f j);
        live = λ l p q.
            let f = h.live l p q in
            owners (λ v. v ≡ Open l) (s.ghost.chain l) (λ e. absurd (change.closed l (ap (own s) (sym e) ∙ f))) (λ n. f);
        tail-number = h.tail-number;
        tail_at = h.tail_at;
        head-number = h.head-number;
        head_at = h.head_at;
        next-number = λ c y.
            by-block (λ c. c < N s → nxt (given-on s x w touch) c ≡ Some y → y < N s) c
            (λ q f. change.linked y f)
            (λ n q f. h.next-number c y q (sym (alike c n).nexts ∙ f));
        held_next = λ c j.
            by-block (λ c. own (given-on s x w touch) c ≡ Held j → nxt (given-on s x w touch) c ≡ None) c
            (λ f. change.unlinked j (sym (put_same (own s) x w) ∙ f))
            (λ n f. (alike c n).nexts ∙ h.held_next c j (sym (same-owner c n) ∙ f));
        held-clean = λ c j o.
            by-block (λ c. own (given-on s x w touch) c ≡ Held j → o < 63 → state (after s.pool touch) c o ≡ 0) c
            (λ f q. change.clean j o (sym (put_same (own s) x w) ∙ f) q)
            (λ n f q. (alike c n).states o q ∙ h.held-clean c j o (sym (same-owner c n) ∙ f) q);
        next-lap = λ c l y p f. let a = served c l p in h.next-lap c l y a.0 (sym (alike c a.1).nexts ∙ f);
        next-at = λ c l y p f. let a = served c l p in h.next-at c l y a.0 (sym (alike c a.1).nexts ∙ f);
        written = λ c l o p q m. let a = served c l p in h.written c l o a.0 q (was Write c o a.1 q ∙ m);
        token = λ c l o p q m.
            let a = served c l p in
            (alike c a.1).tokens o q ∙ h.token c l o a.0 q (was Write c o a.1 q ∙ m);
        read-written = λ c l o p q m.
            let a = served c l p in
            sym (was Write c o a.1 q) ∙ h.read-written c l o a.0 q (was Read c o a.1 q ∙ m);
        read-claimed = λ c l o p q m. let a = served c l p in h.read-claimed c l o a.0 q (was Read c o a.1 q ∙ m);
        destroy_front = λ c l o p q m.
            let a = served c l p in
            omega (arith, h.destroy_front c l o a.0 q (was Destroy c o a.1 q ∙ m), ap front (same-owner c a.1));
        destroy_below = λ c l o p q m. let a = served c l p in h.destroy_below c l o a.0 q (was Destroy c o a.1 q ∙ m);
        front-written = λ c l o p q m.
            let a = served c l p in
            sym (was Write c o a.1 q) ∙ h.front-written c l o a.0 q (omega (arith, ap front (same-owner c a.1)));
      }

  module _ (i : ℕ) (left : Unwanted s i x touch) where
    -- a block that another thread leans on is not x
    owed-other : (c l o : ℕ) → lap_of (own s c) ≡ some l → o < 63 → W s c o ≡ false → c ≡ x → ⊥
    owed-other c l o p q m e = left.owed l o (rw e at p) q (rw e at m)

    claimed-other : (c l o : ℕ) → lap_of (own s c) ≡ some l → o + 1 ≤ front (own s c) → c ≡ x → ⊥
    claimed-other c l o p q e = left.claimed l o (rw e at p) (rw e at q)

    still-claimed : (j c l o : ℕ) → lap_of (own s c) ≡ some l → o < 63 → o + 1 ≤ front (own s c) → R s c o ≡ false
        → (D s c o ≡ true → resp (own s c) ≡ some j)
        → (lap_of (own (given-on s x w touch) c) ≡ some l) × (o + 1 ≤ front (own (given-on s x w touch) c))
        × (R (given-on s x w touch) c o ≡ false) × (D (given-on s x w touch) c o ≡ true → resp (own (given-on s x w touch) c) ≡ some j)
    still-claimed j c l o h1 h2 h3 h4 h5 =
        let n = claimed-other c l o h1 h3 in
        let e = same-owner c n in
        (ap lap_of e ∙ h1, omega (arith, ap front e), sym (was Read c o n h2) ∙ h4, λ d. ap resp e ∙ h5 (was Destroy c o n h2 ∙ d))

    still-wrote : (c l o : ℕ) → lap_of (own s c) ≡ some l → o < 63 → W s c o ≡ true → W (given-on s x w touch) c o ≡ true
    still-wrote c l o p q =
        by-block (λ c. lap_of (own s c) ≡ some l → W s c o ≡ true → W (given-on s x w touch) c o ≡ true) c
        (λ p m. left.wrote l o p q ∙ m)
        (λ n p m. sym (was Write c o n q) ∙ m)
        p

    pub given-rely : (j : ℕ) → (j ≡ i → ⊥) → Rely j s (given-on s x w touch)
    given-rely j n =
        record {
          blocks = refl;
          ceiling = refl;
          tail = le_refl _;
          head = le_refl _;
          tail-block = λ q r. refl;
          head-block = λ q r. refl;
          installing = λ q r. (refl, refl);
          leaving = λ q r. (refl, refl);
          pushed = λ k q. refl;
          pusher = λ k q. refl;
          claimer = λ k q. refl;
          chain = λ l q. refl;
          first = refl;
          held = λ c q. same-owner c (λ e. n (left.held j (rw e at q))) ∙ q;
          walk = λ c q. same-owner c (λ e. n (left.walked j (rw e at q)));
          owed-serves = λ c l o h1 h2 h3 h4 h5. ap lap_of (same-owner c (owed-other c l o h1 h2 h5)) ∙ h1;
          owed-unwritten = λ c l o h1 h2 h3 h4 h5. sym (was Write c o (owed-other c l o h1 h2 h5) h2) ∙ h5;
          owed-token = λ c l o h1 h2 h3 h4 h5. (alike c (owed-other c l o h1 h2 h5)).tokens o h2;
          claim = λ c l o h1 h2 h3 h4 h5 h6 h7. still-claimed j c l o h1 h2 h5 h6 h7;
          wrote = still-wrote;
        }

-- P3

block-nothing : {A : Type 0} (y : ℕ) → None ≡ Some y → A
block-nothing y e = cc

module _ (s : State) (i x : ℕ) (h : Shared s) (n : x < N s) (f : free s x ≡ true) where
  was_free : own s x ≡ Free
  was_free = h.taken x n f

  pub p3-changes : Changes s x (Held i) (clears x)
  p3-changes =
      record {
        number = n;
        closed = λ l e. unlike Free (Open l) refl (sym was_free ∙ e);
        idle = refl;
        aimed = tt;
        alone = λ c m e. m e;
        freed = unlike (Held i) Free refl;
        taken = λ e. clash (is_free (after s.pool (clears x)) x) e (free-cleared s.pool x);
        linked = λ y e. block-nothing y (sym (next-cleared s.pool x) ∙ e);
        unlinked = λ j e. next-cleared s.pool x;
        clean = λ j o e q. state-cleared s.pool x o q;
      }

  p3_unwanted : Unwanted s i x (clears x)
  p3_unwanted =
      record {
        held = λ j e. unlike Free (Held j) refl (sym was_free ∙ e);
        walked = λ j e. none-some j (sym (ap resp was_free) ∙ e);
        owed = λ l o p q m. none-some l (sym (ap lap_of was_free) ∙ p);
        claimed = λ l o p q. none-some l (sym (ap lap_of was_free) ∙ p);
        wrote = λ l o p q. none-some l (sym (ap lap_of was_free) ∙ p);
      }

  p3-next : (t b : ℕ) → P3Ok s t b → P4Ok (given-on s x (Held i) (clears x)) i t b (Some x)
  p3-next t b ok =
      record {
        holds = put_same (own s) x (Held i);
        at = record { seen = ok.at.seen; number = ok.at.number; same = ok.at.same };
        slot = omega (arith, ok.last);
        last = λ q. tt;
        lap = ok.lap;
      }

-- by what the pool had
p3-by : (s : State) (i count : ℕ) (taken : List ℕ) (v : ℕ) (t : Index) (b : ℕ) → Shared s → PushOk s i (P3 v t b)
    → (r : Option ℕ) → pick s.pool (N s) ≡ r → Kept s i count taken (p3_took s.queue v t b r)
p3-by s i count taken v t b h ok None e = stops s i count taken (Refused NoBlock) h
p3-by s i count taken v t b h ok (Some x) e =
    let p = pick-block s.pool (N s) x e in
    record {
      ghost = given s.ghost x (Held i);
      shared = given-shared s x (Held i) (clears x) h (p3-changes s i x h p.0 p.1);
      call = p3-next s i x h p.0 p.1 t.raw b ok;
      others = given-rely s x (Held i) (clears x) h (p3-changes s i x h p.0 p.1) i (p3_unwanted s i x h p.0 p.1);
    }

pub p3-kept : (s : State) (i count : ℕ) (taken : List ℕ) (v : ℕ) (t : Index) (b : ℕ)
    → Shared s → PushOk s i (P3 v t b) → Kept s i count taken (p3 s.queue s.pool v t b)
unfolding p3
p3-kept s i count taken v t b h ok = p3-by s i count taken v t b h ok (pick s.pool (N s)) refl

-- P10 and S14

held_inj : (i j : ℕ) → Held i ≡ Held j → j ≡ i
held_inj i j e = cc

-- a block of the pool that serves no lap between head and tail can be given back
freeing : (s : State) (x : ℕ) → Shared s → x < N s → ((l : ℕ) → own s x ≡ Open l → ⊥) → Changes s x Free (frees x)
freeing s x h n closed =
    record {
      number = n;
      closed = closed;
      idle = refl;
      aimed = tt;
      alone = λ c m e. m e;
      freed = λ e. free-freed s.pool x (room s h x n);
      taken = λ e. refl;
      linked = λ y e. h.next-number x y n (sym (next-frees s.pool x x) ∙ e);
      unlinked = λ j e. unlike Free (Held j) refl e;
      clean = λ j o e q. unlike Free (Held j) refl e;
    }

module _ (s : State) (i x : ℕ) (h : Shared s) (e : own s x ≡ Held i) where
  pub p10-changes : Changes s x Free (frees x)
  p10-changes = freeing s x h (held_number s h x i e) (λ l f. unlike (Held i) (Open l) refl (sym e ∙ f))

  p10_unwanted : Unwanted s i x (frees x)
  p10_unwanted =
      record {
        held = λ j f. held_inj i j (sym e ∙ f);
        walked = λ j f. none-some j (sym (ap resp e) ∙ f);
        owed = λ l o p q m. none-some l (sym (ap lap_of e) ∙ p);
        claimed = λ l o p q. none-some l (sym (ap lap_of e) ∙ p);
        wrote = λ l o p q. none-some l (sym (ap lap_of e) ∙ p);
      }

pub p10-kept : (s : State) (i count : ℕ) (taken : List ℕ) (x : ℕ) (spent : Bool)
    → Shared s → PushOk s i (P10 x spent) → Kept s i count taken (p10 s.queue x spent)
p10-kept s i count taken x spent h ok =
    record {
      ghost = given s.ghost x Free;
      shared = given-shared s x Free (frees x) h (p10-changes s i x h ok);
      call = tt;
      others = given-rely s x Free (frees x) h (p10-changes s i x h ok) i (p10_unwanted s i x h ok);
    }

-- the walk is at the block's start: all its slots are finished with, so no push and no thief is left there
module _ (s : State) (i : ℕ) (won : Won) (b : ℕ) (h : Shared s) (ok : WalkOk s i won b 0) where
  pub s14-changes : Changes s b Free (frees b)
  s14-changes =
      freeing s b h
      (serving-number s h b ok.lap (ap lap_of ok.own))
      (λ l f. unlike (Back _ _ _) (Open l) refl (sym ok.own ∙ f))

  s14_unwanted : Unwanted s i b (frees b)
  s14_unwanted =
      record {
        held = λ j f. unlike (Back _ _ _) (Held j) refl (sym ok.own ∙ f);
        walked = λ j f. some_inj j i (sym f ∙ ap resp ok.own);
        owed = λ l o p q m. clash (W s b o) (h.front-written b l o p q (omega (arith, ap front ok.own))) m;
        claimed = λ l o p q. omega (arith, ap front ok.own);
        wrote = λ l o p q. ap (has Write) (state-frees s.pool b b o q);
      }

pub s14-kept : (s : State) (i count : ℕ) (taken : List ℕ) (won : Won) (b : ℕ)
    → Shared s → StealOk s i count taken (S14 won b) → Kept s i count taken (s14 s.queue won b)
s14-kept s i count taken won b h ok =
    record {
      ghost = given s.ghost b Free;
      shared = given-shared s b Free (frees b) h (s14-changes s i won b h ok);
      call = tt;
      others = given-rely s b Free (frees b) h (s14-changes s i won b h ok) i (s14_unwanted s i won b h ok);
    }

-- ---- the ghosts that are chosen

abbrev pub took : Ghost → ℕ → Option ℕ → Ghost
took g i None = g
took g i (Some x) = given g x (Held i)

module _ (s : State) (i count : ℕ) (taken : List ℕ) (h : Shared s) where
  p3-by-ghost : (v : ℕ) (t : Index) (b : ℕ) (ok : PushOk s i (P3 v t b)) (r : Option ℕ) (e : pick s.pool (N s) ≡ r)
      → (p3-by s i count taken v t b h ok r e).ghost ≡ took s.ghost i r
  unfolding p3-by stops
  p3-by-ghost v t b ok None e = refl
  p3-by-ghost v t b ok (Some x) e = refl

  pub p3-ghost : (v : ℕ) (t : Index) (b : ℕ) (ok : PushOk s i (P3 v t b))
      → (p3-kept s i count taken v t b h ok).ghost ≡ took s.ghost i (pick s.pool (N s))
  unfolding p3 p3-kept
  p3-ghost v t b ok = p3-by-ghost v t b ok (pick s.pool (N s)) refl

  pub p10-ghost : (x : ℕ) (spent : Bool) (ok : PushOk s i (P10 x spent)) → (p10-kept s i count taken x spent h ok).ghost ≡ given s.ghost x Free
  unfolding p10-kept
  p10-ghost x spent ok = refl

  pub s14-ghost : (won : Won) (b : ℕ) (ok : StealOk s i count taken (S14 won b)) → (s14-kept s i count taken won b h ok).ghost ≡ given s.ghost b Free
  unfolding s14-kept
  s14-ghost won b ok = refl
