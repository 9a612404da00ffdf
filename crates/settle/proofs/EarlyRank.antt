-- The ranks of early calls: their bounds, and that an early call has one.
use Prim.Native.Nat.{ℕ, ◌+◌, ◌*◌, ◌-◌, ◌≤◌, ◌<◌}
use mathlib.Core.Path.{◌≡◌, refl, sym, ap, ◌∙◌}
use mathlib.Core.Bool.{Bool, true, false, cond}
use mathlib.Core.Logic.{◌⊎◌, inl, inr, ⊎_elim}
use native.Mathlib.Omega.{arith}
use native.Mathlib.Decide.{ℕ_discrete}
use lib.Dec.{eqb}
use borrow.Author.Tests.{eqb-true}
use Rattle.index.specs.declared.Index.{Index}
use Rattle.state.specs.declared.Queue.{Queue}
use Rattle.state.specs.declared.Kind.{Kind}
use Rattle.state.specs.declared.Claim.{Claim}
use Rattle.state.specs.declared.PushLine.{PushLine}
use Rattle.state.specs.declared.PushLine.TheVariants.{P1, P2, P3, P4, P5, P6, P7, P8, P9, P10}
use Rattle.state.specs.declared.StealLine.{StealLine}
use Rattle.state.specs.declared.StealLine.TheVariants.{S1, S2, S3, S4, S5, S6, S7, S8, S9, S10, S11, S12, S13, S14}
use Rattle.state.specs.declared.LengthLine.TheVariants.{L1, L2, L3}
use Rattle.state.specs.declared.EmptyLine.TheVariants.{E1, E2}
use Rattle.state.specs.declared.Call.{Call}
use Rattle.state.specs.declared.Call.TheVariants.{Idle, Push, Steal, Length, Empty}
use Rattle.invariant.specs.Ghost.{Maybe, none, some}
use Rattle.invariant.specs.State.{State, lp, off, tk, T, H, np, nc}
use Rattle.invariant.specs.Lines.{CallOk}
use Rattle.invariant.proofs.Facts.{clash, none-some, some_inj}
use Rattle.settle.specs.Views.{links, installs, leaves, push_installs, steal_leaves, push_links}
use Rattle.settle.specs.Owed.{Owed}
use Rattle.settle.specs.Early.{early_push, early_steal, is_early, at_tail, at_head, blocked, push_rank, steal_rank, rank, install_rank, leave_rank, link_rank, awaits, Rank, free, tail-waits, head-waits, link-waits}
use Rattle.settle.proofs.OwedFrame.{Line}

-- ---- the calls that are waited for, by their lines

pub data Installing : Call → Type 0 where
  at5 : (v : ℕ) (t : Index) (b x : ℕ) → Installing (Push (P5 v t b x))
  at6 : (v : ℕ) (t : Index) (b x : ℕ) → Installing (Push (P6 v t b x))

installing-push : (line : PushLine) → push_installs line ≡ true → Installing (Push line)
installing-push (P1 v held) e = clash false e refl
installing-push (P2 v t held) e = clash false e refl
installing-push (P3 v t b) e = clash false e refl
installing-push (P4 v t b held) e = clash false e refl
installing-push (P5 v t b x) e = at5 v t b x
installing-push (P6 v t b x) e = at6 v t b x
installing-push (P7 v t b x) e = clash false e refl
installing-push (P8 v t b held) e = clash false e refl
installing-push (P9 v t b held) e = clash false e refl
installing-push (P10 x spent) e = clash false e refl

pub installing : (c : Call) → installs c ≡ true → Installing c
installing Idle e = clash false e refl
installing (Push line) e = installing-push line e
installing (Steal line) e = clash false e refl
installing (Length line) e = clash false e refl
installing (Empty line) e = clash false e refl

pub data Leaving : Call → Type 0 where
  on5 : (k : Kind) (c : Claim) → Leaving (Steal (S5 k c))
  on6 : (k : Kind) (c : Claim) (x : ℕ) → Leaving (Steal (S6 k c x))
  on7 : (k : Kind) (c : Claim) (x : ℕ) (more : Bool) → Leaving (Steal (S7 k c x more))
  on8 : (k : Kind) (c : Claim) (more : Bool) → Leaving (Steal (S8 k c more))

leaving-steal : (line : StealLine) → steal_leaves line ≡ true → Leaving (Steal line)
leaving-steal (S1 k) e = clash false e refl
leaving-steal (S2 k h) e = clash false e refl
leaving-steal (S3 k h b) e = clash false e refl
leaving-steal (S4 k c more) e = clash false e refl
leaving-steal (S5 k c) e = on5 k c
leaving-steal (S6 k c x) e = on6 k c x
leaving-steal (S7 k c x more) e = on7 k c x more
leaving-steal (S8 k c more) e = on8 k c more
leaving-steal (S9 k c r) e = clash false e refl
leaving-steal (S10 k c r) e = clash false e refl
leaving-steal (S11 won c r) e = clash false e refl
leaving-steal (S12 won b w) e = clash false e refl
leaving-steal (S13 won b w) e = clash false e refl
leaving-steal (S14 won b) e = clash false e refl

pub leaving : (c : Call) → leaves c ≡ true → Leaving c
leaving Idle e = clash false e refl
leaving (Push line) e = clash false e refl
leaving (Steal line) e = leaving-steal line e
leaving (Length line) e = clash false e refl
leaving (Empty line) e = clash false e refl

pub data Linking (n : ℕ) : Call → Type 0 where
  in5 : (v : ℕ) (t : Index) (b x : ℕ) → tk t.raw ≡ n → Linking n (Push (P5 v t b x))
  in6 : (v : ℕ) (t : Index) (b x : ℕ) → tk t.raw ≡ n → Linking n (Push (P6 v t b x))
  in7 : (v : ℕ) (t : Index) (b x : ℕ) → tk t.raw ≡ n → Linking n (Push (P7 v t b x))

linking-push : (n : ℕ) (line : PushLine) → push_links line ≡ some n → Linking n (Push line)
linking-push n (P1 v held) e = none-some n e
linking-push n (P2 v t held) e = none-some n e
linking-push n (P3 v t b) e = none-some n e
linking-push n (P4 v t b held) e = none-some n e
linking-push n (P5 v t b x) e = in5 v t b x (some_inj _ n e)
linking-push n (P6 v t b x) e = in6 v t b x (some_inj _ n e)
linking-push n (P7 v t b x) e = in7 v t b x (some_inj _ n e)
linking-push n (P8 v t b held) e = none-some n e
linking-push n (P9 v t b held) e = none-some n e
linking-push n (P10 x spent) e = none-some n e

pub linking : (n : ℕ) (c : Call) → links c ≡ some n → Linking n c
linking n Idle e = none-some n e
linking n (Push line) e = linking-push n line e
linking n (Steal line) e = none-some n e
linking n (Length line) e = none-some n e
linking n (Empty line) e = none-some n e

pub data Awaiting (n : ℕ) : Call → Type 0 where
  waits : (k : Kind) (c : Claim) → 63 * lp c.head.raw + 62 ≡ n → Awaiting n (Steal (S5 k c))

awaiting-steal : (n : ℕ) (line : StealLine) → awaits (Steal line) ≡ some n → Awaiting n (Steal line)
awaiting-steal n (S1 k) e = none-some n e
awaiting-steal n (S2 k h) e = none-some n e
awaiting-steal n (S3 k h b) e = none-some n e
awaiting-steal n (S4 k c more) e = none-some n e
awaiting-steal n (S5 k c) e = waits k c (some_inj _ n e)
awaiting-steal n (S6 k c x) e = none-some n e
awaiting-steal n (S7 k c x more) e = none-some n e
awaiting-steal n (S8 k c more) e = none-some n e
awaiting-steal n (S9 k c r) e = none-some n e
awaiting-steal n (S10 k c r) e = none-some n e
awaiting-steal n (S11 won c r) e = none-some n e
awaiting-steal n (S12 won b w) e = none-some n e
awaiting-steal n (S13 won b w) e = none-some n e
awaiting-steal n (S14 won b) e = none-some n e

pub awaiting : (n : ℕ) (c : Call) → awaits c ≡ some n → Awaiting n c
awaiting n Idle e = none-some n e
awaiting n (Push line) e = none-some n e
awaiting n (Steal line) e = awaiting-steal n line e
awaiting n (Length line) e = none-some n e
awaiting n (Empty line) e = none-some n e

-- ---- early calls

pub tail-early : (c : Call) → at_tail c ≡ true → is_early c ≡ true
tail-early Idle e = e
tail-early (Push line) e = e
tail-early (Steal line) e = clash false e refl
tail-early (Length line) e = e
tail-early (Empty line) e = clash false e refl

pub head-early : (c : Call) → at_head c ≡ true → is_early c ≡ true
head-early Idle e = e
head-early (Push line) e = clash false e refl
head-early (Steal line) e = e
head-early (Length line) e = clash false e refl
head-early (Empty line) e = clash false e refl

-- an early call links nothing
early-push-links : (n : ℕ) (line : PushLine) → early_push line ≡ true → push_links line ≡ some n → ⊥
early-push-links n (P1 v held) e f = none-some n f
early-push-links n (P2 v t held) e f = none-some n f
early-push-links n (P3 v t b) e f = none-some n f
early-push-links n (P4 v t b held) e f = none-some n f
early-push-links n (P5 v t b x) e f = clash false e refl
early-push-links n (P6 v t b x) e f = clash false e refl
early-push-links n (P7 v t b x) e f = clash false e refl
early-push-links n (P8 v t b held) e f = none-some n f
early-push-links n (P9 v t b held) e f = none-some n f
early-push-links n (P10 x spent) e f = none-some n f

pub early-links : (n : ℕ) (c : Call) → is_early c ≡ true → links c ≡ some n → ⊥
early-links n Idle e f = none-some n f
early-links n (Push line) e f = early-push-links n line e f
early-links n (Steal line) e f = none-some n f
early-links n (Length line) e f = none-some n f
early-links n (Empty line) e f = none-some n f

-- who awaits a link does not link
pub not-both : (c : Call) (n l : ℕ) → awaits c ≡ some n → links c ≡ some l → ⊥
not-both c n l a b = go c (awaiting n c a) b
  where
    go : (d : Call) → Awaiting n d → links d ≡ some l → ⊥
    go d (waits k f z) g = none-some l g

pub link_above : (c : Call) (n : ℕ) → links c ≡ some n → 8 < link_rank c
link_above c n l = go c (linking n c l)
  where
    go : (d : Call) → Linking n d → 8 < link_rank d
    go d (in5 v t b y z) = omega arith
    go d (in6 v t b y z) = omega arith
    go d (in7 v t b y z) = omega arith

-- ---- bounds

abbrev Within : ℕ → ℕ → Type 0
Within m n = (1 ≤ n) × (n ≤ m)

cond-within : (m x y : ℕ) (b : Bool) → Within m x → Within m y → Within m (cond b x y)
cond-within m x y true p q = p
cond-within m x y false p q = q

within-push : (tail : ℕ) (line : PushLine) → early_push line ≡ true → Within 6 (push_rank tail line)
within-push tail (P1 v held) e = omega arith
within-push tail (P2 v t held) e = cond-within 6 3 6 (eqb tail t.raw) (omega arith) (omega arith)
within-push tail (P3 v t b) e = cond-within 6 2 5 (eqb tail t.raw) (omega arith) (omega arith)
within-push tail (P4 v t b held) e = cond-within 6 1 4 (eqb tail t.raw) (omega arith) (omega arith)
within-push tail (P5 v t b x) e = clash false e refl
within-push tail (P6 v t b x) e = clash false e refl
within-push tail (P7 v t b x) e = clash false e refl
within-push tail (P8 v t b held) e = clash false e refl
within-push tail (P9 v t b held) e = clash false e refl
within-push tail (P10 x spent) e = clash false e refl

within-steal : (line : StealLine) → early_steal line ≡ true → Within 5 (steal_rank line)
within-steal (S1 k) e = omega arith
within-steal (S2 k h) e = cond-within 5 5 3 (eqb (off h.raw) 63) (omega arith) (omega arith)
within-steal (S3 k h b) e = omega arith
within-steal (S4 k c more) e = omega arith
within-steal (S5 k c) e = clash false e refl
within-steal (S6 k c x) e = clash false e refl
within-steal (S7 k c x more) e = clash false e refl
within-steal (S8 k c more) e = clash false e refl
within-steal (S9 k c r) e = clash false e refl
within-steal (S10 k c r) e = clash false e refl
within-steal (S11 won c r) e = clash false e refl
within-steal (S12 won b w) e = clash false e refl
within-steal (S13 won b w) e = clash false e refl
within-steal (S14 won b) e = clash false e refl

pub free-rank : (tail : ℕ) (c : Call) → is_early c ≡ true → Within 6 (rank tail c)
free-rank tail Idle e = clash false e refl
free-rank tail (Push line) e = within-push tail line e
free-rank tail (Steal line) e = let p = within-steal line e in omega arith
free-rank tail (Length L1) e = omega arith
free-rank tail (Length (L2 t)) e = cond-within 6 2 5 (eqb tail t.raw) (omega arith) (omega arith)
free-rank tail (Length (L3 t h)) e = cond-within 6 1 4 (eqb tail t.raw) (omega arith) (omega arith)
free-rank tail (Empty E1) e = omega arith
free-rank tail (Empty (E2 h)) e = omega arith

pub thief_rank : (tail : ℕ) (c : Call) → at_head c ≡ true → rank tail c ≤ 5
thief_rank tail Idle e = clash false e refl
thief_rank tail (Push line) e = clash false e refl
thief_rank tail (Steal line) e = (within-steal line e).1
thief_rank tail (Length line) e = clash false e refl
thief_rank tail (Empty line) e = clash false e refl

pub rank-within : (q : Queue) (calls : ℕ → Call) (x r k : ℕ) → Rank q calls x r k → (1 ≤ r) × (r ≤ 12)
rank-within q calls x r k (free e b) = let p = free-rank q.tail.raw (calls x) e in omega arith
rank-within q calls x r k (tail-waits l e f) = go (calls l) (installing (calls l) f)
  where
    go : (c : Call) → Installing c → (1 ≤ install_rank c) × (install_rank c ≤ 12)
    go c (at5 v t b y) = omega arith
    go c (at6 v t b y) = omega arith
rank-within q calls x r k (head-waits l e f g) = go (calls l) (leaving (calls l) f)
  where
    go : (c : Call) → Leaving c → (1 ≤ leave_rank c) × (leave_rank c ≤ 12)
    go c (on5 w d) = omega arith
    go c (on6 w d y) = omega arith
    go c (on7 w d y more) = omega arith
    go c (on8 w d more) = omega arith
rank-within q calls x r k (link-waits l m n e f g) = go (calls l) (linking n (calls l) g)
  where
    go : (c : Call) → Linking n c → (1 ≤ link_rank c) × (link_rank c ≤ 12)
    go c (in5 v t b y d) = omega arith
    go c (in6 v t b y d) = omega arith
    go c (in7 v t b y d) = omega arith

-- ---- an early call has a rank

pub record Ranked (q : Queue) (calls : ℕ → Call) (x : ℕ) : Type 0 where
  pub value : ℕ
  pub key : ℕ
  pub rank : Rank q calls x value key

module _ (s : State) (calls : ℕ → Call) (lines : (i : ℕ) → Line s i (calls i)) where
  -- a ticket's block is linked by its push alone
  pub one_linker : (i n : ℕ) → links (calls i) ≡ some n → s.ghost.pusher n ≡ i
  one_linker i n e = go (calls i) (lines i).ok (linking n (calls i) e)
    where
      go : (c : Call) → CallOk s i (lines i).count (lines i).taken c → Linking n c → s.ghost.pusher n ≡ i
      go c ok (in5 v t b x d) = sym (ap s.ghost.pusher d) ∙ ok.owes.pusher
      go c ok (in6 v t b x d) = sym (ap s.ghost.pusher d) ∙ ok.installs.owes.pusher
      go c ok (in7 v t b x d) = sym (ap s.ghost.pusher d) ∙ ok.owes.pusher

  module _ (owed : Owed s calls) (x : ℕ) where
    same_some : (m : Maybe) (n : ℕ) → (m ≡ some n) ⊎ (m ≡ some n → ⊥)
    same_some none n = inr (λ e. none-some n e)
    same_some (some k) n = go (ℕ_discrete k n)
      where
        go : Dec (k ≡ n) → (some k ≡ some n) ⊎ (some k ≡ some n → ⊥)
        go (yes e) = inl (ap some e)
        go (no f) = inr (λ e. f (some_inj k n e))

    -- the head waits for thread k: is its block still to be linked?
    at_head_lem : (k : ℕ) → at_head (calls x) ≡ true → leaves (calls k) ≡ true → Ranked s.queue calls x
    at_head_lem k e f = go (awaits (calls k)) refl
      where
        go : (a : Maybe) → awaits (calls k) ≡ a → Ranked s.queue calls x
        go none g =
            record { value = leave_rank (calls k); key = k; rank = head-waits k e f (λ n h i l. none-some n (sym g ∙ h)) }
        go (some n) g =
            ⊎_elim
            (λ l. record { value = link_rank (calls (s.ghost.pusher n)); key = s.ghost.pusher n; rank = link-waits (s.ghost.pusher n) k n e g l })
            (λ l.
            record {
              value = leave_rank (calls k);
              key = k;
              rank =
                  head-waits k e f
                  (λ m h i z.
                  let same : n ≡ m = some_inj n m (sym g ∙ h) in
                  let z' : links (calls i) ≡ some n = z ∙ ap some (sym same) in
                  l (ap (λ (y : ℕ). links (calls y)) (one_linker i n z') ∙ z'));
            })
            (same_some (links (calls (s.ghost.pusher n))) n)

    pub ranked : is_early (calls x) ≡ true → Ranked s.queue calls x
    ranked e = by (blocked s.queue (calls x)) refl
      where
        freely : blocked s.queue (calls x) ≡ false → Ranked s.queue calls x
        freely f = record { value = rank (T s) (calls x); key = x; rank = free e f }

        tail : at_tail (calls x) ≡ true → eqb (off (T s)) 63 ≡ true → Ranked s.queue calls x
        tail a f =
            let k = s.ghost.pusher (np s - 1) in
            record { value = install_rank (calls k); key = k; rank = tail-waits k a (owed.installer (eqb-true _ 63 f)) }

        head : at_head (calls x) ≡ true → eqb (off (H s)) 63 ≡ true → Ranked s.queue calls x
        head a f = at_head_lem (s.ghost.claimer (nc s - 1)) a (owed.mover (eqb-true _ 63 f))

        which : (t h : Bool) → at_tail (calls x) ≡ t → at_head (calls x) ≡ h
            → cond t (eqb (off (T s)) 63) (cond h (eqb (off (H s)) 63) false) ≡ true → Ranked s.queue calls x
        which true h a b f = tail a f
        which false true a b f = head b f
        which false false a b f = clash false f refl

        by : (d : Bool) → blocked s.queue (calls x) ≡ d → Ranked s.queue calls x
        by true f = which (at_tail (calls x)) (at_head (calls x)) refl refl f
        by false f = freely f
