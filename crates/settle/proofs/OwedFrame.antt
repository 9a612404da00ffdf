-- What is owed, across a step of thread i: a conjunct names another thread, whose call stays, or i itself.
use Rattle.std.specs.Prelude.{None}
use Prim.Native.Nat.{ℕ, ◌+◌, ◌*◌, ◌-◌, ◌≤◌, ◌<◌}
use mathlib.Core.Path.{◌≡◌, sym, ap, ◌∙◌}
use mathlib.Core.Bool.{true, false}
use mathlib.Core.Logic.{◌⊎◌, inl, inr, ⊎_elim}
use mathlib.Core.List.{List}
use native.Mathlib.Omega.{arith}
use Rattle.state.specs.declared.Claim.{Claim}
use Rattle.state.specs.declared.StealLine.{StealLine}
use Rattle.state.specs.declared.StealLine.TheVariants.{S1, S2, S3, S4, S5, S6, S7, S8, S9, S10, S11, S12, S13, S14}
use Rattle.state.specs.declared.Call.{Call}
use Rattle.state.specs.declared.Call.TheVariants.{Idle, Push, Steal, Length, Empty}
use Rattle.invariant.specs.Ghost.{some, Held, Back, lap_of, front}
use Rattle.invariant.specs.State.{State, off, T, H, np, nc, W, R, D, nxt, own}
use Rattle.invariant.specs.Lines.{CallOk, StealOk, Claims}
use Rattle.invariant.proofs.Facts.{put}
use Rattle.invariant.proofs.Lower.{put_elim}
use Rattle.settle.specs.Views.{holds, owes, links, installs, leaves, Reads, EndsAt, Told, Carries, StealCarries}
use Rattle.settle.specs.Owed.{Owed, InstallerOwed, MoverOwed, HeldOwed, WriteOwed, LinkOwed, ReadOwed, BackOwed}

-- the line of thread j, whatever its ring and its array hold
pub record Line (s : State) (j : ℕ) (call : Call) : Type 0 where
  pub count : ℕ
  pub taken : List ℕ
  pub ok : CallOk s j count taken call

-- the conjuncts on what pushes owe, and those on what thieves owe
pub record PushOwed (s : State) (calls : ℕ → Call) : Type 0 where
  pub installer : InstallerOwed s calls
  pub held : HeldOwed s calls
  pub write : WriteOwed s calls
  pub link : LinkOwed s calls

pub record TakeOwed (s : State) (calls : ℕ → Call) : Type 0 where
  pub mover : MoverOwed s calls
  pub read : ReadOwed s calls
  pub back : BackOwed s calls

pub all-owed : (s : State) (calls : ℕ → Call) → PushOwed s calls → TakeOwed s calls → Owed s calls
all-owed s calls p t =
    record {
      installer = p.installer;
      mover = t.mover;
      held = p.held;
      write = p.write;
      link = p.link;
      read = t.read;
      back = t.back;
    }

-- the thread j that is named: its call stays, or it is i, and then i's new call must have the view
pub named : (P : Call → Type 0) (calls : ℕ → Call) (i j : ℕ) (call : Call) → P (calls j) → (j ≡ i → P (calls i) → P call) → P (put calls i call j)
named P calls i j call v f = put_elim P calls i call j (λ e. f e (rw e at v)) (λ n. v)

-- i is named, and its new call has the view
pub named-now : (P : Call → Type 0) (calls : ℕ → Call) (i j : ℕ) (call : Call) → j ≡ i → P call → P (put calls i call j)
named-now P calls i j call e v = put_elim P calls i call j (λ f. v) (λ n. absurd (n e))

-- the parts of an owner on its way back
pub back-parts : (l f i k g j : ℕ) → Back l f i ≡ Back k g j → (l ≡ k) × (f ≡ g) × (i ≡ j)
back-parts l f i k g j e = (cc, cc, cc)

-- ---- DESTROY in a top slot is seen on

module _ (s s' : State) (b l f : ℕ) (keeps : (o : ℕ) → o < 63 → D s b o ≡ true → D s' b o ≡ true) where
  told-still : (j : ℕ) (c : Claim) → Claims s j c.head.raw c.block c.advance → EndsAt c b l f × Told s c → EndsAt c b l f × Told s' c
  told-still j c k p =
      (p.0, rw p.0.0 (keeps (off c.head.raw + c.advance - 1) (omega (arith, k.within, k.some-slot)) (rw p.0.0 at p.1)))

  told-or : (j : ℕ) (c : Claim) → Claims s j c.head.raw c.block c.advance
      → EndsAt c b l f × ((f ≡ 63) ⊎ Told s c) → EndsAt c b l f × ((f ≡ 63) ⊎ Told s' c)
  told-or j c k p = (p.0, ⊎_elim (λ e. inl e) (λ d. inr (told-still j c k (p.0, d)).1) p.1)

  steal_carries : (j count : ℕ) (taken : List ℕ) (line : StealLine) → StealOk s j count taken line
      → StealCarries s line b l f → StealCarries s' line b l f
  steal_carries j count taken (S1 k) ok p = p
  steal_carries j count taken (S2 k h) ok p = p
  steal_carries j count taken (S3 k h x) ok p = p
  steal_carries j count taken (S4 k c more) ok p = p
  steal_carries j count taken (S5 k c) ok p = told-still j c ok.claims p
  steal_carries j count taken (S6 k c x) ok p = told-still j c ok.leaves.claims p
  steal_carries j count taken (S7 k c x more) ok p = told-still j c ok.at.leaves.claims p
  steal_carries j count taken (S8 k c more) ok p = told-still j c ok.leaves.claims p
  steal_carries j count taken (S9 k c r) ok p = told-or j c ok.claims p
  steal_carries j count taken (S10 k c r) ok p = told-or j c ok.at.claims p
  steal_carries j count taken (S11 won c r) ok p = told-still j c ok.claims p
  steal_carries j count taken (S12 won x w) ok p = p
  steal_carries j count taken (S13 won x w) ok p = p
  steal_carries j count taken (S14 won x) ok p = p

  pub carries_on : (j : ℕ) (call : Call) → Line s j call → Carries s call b l f → Carries s' call b l f
  carries_on j Idle k p = p
  carries_on j (Push line) k p = p
  carries_on j (Steal line) k p = steal_carries j k.count k.taken line k.ok p
  carries_on j (Length line) k p = p
  carries_on j (Empty line) k p = p

-- ---- steps that leave alone what one half speaks of

-- the views of i's call at its next line are those at its line before: installs, holds, owes, links
abbrev pub PushViews : Call → Call → Type 0
PushViews old new =
    (installs old ≡ true → installs new ≡ true)
    × ((b : ℕ) → holds old ≡ some b → holds new ≡ some b)
    × ((k : ℕ) → owes old ≡ some k → owes new ≡ some k)
    × ((k : ℕ) → links old ≡ some k → links new ≡ some k)

pub same-push : (call : Call) → PushViews call call
same-push call = (λ e. e, λ b e. e, λ k e. e, λ k e. e)

-- leaves, reads, carries
abbrev pub TakeViews : State → Call → Call → Type 0
TakeViews s old new =
    (leaves old ≡ true → leaves new ≡ true)
    × ((k : ℕ) → Reads old k → Reads new k)
    × ((b l f : ℕ) → Carries s old b l f → Carries s new b l f)

pub same-take : (s : State) (call : Call) → TakeViews s call call
same-take s call = (λ e. e, λ k p. p, λ b l f p. p)

pub record PushSame (s s' : State) : Type 0 where
  pub tail : T s' ≡ T s
  pub pusher : (k : ℕ) → s'.ghost.pusher k ≡ s.ghost.pusher k
  pub held : (b j : ℕ) → own s' b ≡ Held j → own s b ≡ Held j
  pub laps : (b l : ℕ) → lap_of (own s' b) ≡ some l → lap_of (own s b) ≡ some l
  pub wrote : (b l o : ℕ) → lap_of (own s' b) ≡ some l → o < 63 → W s' b o ≡ false → W s b o ≡ false
  pub nexts : (b l : ℕ) → lap_of (own s' b) ≡ some l → nxt s' b ≡ None → nxt s b ≡ None

pub record TakeSame (s s' : State) : Type 0 where
  pub head : H s' ≡ H s
  pub claimer : (k : ℕ) → s'.ghost.claimer k ≡ s.ghost.claimer k
  pub laps : (b l o : ℕ) → lap_of (own s' b) ≡ some l → 63 * l + o < nc s → (lap_of (own s b) ≡ some l) × (front (own s' b) ≤ front (own s b))
  pub back : (b l f j : ℕ) → own s' b ≡ Back l f j → own s b ≡ Back l f j
  pub read : (b l o : ℕ) → lap_of (own s' b) ≡ some l → o < 63 → R s' b o ≡ false → R s b o ≡ false
  pub told : (b l f j o : ℕ) → own s' b ≡ Back l f j → o < 63 → D s b o ≡ true → D s' b o ≡ true

-- owners and what is read of the lent words stay
pub push-words : (s s' : State) → T s' ≡ T s → ((k : ℕ) → s'.ghost.pusher k ≡ s.ghost.pusher k) → ((b : ℕ) → own s' b ≡ own s b)
    → ((b o : ℕ) → o < 63 → W s' b o ≡ W s b o) → ((b : ℕ) → nxt s' b ≡ nxt s b) → PushSame s s'
push-words s s' tail pusher owner wrote nexts =
    record {
      tail = tail;
      pusher = pusher;
      held = λ b j e. sym (owner b) ∙ e;
      laps = λ b l p. sym (ap lap_of (owner b)) ∙ p;
      wrote = λ b l o p q w. sym (wrote b o q) ∙ w;
      nexts = λ b l p n. sym (nexts b) ∙ n;
    }

pub take-marks : (s s' : State) → H s' ≡ H s → ((k : ℕ) → s'.ghost.claimer k ≡ s.ghost.claimer k) → ((b : ℕ) → own s' b ≡ own s b)
    → ((b o : ℕ) → o < 63 → R s' b o ≡ R s b o) → ((b o : ℕ) → o < 63 → D s' b o ≡ D s b o) → TakeSame s s'
take-marks s s' head claimer owner read told =
    record {
      head = head;
      claimer = claimer;
      laps = λ b l o p r. (sym (ap lap_of (owner b)) ∙ p, omega (arith, ap front (owner b)));
      back = λ b l f j e. sym (owner b) ∙ e;
      read = λ b l o p q u. sym (read b o q) ∙ u;
      told = λ b l f j o e q d. told b o q ∙ d;
    }

module _ (s s' : State) (calls : ℕ → Call) (i : ℕ) (call : Call) (owed : Owed s calls) where
  pub push_frame : PushSame s s' → PushViews (calls i) call → PushOwed s' (put calls i call)
  push_frame same views =
      record {
        installer = λ e.
            rw (same.tail, same.pusher (np s - 1))
            (named (λ c. installs c ≡ true) calls i (s.ghost.pusher (np s - 1)) call (owed.installer (rw same.tail at e)) (λ x. views.0));
        held = λ b j e. named (λ c. holds c ≡ some b) calls i j call (owed.held b j (same.held b j e)) (λ x. views.1 b);
        write = λ b l o p q r w.
            rw (same.pusher (63 * l + o))
            (named (λ c. owes c ≡ some (63 * l + o)) calls i (s.ghost.pusher (63 * l + o)) call
            (owed.write b l o (same.laps b l p) q (rw same.tail at r) (same.wrote b l o p q w))
            (λ x. views.2 (63 * l + o)));
        link = λ b l p n r.
            rw (same.pusher (63 * l + 62))
            (named (λ c. links c ≡ some (63 * l + 62)) calls i (s.ghost.pusher (63 * l + 62)) call
            (owed.link b l (same.laps b l p) (same.nexts b l p n) (rw same.tail at r))
            (λ x. views.3 (63 * l + 62)));
      }

  -- a block whose owner stays: its carrier carries it on
  module _ (lines : (j : ℕ) → Line s j (calls j)) where
    pub back-still : (b l f j : ℕ) → own s b ≡ Back l f j → ((o : ℕ) → o < 63 → D s b o ≡ true → D s' b o ≡ true)
        → (Carries s' (calls i) b l f → Carries s' call b l f) → Carries s' (put calls i call j) b l f
    back-still b l f j e told view =
        named (λ c. Carries s' c b l f) calls i j call (carries_on s s' b l f told j (calls j) (lines j) (owed.back b l f j e)) (λ x. view)

    pub take-frame : TakeSame s s' → TakeViews s' (calls i) call → TakeOwed s' (put calls i call)
    take-frame same views =
        record {
          mover = λ e.
              rw (same.head, same.claimer (nc s - 1))
              (named (λ c. leaves c ≡ true) calls i (s.ghost.claimer (nc s - 1)) call (owed.mover (rw same.head at e)) (λ x. views.0));
          read = λ b l o p q f r u.
              let r' : 63 * l + o < nc s = rw same.head at r in
              let w = same.laps b l o p r' in
              rw (same.claimer (63 * l + o))
              (named (λ c. Reads c (63 * l + o)) calls i (s.ghost.claimer (63 * l + o)) call
              (owed.read b l o w.0 q (omega (arith, w.1)) r' (same.read b l o p q u))
              (λ x. views.1 (63 * l + o)));
          back = λ b l f j e.
              back-still b l f j (same.back b l f j e) (λ o. same.told b l f j o e) (views.2 b l f);
        }
