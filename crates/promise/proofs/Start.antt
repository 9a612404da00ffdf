-- A fresh start has the invariant: block 0 serves lap 0, all others are free, and no call is open.
use Rattle.std.specs.Prelude.{Some}
use Prim.Native.Nat.{ℕ, ◌≤◌, ◌<◌}
use mathlib.Core.Path.{◌≡◌, refl, sym, ap, subst, ◌∙◌}
use mathlib.Core.Bool.{true}
use mathlib.Core.Logic.{◌⊎◌, inl, inr, ⊎_elim}
use mathlib.Core.List.{List}
use native.Mathlib.Omega.{arith}
use native.Mathlib.Decide.{ℕ_discrete}
use lib.ListN.{length, get_or, length-map, length-replicate, get_or-map}
use Rattle.memory.specs.Layout.{state, has}
use Rattle.memory.specs.Pool.{fresh, pool_len}
use Rattle.memory.specs.Laws.{length-fresh, has-none}
use Rattle.memory.proofs.Apart.{fresh-state, fresh-next, fresh-used, fresh-free}
use Rattle.memory.specs.declared.Mark.{Mark}
use Rattle.memory.specs.declared.Mark.TheVariants.{Write, Read, Destroy}
use Rattle.ring.specs.declared.Flavor.{Flavor}
use Rattle.ring.specs.declared.Flavor.TheVariants.{Fifo}
use Rattle.state.specs.declared.Thread.{Thread}
use Rattle.machine.specs.Entry.{at_start, idle_thread}
use Rattle.history.specs.Board.{start, thread_at}
use Rattle.invariant.specs.Ghost.{Ghost, some, Own, Free, Held, Open, Back, lap_of, front}
use Rattle.invariant.specs.State.{State, nxt, own}
use Rattle.invariant.specs.Shared.{Shared}
use Rattle.invariant.specs.Lines.{ThreadOk}
use Rattle.invariant.proofs.Facts.{clash, put, put_same, put_other, none-some}
use Rattle.promise.proofs.Tally.{none_yet}
use Rattle.promise.proofs.World.{state_of, Mine, World}

abbrev pub first_own : ℕ → Own
first_own = put (λ b. Free) 0 (Open 0)

abbrev pub first_ghost : Ghost
first_ghost = record { pushed = λ k. 0; pusher = λ k. 0; claimer = λ k. 0; chain = λ l. 0; own = first_own; first = λ i. 0 }

-- two owners that are not equal
apart : {A : Type 0} → ◌≡◌ {A = ℕ} 0 1 → A
apart z = absurd (omega arith)

-- block 0 and the others
own_is : (b : ℕ) → ((b ≡ 0) × (first_own b ≡ Open 0)) ⊎ ((1 ≤ b) × (first_own b ≡ Free))
own_is b = go (ℕ_discrete b 0)
  where
    go : Dec (b ≡ 0) → ((b ≡ 0) × (first_own b ≡ Open 0)) ⊎ ((1 ≤ b) × (first_own b ≡ Free))
    go (yes e) = inl (e, rw e (put_same (λ x. Free) 0 (Open 0)))
    go (no n) = inr (omega arith, put_other (λ x. Free) 0 (Open 0) b n)

module _ (threads blocks ceiling : ℕ) (two : 2 ≤ blocks) where
  abbrev pub first : State
  first = state_of (at_start threads blocks ceiling) (fresh (pool_len threads blocks) blocks) first_ghost

  -- who has a block that is not free
  open_zero : (b l : ℕ) → own first b ≡ Open l → (b ≡ 0) × (l ≡ 0)
  open_zero b l e =
      ⊎_elim
      (λ (p : (b ≡ 0) × (first_own b ≡ Open 0)). let q : first_own b ≡ Open 0 = p.1 in let z : l ≡ 0 = cc in (p.0, z))
      (λ (p : (1 ≤ b) × (first_own b ≡ Free)). let q : first_own b ≡ Free = p.1 in apart (cc))
      (own_is b)

  pub no-held : {A : Type 0} (b i : ℕ) → own first b ≡ Held i → A
  no-held b i e =
      ⊎_elim
      (λ (p : (b ≡ 0) × (first_own b ≡ Open 0)). let q : first_own b ≡ Open 0 = p.1 in apart (cc))
      (λ (p : (1 ≤ b) × (first_own b ≡ Free)). let q : first_own b ≡ Free = p.1 in apart (cc))
      (own_is b)

  pub no-back : {A : Type 0} (b l f i : ℕ) → own first b ≡ Back l f i → A
  no-back b l f i e =
      ⊎_elim
      (λ (p : (b ≡ 0) × (first_own b ≡ Open 0)). let q : first_own b ≡ Open 0 = p.1 in apart (cc))
      (λ (p : (1 ≤ b) × (first_own b ≡ Free)). let q : first_own b ≡ Free = p.1 in apart (cc))
      (own_is b)

  -- no slot has a mark, and no block a next
  no_mark : {A : Type 0} (k : Mark) (b o : ℕ) → o < 63 → has k (state first.pool b o) ≡ true → A
  no_mark k b o h e =
      clash (has k (state first.pool b o)) e (ap (has k) (fresh-state (pool_len threads blocks) blocks b o h) ∙ has-none k)

  no-next : {A : Type 0} (b x : ℕ) → nxt first b ≡ Some x → A
  no-next b x e = let f = fresh-next (pool_len threads blocks) blocks b in apart (cc)

  front-last : (b l o : ℕ) → lap_of (own first b) ≡ some l → o < 63 → front (own first b) ≤ o → ⊥
  front-last b l o e h f =
      ⊎_elim
      (λ (p : (b ≡ 0) × (first_own b ≡ Open 0)). let g : front (Open 0) ≤ o = rw p.1 at f in omega arith)
      (λ (p : (1 ≤ b) × (first_own b ≡ Free)). none-some l (sym (ap lap_of p.1) ∙ e))
      (own_is b)

  freed : (b : ℕ) → b < blocks → own first b ≡ Free → Rattle.invariant.specs.State.free first b ≡ true
  freed b h e =
      ⊎_elim
      (λ (p : (b ≡ 0) × (first_own b ≡ Open 0)). let q : first_own b ≡ Open 0 = p.1 in apart (cc))
      (λ (p : (1 ≤ b) × (first_own b ≡ Free)). fresh-free (pool_len threads blocks) blocks b (omega arith) p.0 h)
      (own_is b)

  taken : (b : ℕ) → b < blocks → Rattle.invariant.specs.State.free first b ≡ true → own first b ≡ Free
  taken b h e =
      ⊎_elim
      (λ (p : (b ≡ 0) × (first_own b ≡ Open 0)).
      let z : b ≡ 0 = p.0 in
      clash (Rattle.invariant.specs.State.free first b) e (fresh-used (pool_len threads blocks) blocks b (λ i j. omega arith)))
      (λ (p : (1 ≤ b) × (first_own b ≡ Free)). p.1)
      (own_is b)

  number : (b : ℕ) → (own first b ≡ Free → ⊥) → b < blocks
  number b f =
      ⊎_elim (λ (p : (b ≡ 0) × (first_own b ≡ Open 0)). let z : b ≡ 0 = p.0 in omega arith)
      (λ (p : (1 ≤ b) × (first_own b ≡ Free)). absurd (f p.1))
      (own_is b)

  pub start-shared : Shared first
  start-shared =
      record {
        sized = length-fresh (pool_len threads blocks) blocks;
        even = refl;
        ceiling = omega arith;
        order = omega arith;
        flag = λ (e : ◌≡◌ {A = ℕ} 0 1). apart e;
        freed = freed;
        taken = taken;
        number = number;
        open_from = λ b l e. omega arith;
        open_to = λ b l e. omega (arith, (open_zero b l e).1);
        open_at = λ b l e. sym (open_zero b l e).0;
        back_to = λ b l f i e. no-back b l f i e;
        back_at = λ b l f i e. no-back b l f i e;
        live = λ l p q. let z : l ≡ 0 = omega arith in rw z;
        tail-number = omega arith;
        tail_at = λ e. refl;
        head-number = omega arith;
        head_at = λ e. refl;
        next-number = λ b x h e. no-next b x e;
        held_next = λ b i e. no-held b i e;
        held-clean = λ b i o e h. no-held b i e;
        next-lap = λ b l x e f. no-next b x f;
        next-at = λ b l x e f. no-next b x f;
        written = λ b l o e h w. no_mark Write b o h w;
        token = λ b l o e h w. no_mark Write b o h w;
        read-written = λ b l o e h r. no_mark Read b o h r;
        read-claimed = λ b l o e h r. no_mark Read b o h r;
        destroy_front = λ b l o e h d. no_mark Destroy b o h d;
        destroy_below = λ b l o e h d. no_mark Destroy b o h d;
        front-written = λ b l o e h f. absurd (front-last b l o e h f);
      }

  pub idle-ok : (n : ℕ) (f : Flavor) → ThreadOk first n (idle_thread f)
  idle-ok n f =
      record { tokens = length-replicate {A = ℕ} 64 0; count = omega arith; taken = length-replicate {A = ℕ} 63 0; call = tt }

-- the thread at each place is idle, of its flavour
start-thread : (flavors : List Flavor) (blocks ceiling n : ℕ) → thread_at (start flavors blocks ceiling) n ≡ idle_thread (get_or flavors n Fifo)
start-thread flavors blocks ceiling n = get_or-map idle_thread flavors n Fifo

pub start-world : (flavors : List Flavor) (blocks ceiling : ℕ) → 2 ≤ blocks → World flavors blocks ceiling (start flavors blocks ceiling) none_yet
start-world flavors blocks ceiling two =
    record {
      ghost = first_ghost;
      sound =
          record {
            shared = start-shared (length flavors) blocks ceiling two;
            size = refl;
            log = λ k b. absurd (omega arith);
            done = refl;
          };
      threads =
          λ n.
          subst (λ (t : Thread). Mine flavors (first (length flavors) blocks ceiling two) none_yet n t) (sym (start-thread flavors blocks ceiling n))
          (record { ok = idle-ok (length flavors) blocks ceiling two n (get_or flavors n Fifo); stage = refl; flavor = refl });
      counts = record { same-threads = refl; same_blocks = refl; same-ceiling = refl };
      sized = length-map flavors idle_thread;
    }
