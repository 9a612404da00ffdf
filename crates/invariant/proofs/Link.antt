-- P7: the push that ended a lap links the next lap's block to its own.
use Rattle.std.specs.Prelude.{Option, None, Some}
use Prim.Native.Nat.{ℕ, ◌+◌, ◌<◌}
use mathlib.Core.Path.{◌≡◌, refl, sym, ap, ◌∙◌}
use mathlib.Core.List.{List}
use native.Mathlib.Omega.{arith}
use native.Mathlib.Nat.{le_refl}
use native.Mathlib.Decide.{ℕ_discrete}
use Rattle.index.specs.declared.Index.{Index}
use Rattle.memory.specs.Layout.{state, has}
use Rattle.memory.specs.Touch.{links, after}
use Rattle.memory.specs.Laws.{next-linked, length-after}
use Rattle.memory.proofs.Apart.{state-links, token-links, next-links, free-links}
use Rattle.memory.specs.declared.Mark.{Mark}
use Rattle.memory.specs.declared.Mark.TheVariants.{Write, Read, Destroy}
use Rattle.state.specs.declared.PushLine.TheVariants.{P7}
use Rattle.machine.specs.Push.{p7}
use Rattle.invariant.specs.Ghost.{Held, some, lap_of}
use Rattle.invariant.specs.State.{State, lp, off, T, N, tok, nxt, own}
use Rattle.invariant.specs.Shared.{Shared}
use Rattle.invariant.specs.Lines.{Owes, P7Ok, PushOk}
use Rattle.invariant.specs.Rely.{Rely}
use Rattle.invariant.specs.Kept.{Kept}
use Rattle.invariant.proofs.Facts.{none-some, some_inj, serving-number, room}

abbrev pub linked_on : State → ℕ → ℕ → State
linked_on s b x = record { queue = s.queue; pool = after s.pool (links b x); ghost = s.ghost }

block_inj : (a b : ℕ) → Some a ≡ Some b → a ≡ b
block_inj a b e = cc

module _ (s : State) (i v t b x : ℕ) (h : Shared s) (ok : P7Ok s i v t b x) where
  -- a mark that is seen afterwards was there, and the other way round
  pub was : (k : Mark) (a o : ℕ) → o < 63 → has k (state s.pool a o) ≡ has k (state (after s.pool (links b x)) a o)
  was k a o q = sym (ap (has k) (state-links s.pool b x a o q))

  same-token : (a o : ℕ) → o < 63 → tok (linked_on s b x) a o ≡ tok s a o
  same-token a o q = token-links s.pool b x a o q

  pub linked : nxt (linked_on s b x) b ≡ Some x
  linked = next-linked s.pool b x (room s h b (serving-number s h b (lp t) ok.owes.serves))

  -- what is said of the links: of b's, and of every other
  nexts : (P : Option ℕ → Type 0) (a : ℕ) → (a ≡ b → P (Some x)) → P (nxt s a) → P (nxt (linked_on s b x) a)
  nexts P a p q = at (ℕ_discrete a b)
    where
      at : Dec (a ≡ b) → P (nxt (linked_on s b x) a)
      at (yes e) = rw (ap (nxt (linked_on s b x)) e ∙ linked) (p e)
      at (no n) = rw (next-links s.pool b x a n) q

  -- b serves the lap of t, so it is not held
  the_lap : (a l : ℕ) → a ≡ b → lap_of (own s a) ≡ some l → l ≡ lp t
  the_lap a l e q = some_inj l (lp t) (sym q ∙ ap (λ (k : ℕ). lap_of (own s k)) e ∙ ok.owes.serves)

  not-held : {A : Type 0} (a j : ℕ) → a ≡ b → own s a ≡ Held j → A
  not-held a j e q = none-some (lp t) (sym (ap lap_of q) ∙ ap (λ (k : ℕ). lap_of (own s k)) e ∙ ok.owes.serves)

  next-chain : (a l y : ℕ) → a ≡ b → lap_of (own s a) ≡ some l → Some x ≡ Some y → s.ghost.chain (l + 1) ≡ y
  next-chain a l y e p q = ap (λ (k : ℕ). s.ghost.chain (k + 1)) (the_lap a l e p) ∙ ok.chain ∙ block_inj x y q

  pub p7-shared : Shared (linked_on s b x)
  p7-shared =
      record {
        sized = length-after s.pool (links b x) ∙ h.sized;
        even = h.even;
        ceiling = h.ceiling;
        order = h.order;
        flag = h.flag;
        freed = λ a q f. free-links s.pool b x a ∙ h.freed a q f;
        taken = λ a q f. h.taken a q (sym (free-links s.pool b x a) ∙ f);
        number = h.number;
        open_from = h.open_from;
        open_to = h.open_to;
        open_at = h.open_at;
        back_to = h.back_to;
        back_at = h.back_at;
        live = h.live;
        tail-number = h.tail-number;
        tail_at = h.tail_at;
        head-number = h.head-number;
        head_at = h.head_at;
        next-number = λ a y q. nexts (λ w. w ≡ Some y → y < N s) a (λ e f. omega (arith, block_inj x y f, ok.number)) (h.next-number a y q);
        held_next = λ a j q. nexts (λ w. w ≡ None) a (λ e. not-held a j e q) (h.held_next a j q);
        held-clean = λ a j o p q. state-links s.pool b x a o q ∙ h.held-clean a j o p q;
        next-lap = λ a l y p. nexts (λ w. w ≡ Some y → l < lp (T s)) a (λ e f. omega (arith, the_lap a l e p, ok.lap)) (h.next-lap a l y p);
        next-at = λ a l y p. nexts (λ w. w ≡ Some y → s.ghost.chain (l + 1) ≡ y) a (λ e. next-chain a l y e p) (h.next-at a l y p);
        written = λ a l o p q m. h.written a l o p q (was Write a o q ∙ m);
        token = λ a l o p q m. same-token a o q ∙ h.token a l o p q (was Write a o q ∙ m);
        read-written = λ a l o p q m. sym (was Write a o q) ∙ h.read-written a l o p q (was Read a o q ∙ m);
        read-claimed = λ a l o p q m. h.read-claimed a l o p q (was Read a o q ∙ m);
        destroy_front = λ a l o p q m. h.destroy_front a l o p q (was Destroy a o q ∙ m);
        destroy_below = λ a l o p q m. h.destroy_below a l o p q (was Destroy a o q ∙ m);
        front-written = λ a l o p q m. sym (was Write a o q) ∙ h.front-written a l o p q m;
      }

  pub p7_rely : (j : ℕ) → Rely j s (linked_on s b x)
  p7_rely j =
      record {
        blocks = refl;
        ceiling = refl;
        tail = le_refl _;
        head = le_refl _;
        tail-block = λ q r. refl;
        head-block = λ q r. refl;
        installing = λ q r. (refl, refl);
        leaving = λ q r. (refl, refl);
        pushed = λ k q. refl;
        pusher = λ k q. refl;
        claimer = λ k q. refl;
        chain = λ l q. refl;
        first = refl;
        held = λ a q. q;
        walk = λ a q. refl;
        owed-serves = λ a l o h1 h2 h3 h4 h5. h1;
        owed-unwritten = λ a l o h1 h2 h3 h4 h5. sym (was Write a o h2) ∙ h5;
        owed-token = λ a l o h1 h2 h3 h4 h5. same-token a o h2;
        claim = λ a l o h1 h2 h3 h4 h5 h6 h7. (h1, h5, sym (was Read a o h2) ∙ h6, λ d. h7 (was Destroy a o h2 ∙ d));
        wrote = λ a l o h1 h2 h3. sym (was Write a o h2) ∙ h3;
      }

  p7-owes : Owes s i v t b → Owes (linked_on s b x) i v t b
  p7-owes o =
      record {
        slot = o.slot;
        below = o.below;
        pusher = o.pusher;
        pushed = o.pushed;
        serves = o.serves;
        unwritten = sym (was Write b (off t) o.slot) ∙ o.unwritten;
      }

pub p7-kept : (s : State) (i count : ℕ) (taken : List ℕ) (v : ℕ) (t : Index) (b x : ℕ)
    → Shared s → PushOk s i (P7 v t b x) → Kept s i count taken (p7 s.queue v t b x)
p7-kept s i count taken v t b x h ok =
    record {
      ghost = s.ghost;
      shared = p7-shared s i v t.raw b x h ok;
      call = record { owes = p7-owes s i v t.raw b x h ok ok.owes; holds = tt };
      others = λ j n. p7_rely s i v t.raw b x h ok j;
    }

pub p7-ghost : (s : State) (i count : ℕ) (taken : List ℕ) (v : ℕ) (t : Index) (b x : ℕ) (h : Shared s) (ok : PushOk s i (P7 v t b x))
    → (p7-kept s i count taken v t b x h ok).ghost ≡ s.ghost
unfolding p7-kept
p7-ghost s i count taken v t b x h ok = refl
