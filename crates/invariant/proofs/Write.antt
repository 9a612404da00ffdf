-- P8 and P9: a push writes its token, and marks its slot WRITE.
use Rattle.std.specs.Prelude.{Option, None, Some}
use Prim.Native.Nat.{ℕ, ◌+◌, ◌*◌, ◌<◌}
use mathlib.Core.Path.{◌≡◌, refl, sym, ap, ap₂, subst, ◌∙◌}
use mathlib.Core.Bool.{true, false}
use mathlib.Core.List.{List}
use native.Mathlib.Omega.{arith}
use native.Mathlib.Nat.{le_refl}
use native.Mathlib.Decide.{ℕ_discrete}
use Rattle.index.specs.declared.Index.{Index}
use Rattle.memory.specs.Layout.{state, has, or}
use Rattle.memory.specs.Touch.{writes_token, writes_state, after}
use Rattle.memory.specs.Laws.{Room, length-after, has-or, has-or-other, token-written, state-written}
use Rattle.memory.proofs.Apart.{token-writes_token, token-writes_state, state-writes_token, state-writes_state, next-writes_token, next-writes_state, free-writes_token, free-writes_state}
use Rattle.memory.specs.declared.Mark.{Mark}
use Rattle.memory.specs.declared.Mark.TheVariants.{Write, Read, Destroy}
use Rattle.state.specs.declared.PushLine.TheVariants.{P8, P9}
use Rattle.machine.specs.Push.{p8, p9, p9_ends}
use Rattle.invariant.specs.Ghost.{Held, some, lap_of}
use Rattle.invariant.specs.State.{State, lp, off, tk, np, W, R, D, tok, nxt, free, own}
use Rattle.invariant.specs.Shared.{Shared}
use Rattle.invariant.specs.Lines.{HeldOk, Owes, P9Ok, PushOk}
use Rattle.invariant.specs.Rely.{Rely}
use Rattle.invariant.specs.Kept.{Kept}
use Rattle.invariant.proofs.Facts.{clash, none-some, some_inj, serving-number, room}

-- the place that a push writes to: the slot of t in block b
module _ (s : State) (i v t b : ℕ) (h : Shared s) (owes : Owes s i v t b) where
  mapped : Room s.pool b
  mapped = room s h b (serving-number s h b (lp t) owes.serves)

  -- it has the push's ticket, so no other thread owes it
  the_ticket : (c l o : ℕ) → lap_of (own s c) ≡ some l → c ≡ b → o ≡ off t → 63 * l + o ≡ tk t
  the_ticket c l o p e f =
      omega (arith, some_inj l (lp t) (sym p ∙ ap (λ (x : ℕ). lap_of (own s x)) e ∙ owes.serves))

  elsewhere : (j c l o : ℕ) → (j ≡ i → ⊥) → lap_of (own s c) ≡ some l → s.ghost.pusher (63 * l + o) ≡ j → c ≡ b → o ≡ off t → ⊥
  elsewhere j c l o n p q e f = n (sym q ∙ ap s.ghost.pusher (the_ticket c l o p e f) ∙ owes.pusher)

  not-held : {A : Type 0} (c j : ℕ) → own s c ≡ Held j → c ≡ b → A
  not-held c j q e = none-some (lp t) (sym (ap lap_of q) ∙ ap (λ (x : ℕ). lap_of (own s x)) e ∙ owes.serves)

  not_written : (c o : ℕ) → c ≡ b → o ≡ off t → W s c o ≡ false
  not_written c o e f = ap₂ (W s) e f ∙ owes.unwritten

-- P8

abbrev pub told-on : State → ℕ → ℕ → ℕ → State
told-on s v t b = record { queue = s.queue; pool = after s.pool (writes_token b (off t) v); ghost = s.ghost }

module _ (s : State) (i v t b : ℕ) (h : Shared s) (owes : Owes s i v t b) where
  told-state : (c o : ℕ) → o < 63 → state (told-on s v t b).pool c o ≡ state s.pool c o
  told-state c o q = state-writes_token s.pool b (off t) v c o owes.slot q

  told-was : (k : Mark) (c o : ℕ) → o < 63 → has k (state s.pool c o) ≡ has k (state (told-on s v t b).pool c o)
  told-was k c o q = sym (ap (has k) (told-state c o q))

  told-next : (c : ℕ) → nxt (told-on s v t b) c ≡ nxt s c
  told-next c = next-writes_token s.pool b (off t) v c owes.slot

  told_free : (c : ℕ) → free (told-on s v t b) c ≡ free s c
  told_free c = free-writes_token s.pool b (off t) v c owes.slot

  told-token : (c o : ℕ) → o < 63 → (c ≡ b → o ≡ off t → ⊥) → tok (told-on s v t b) c o ≡ tok s c o
  told-token c o q n = token-writes_token s.pool b (off t) v c o owes.slot q n

  pub p8-shared : Shared (told-on s v t b)
  p8-shared =
      record {
        sized = length-after s.pool (writes_token b (off t) v) ∙ h.sized;
        even = h.even;
        ceiling = h.ceiling;
        order = h.order;
        flag = h.flag;
        freed = λ c q f. told_free c ∙ h.freed c q f;
        taken = λ c q f. h.taken c q (sym (told_free c) ∙ f);
        number = h.number;
        open_from = h.open_from;
        open_to = h.open_to;
        open_at = h.open_at;
        back_to = h.back_to;
        back_at = h.back_at;
        live = h.live;
        tail-number = h.tail-number;
        tail_at = h.tail_at;
        head-number = h.head-number;
        head_at = h.head_at;
        next-number = λ c x q f. h.next-number c x q (sym (told-next c) ∙ f);
        held_next = λ c j q. told-next c ∙ h.held_next c j q;
        held-clean = λ c j o p q. told-state c o q ∙ h.held-clean c j o p q;
        next-lap = λ c l x p f. h.next-lap c l x p (sym (told-next c) ∙ f);
        next-at = λ c l x p f. h.next-at c l x p (sym (told-next c) ∙ f);
        written = λ c l o p q m. h.written c l o p q (told-was Write c o q ∙ m);
        token = λ c l o p q m.
            let w = told-was Write c o q ∙ m in
            told-token c o q (λ e f. clash (W s c o) w (not_written s i v t b h owes c o e f)) ∙ h.token c l o p q w;
        read-written = λ c l o p q m. sym (told-was Write c o q) ∙ h.read-written c l o p q (told-was Read c o q ∙ m);
        read-claimed = λ c l o p q m. h.read-claimed c l o p q (told-was Read c o q ∙ m);
        destroy_front = λ c l o p q m. h.destroy_front c l o p q (told-was Destroy c o q ∙ m);
        destroy_below = λ c l o p q m. h.destroy_below c l o p q (told-was Destroy c o q ∙ m);
        front-written = λ c l o p q m. sym (told-was Write c o q) ∙ h.front-written c l o p q m;
      }

  pub p8_rely : (j : ℕ) → (j ≡ i → ⊥) → Rely j s (told-on s v t b)
  p8_rely j n =
      record {
        blocks = refl;
        ceiling = refl;
        tail = le_refl _;
        head = le_refl _;
        tail-block = λ q r. refl;
        head-block = λ q r. refl;
        installing = λ q r. (refl, refl);
        leaving = λ q r. (refl, refl);
        pushed = λ k q. refl;
        pusher = λ k q. refl;
        claimer = λ k q. refl;
        chain = λ l q. refl;
        first = refl;
        held = λ c q. q;
        walk = λ c q. refl;
        owed-serves = λ c l o h1 h2 h3 h4 h5. h1;
        owed-unwritten = λ c l o h1 h2 h3 h4 h5. sym (told-was Write c o h2) ∙ h5;
        owed-token = λ c l o h1 h2 h3 h4 h5. told-token c o h2 (elsewhere s i v t b h owes j c l o n h1 h4);
        claim = λ c l o h1 h2 h3 h4 h5 h6 h7. (h1, h5, sym (told-was Read c o h2) ∙ h6, λ d. h7 (told-was Destroy c o h2 ∙ d));
        wrote = λ c l o h1 h2 h3. sym (told-was Write c o h2) ∙ h3;
      }

  p8-owes : Owes (told-on s v t b) i v t b
  p8-owes =
      record {
        slot = owes.slot;
        below = owes.below;
        pusher = owes.pusher;
        pushed = owes.pushed;
        serves = owes.serves;
        unwritten = sym (told-was Write b (off t) owes.slot) ∙ owes.unwritten;
      }

  p8-held : (held : Option ℕ) → HeldOk s i held → HeldOk (told-on s v t b) i held
  p8-held None q = q
  p8-held (Some x) q = q

  p8-next : (held : Option ℕ) → HeldOk s i held → P9Ok (told-on s v t b) i v t b held
  p8-next held q =
      record {
        owes = p8-owes;
        holds = p8-held held q;
        token = token-written s.pool b (off t) v owes.slot (mapped s i v t b h owes);
      }

pub p8-kept : (s : State) (i count : ℕ) (taken : List ℕ) (v : ℕ) (t : Index) (b : ℕ) (held : Option ℕ)
    → Shared s → PushOk s i (P8 v t b held) → Kept s i count taken (p8 s.queue v t b held)
p8-kept s i count taken v t b held h ok =
    record {
      ghost = s.ghost;
      shared = p8-shared s i v t.raw b h ok.owes;
      call = p8-next s i v t.raw b h ok.owes held ok.holds;
      others = p8_rely s i v t.raw b h ok.owes;
    }

-- P9

abbrev pub marked : State → ℕ → ℕ → ℕ
marked s t b = or (state s.pool b (off t)) Write

abbrev pub marked-on : State → ℕ → ℕ → State
marked-on s t b = record { queue = s.queue; pool = after s.pool (writes_state b (off t) (marked s t b)); ghost = s.ghost }

module _ (s : State) (i v t b : ℕ) (h : Shared s) (owes : Owes s i v t b) where
  -- what is said of the slots' states: of the push's slot, and of every other
  words : (P : ℕ → Type 0) (c o : ℕ) → o < 63 → (c ≡ b → o ≡ off t → P (marked s t b))
      → ((c ≡ b → o ≡ off t → ⊥) → P (state s.pool c o)) → P (state (marked-on s t b).pool c o)
  words P c o q here there = at (ℕ_discrete c b) (ℕ_discrete o (off t))
    where
      other : (c ≡ b → o ≡ off t → ⊥) → P (state (marked-on s t b).pool c o)
      other n = subst P (sym (state-writes_state s.pool b (off t) (marked s t b) c o owes.slot q n)) (there n)

      same : c ≡ b → o ≡ off t → state (marked-on s t b).pool c o ≡ marked s t b
      same e f =
          ap₂ (state (marked-on s t b).pool) e f
          ∙ state-written s.pool b (off t) (marked s t b) owes.slot (mapped s i v t b h owes)

      at : Dec (c ≡ b) → Dec (o ≡ off t) → P (state (marked-on s t b).pool c o)
      at (yes e) (yes f) = subst P (sym (same e f)) (here e f)
      at (yes e) (no n) = other (λ x y. n y)
      at (no n) d = other (λ x y. n x)

  -- the other marks stay, WRITE stays where it is, and is new at the push's slot alone
  kept : (k : Mark) (c o : ℕ) → (k ≡ Write → ⊥) → o < 63 → has k (state s.pool c o) ≡ has k (state (marked-on s t b).pool c o)
  kept k c o n q =
      words (λ w. has k (state s.pool c o) ≡ has k w) c o q
      (λ e f. ap₂ (λ x y. has k (state s.pool x y)) e f ∙ sym (has-or-other k Write (state s.pool b (off t)) n))
      (λ m. refl)

  pub read_kept : (c o : ℕ) → o < 63 → R s c o ≡ R (marked-on s t b) c o
  read_kept c o q = kept Read c o (λ e. cc) q

  pub destroy_kept : (c o : ℕ) → o < 63 → D s c o ≡ D (marked-on s t b) c o
  destroy_kept c o q = kept Destroy c o (λ e. cc) q

  pub still : (c o : ℕ) → o < 63 → W s c o ≡ true → W (marked-on s t b) c o ≡ true
  still c o q m = words (λ w. has Write w ≡ true) c o q (λ e f. has-or Write (state s.pool b (off t))) (λ n. m)

  pub now-written : W (marked-on s t b) b (off t) ≡ true
  now-written =
      words (λ w. has Write w ≡ true) b (off t) owes.slot (λ e f. has-or Write (state s.pool b (off t))) (λ n. absurd (n refl refl))

  newly : (A : Type 0) (c o : ℕ) → o < 63 → (c ≡ b → o ≡ off t → A) → (W s c o ≡ true → A) → W (marked-on s t b) c o ≡ true → A
  newly A c o q here there = words (λ w. has Write w ≡ true → A) c o q (λ e f m. here e f) (λ n. there)

  unmarked : (c o : ℕ) → o < 63 → (c ≡ b → o ≡ off t → ⊥) → W s c o ≡ false → W (marked-on s t b) c o ≡ false
  unmarked c o q n m = words (λ w. has Write w ≡ false) c o q (λ e f. absurd (n e f)) (λ n. m)

  marked_next : (c : ℕ) → nxt (marked-on s t b) c ≡ nxt s c
  marked_next c = next-writes_state s.pool b (off t) (marked s t b) c owes.slot

  marked-free : (c : ℕ) → free (marked-on s t b) c ≡ free s c
  marked-free c = free-writes_state s.pool b (off t) (marked s t b) c owes.slot

  marked-token : (c o : ℕ) → o < 63 → tok (marked-on s t b) c o ≡ tok s c o
  marked-token c o q = token-writes_state s.pool b (off t) (marked s t b) c o owes.slot q

  -- the slot's token is the one pushed under its ticket
  now-token : tok s b (off t) ≡ v → (c l o : ℕ) → lap_of (own s c) ≡ some l → c ≡ b → o ≡ off t → tok s c o ≡ s.ghost.pushed (63 * l + o)
  now-token told c l o p e f =
      ap₂ (tok s) e f ∙ told ∙ sym owes.pushed ∙ ap s.ghost.pushed (sym (the_ticket s i v t b h owes c l o p e f))

  pub p9-shared : tok s b (off t) ≡ v → Shared (marked-on s t b)
  p9-shared told =
      record {
        sized = length-after s.pool (writes_state b (off t) (marked s t b)) ∙ h.sized;
        even = h.even;
        ceiling = h.ceiling;
        order = h.order;
        flag = h.flag;
        freed = λ c q f. marked-free c ∙ h.freed c q f;
        taken = λ c q f. h.taken c q (sym (marked-free c) ∙ f);
        number = h.number;
        open_from = h.open_from;
        open_to = h.open_to;
        open_at = h.open_at;
        back_to = h.back_to;
        back_at = h.back_at;
        live = h.live;
        tail-number = h.tail-number;
        tail_at = h.tail_at;
        head-number = h.head-number;
        head_at = h.head_at;
        next-number = λ c x q f. h.next-number c x q (sym (marked_next c) ∙ f);
        held_next = λ c j q. marked_next c ∙ h.held_next c j q;
        held-clean = λ c j o p q.
            words (λ w. w ≡ 0) c o q (λ e f. not-held s i v t b h owes c j p e) (λ n. h.held-clean c j o p q);
        next-lap = λ c l x p f. h.next-lap c l x p (sym (marked_next c) ∙ f);
        next-at = λ c l x p f. h.next-at c l x p (sym (marked_next c) ∙ f);
        written = λ c l o p q.
            newly (63 * l + o < np s) c o q
            (λ e f. omega (arith, the_ticket s i v t b h owes c l o p e f, owes.below))
            (h.written c l o p q);
        token = λ c l o p q m.
            marked-token c o q
            ∙ newly (tok s c o ≡ s.ghost.pushed (63 * l + o)) c o q (now-token told c l o p) (h.token c l o p q) m;
        read-written = λ c l o p q m. still c o q (h.read-written c l o p q (read_kept c o q ∙ m));
        read-claimed = λ c l o p q m. h.read-claimed c l o p q (read_kept c o q ∙ m);
        destroy_front = λ c l o p q m. h.destroy_front c l o p q (destroy_kept c o q ∙ m);
        destroy_below = λ c l o p q m. h.destroy_below c l o p q (destroy_kept c o q ∙ m);
        front-written = λ c l o p q m. still c o q (h.front-written c l o p q m);
      }

  pub p9_rely : (j : ℕ) → (j ≡ i → ⊥) → Rely j s (marked-on s t b)
  p9_rely j n =
      record {
        blocks = refl;
        ceiling = refl;
        tail = le_refl _;
        head = le_refl _;
        tail-block = λ q r. refl;
        head-block = λ q r. refl;
        installing = λ q r. (refl, refl);
        leaving = λ q r. (refl, refl);
        pushed = λ k q. refl;
        pusher = λ k q. refl;
        claimer = λ k q. refl;
        chain = λ l q. refl;
        first = refl;
        held = λ c q. q;
        walk = λ c q. refl;
        owed-serves = λ c l o h1 h2 h3 h4 h5. h1;
        owed-unwritten = λ c l o h1 h2 h3 h4 h5. unmarked c o h2 (elsewhere s i v t b h owes j c l o n h1 h4) h5;
        owed-token = λ c l o h1 h2 h3 h4 h5. marked-token c o h2;
        claim = λ c l o h1 h2 h3 h4 h5 h6 h7. (h1, h5, sym (read_kept c o h2) ∙ h6, λ d. h7 (destroy_kept c o h2 ∙ d));
        wrote = λ c l o h1 h2 h3. still c o h2 h3;
      }

-- the push ends, or gives back the block that it still holds
p9-by : (s : State) (i count : ℕ) (taken : List ℕ) (v : ℕ) (t : Index) (b : ℕ) (held : Option ℕ) → Shared s → PushOk s i (P9 v t b held)
    → Kept s i count taken (p9_ends s.queue held (writes_state b (off t.raw) (marked s t.raw b)))
p9-by s i count taken v t b None h ok =
    record {
      ghost = s.ghost;
      shared = p9-shared s i v t.raw b h ok.owes ok.token;
      call = tt;
      others = p9_rely s i v t.raw b h ok.owes;
    }
p9-by s i count taken v t b (Some x) h ok =
    record {
      ghost = s.ghost;
      shared = p9-shared s i v t.raw b h ok.owes ok.token;
      call = ok.holds;
      others = p9_rely s i v t.raw b h ok.owes;
    }

pub p9-kept : (s : State) (i count : ℕ) (taken : List ℕ) (v : ℕ) (t : Index) (b : ℕ) (held : Option ℕ)
    → Shared s → PushOk s i (P9 v t b held) → Kept s i count taken (p9 s.queue s.pool v t b held)
unfolding p9
p9-kept s i count taken v t b held h ok = p9-by s i count taken v t b held h ok

-- the ghost that is chosen is the old one
module _ (s : State) (i count : ℕ) (taken : List ℕ) (v : ℕ) (t : Index) (b : ℕ) (h : Shared s) where
  pub p8-ghost : (held : Option ℕ) (ok : PushOk s i (P8 v t b held)) → (p8-kept s i count taken v t b held h ok).ghost ≡ s.ghost
  unfolding p8-kept
  p8-ghost held ok = refl

  p9-by-ghost : (held : Option ℕ) (ok : PushOk s i (P9 v t b held)) → (p9-by s i count taken v t b held h ok).ghost ≡ s.ghost
  unfolding p9-by
  p9-by-ghost None ok = refl
  p9-by-ghost (Some x) ok = refl

  pub p9-ghost : (held : Option ℕ) (ok : PushOk s i (P9 v t b held)) → (p9-kept s i count taken v t b held h ok).ghost ≡ s.ghost
  unfolding p9 p9-kept
  p9-ghost held ok = p9-by-ghost held ok
