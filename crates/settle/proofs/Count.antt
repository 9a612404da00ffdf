-- With every call ended the length counts the tickets between head and tail, and the blocks in use the laps.
use Prim.Native.Nat.{ℕ, zero, suc, ◌+◌, ◌-◌, ◌≤◌, ◌<◌}
use mathlib.Core.Path.{◌≡◌, refl, sym, ap, subst, ◌∙◌}
use mathlib.Core.Bool.{Bool, true, false, cond}
use mathlib.Core.Logic.{⊎_elim}
use mathlib.Core.List.{List}
use native.Mathlib.Omega.{arith}
use native.Mathlib.Decide.{ℕ_discrete}
use native.Mathlib.Nat.{eq-or-lt_of_le}
use Rattle.index.specs.Position.{position, lap, ticket}
use Rattle.index.specs.Length.{len}
use Rattle.index.proofs.Tickets.{len_tickets}
use Rattle.memory.specs.Layout.{is_free}
use Rattle.state.specs.declared.Call.{Call}
use Rattle.state.specs.declared.Call.TheVariants.{Idle}
use Rattle.history.specs.Board.{Board, thread_at}
use Rattle.invariant.specs.Ghost.{Own, Free, Held, Open, Back, lap_of}
use Rattle.invariant.specs.State.{State, lp, off, T, H, N, free, own}
use Rattle.invariant.proofs.Facts.{put, put_same, put_other, clash, true-or-false, some_inj, none-some}
use Rattle.settle.specs.Views.{Carries}
use Rattle.settle.specs.Whole.{Whole, state_of}
use Rattle.settle.specs.Rounds.{is_open_at, used}
use Rattle.settle.proofs.Moves.{idle-is, idle-call}

-- ---- counting

-- how many of the first n places are not marked
abbrev unmarked : (ℕ → Bool) → ℕ → ℕ
unmarked f zero = 0
unmarked f (suc n) = cond (f n) (unmarked f n) (suc (unmarked f n))

used-unmarked : (m : List ℕ) (n : ℕ) → used m n ≡ unmarked (is_free m) n
used-unmarked m zero = refl
used-unmarked m (suc n) = ap (λ (k : ℕ). cond (is_free m n) k (suc k)) (used-unmarked m n)

same-marks : (f g : ℕ → Bool) (n : ℕ) → ((x : ℕ) → x < n → f x ≡ g x) → unmarked f n ≡ unmarked g n
same-marks f g zero e = refl
same-marks f g (suc n) e = rw (e n (omega arith), same-marks f g n (λ x b. e x (omega arith)))

all-marked : (f : ℕ → Bool) (n : ℕ) → ((x : ℕ) → x < n → f x ≡ true) → unmarked f n ≡ 0
all-marked f zero e = refl
all-marked f (suc n) e = rw (e n (omega arith)) (all-marked f n (λ x b. e x (omega arith)))

-- one place marked is one place less
one_less : (f : ℕ → Bool) (n y : ℕ) → y < n → f y ≡ false → unmarked f n ≡ suc (unmarked (put f y true) n)
one_less f zero y b e = absurd (omega arith)
one_less f (suc n) y b e =
    ⊎_elim
    (λ (z : y ≡ n).
    rw (sym z, put_same f y true, e)
    (ap suc (same-marks f (put f y true) y (λ x c. sym (put_other f y true x (λ i. omega arith))))))
    (λ (z : y < n).
    rw (put_other f y true n (λ i. omega arith))
    (at (f n) (one_less f n y z e)))
    (eq-or-lt_of_le (omega arith))
  where
    at : (c : Bool) → unmarked f n ≡ suc (unmarked (put f y true) n)
        → cond c (unmarked f n) (suc (unmarked f n)) ≡ suc (cond c (unmarked (put f y true) n) (suc (unmarked (put f y true) n)))
    at true p = p
    at false p = ap suc p

-- x is g at some place below k
record Found (g : ℕ → ℕ) (k x : ℕ) : Type 0 where
  place : ℕ
  below : place < k
  at : g place ≡ x

-- the places not marked are as many as those that enumerate them, each once
record Listed (f : ℕ → Bool) (n : ℕ) (g : ℕ → ℕ) (k : ℕ) : Type 0 where
  inside : (d : ℕ) → d < k → g d < n
  plain : (d : ℕ) → d < k → f (g d) ≡ false
  found : (x : ℕ) → x < n → f x ≡ false → Found g k x
  once : (c d : ℕ) → c < k → d < k → g c ≡ g d → c ≡ d

count : (k : ℕ) (f : ℕ → Bool) (n : ℕ) (g : ℕ → ℕ) → Listed f n g k → unmarked f n ≡ k
count zero f n g h =
    all-marked f n
    (λ x b.
    ⊎_elim (λ (e : f x ≡ true). e) (λ (e : f x ≡ false). let p = h.found x b e in let c = p.below in absurd (omega arith))
    (true-or-false (f x)))
count (suc k) f n g h =
    one_less f n (g k) (h.inside k (omega arith)) (h.plain k (omega arith))
    ∙ ap suc (count k (put f (g k) true) n g rest)
  where
    apart : (d : ℕ) → d < k → g d ≡ g k → ⊥
    apart d b e = let z = h.once d k (omega arith) (omega arith) e in omega arith

    rest : Listed (put f (g k) true) n g k
    rest =
        record {
          inside = λ d b. h.inside d (omega arith);
          plain = λ d b. put_other f (g k) true (g d) (apart d b) ∙ h.plain d (omega arith);
          found = λ x b e. by x b e (ℕ_discrete x (g k));
          once = λ c d b a e. h.once c d (omega arith) (omega arith) e;
        }
      where
        at_last : (x : ℕ) → (x ≡ g k → ⊥) → Found g (suc k) x → Found g k x
        at_last x o p =
            let b = p.below in
            ⊎_elim (λ (z : p.place ≡ k). absurd (o (sym p.at ∙ ap g z))) (λ (z : p.place < k). record { place = p.place; below = z; at = p.at })
            (eq-or-lt_of_le (omega arith))

        by : (x : ℕ) → x < n → put f (g k) true x ≡ false → Dec (x ≡ g k) → Found g k x
        by x b e (yes z) = clash true refl (sym (rw z (put_same f (g k) true)) ∙ e)
        by x b e (no o) = at_last x o (h.found x b (sym (put_other f (g k) true x o) ∙ e))

-- ---- with every call ended

module _ (w : Board) (h : Whole w) (ended : (n : ℕ) → is_open_at w n ≡ false) where
  abbrev s : State
  s = state_of w h.ghost

  idle : (n : ℕ) → (thread_at w n).call ≡ Idle
  idle n = idle-is (thread_at w n).call (idle-call w n (ended n))

  -- neither index waits at offset 63
  pub tail_moves : off (T s) ≡ 63 → ⊥
  tail_moves e = clash true refl (sym (rw (idle _) at (h.owed.installer e)))

  pub head_moves : off (H s) ≡ 63 → ⊥
  head_moves e = clash true refl (sym (rw (idle _) at (h.owed.mover e)))

  pub none-held : (b j : ℕ) → own s b ≡ Held j → ⊥
  none-held b j e = none-some b (rw (idle j) at (h.owed.held b j e))

  pub none-back : (b l f j : ℕ) → own s b ≡ Back l f j → ⊥
  none-back b l f j e = subst (λ (c : Call). Carries s c b l f) (idle j) (h.owed.back b l f j e)

  -- the blocks in use, by their laps
  abbrev serving : ℕ → ℕ
  serving d = h.ghost.chain (lp (H s) + d)

  abbrev laps : ℕ
  laps = lp (T s) - lp (H s) + 1

  order : lp (H s) ≤ lp (T s)
  order = let o : position (H s) ≤ position (T s) = h.shared.order in omega arith

  serves : (d : ℕ) → d < laps → own s (serving d) ≡ Open (lp (H s) + d)
  serves d b = let o = order in h.shared.live (lp (H s) + d) (omega arith) (omega arith)

  open_free : (l : ℕ) → Open l ≡ Free → ⊥
  open_free l e = none-some l (sym (ap lap_of e))

  in_pool : (d : ℕ) → d < laps → serving d < N s
  in_pool d b = h.shared.number (serving d) (λ e. open_free (lp (H s) + d) (sym (serves d b) ∙ e))

  not_free : (d : ℕ) → d < laps → free s (serving d) ≡ false
  not_free d b =
      ⊎_elim
      (λ (e : free s (serving d) ≡ true).
      absurd (open_free (lp (H s) + d) (sym (serves d b) ∙ h.shared.taken (serving d) (in_pool d b) e)))
      (λ (e : free s (serving d) ≡ false). e)
      (true-or-false (free s (serving d)))

  who : (x : ℕ) → x < N s → free s x ≡ false → (o : Own) → own s x ≡ o → Found serving laps x
  who x b e Free f = clash (free s x) (h.shared.freed x b f) e
  who x b e (Held j) f = absurd (none-held x j f)
  who x b e (Back l g j) f = absurd (none-back x l g j f)
  who x b e (Open l) f =
      let from : lp (H s) ≤ l = h.shared.open_from x l f in
      let to : l ≤ lp (T s) = h.shared.open_to x l f in
      let z : lp (H s) + (l - lp (H s)) ≡ l = omega arith in
      record { place = l - lp (H s); below = omega arith; at = ap h.ghost.chain z ∙ h.shared.open_at x l f }

  one-lap : (c d : ℕ) → c < laps → d < laps → serving c ≡ serving d → c ≡ d
  one-lap c d a b e =
      let z : lp (H s) + c ≡ lp (H s) + d = some_inj _ _ (ap lap_of (sym (serves c a) ∙ ap (λ (x : ℕ). own s x) e ∙ serves d b)) in
      omega arith

  in_use : used w.pool w.queue.blocks ≡ laps
  in_use =
      used-unmarked w.pool w.queue.blocks
      ∙ count laps (is_free w.pool) w.queue.blocks serving
      (record { inside = in_pool; plain = not_free; found = λ x b e. who x b e (own s x) refl; once = one-lap })

pub settled-counts : (w : Board) → Whole w → ((n : ℕ) → is_open_at w n ≡ false)
    → (len (position w.queue.tail.raw) (position w.queue.head.raw) ≡ ticket (position w.queue.tail.raw) - ticket (position w.queue.head.raw))
    × (used w.pool w.queue.blocks ≡ lap (position w.queue.tail.raw) - lap (position w.queue.head.raw) + 1)
settled-counts w h ended =
    (len_tickets (position w.queue.tail.raw) (position w.queue.head.raw) h.shared.order, in_use w h ended)
