-- What everybody uses of the conjuncts: who owns a block, which lap it serves, where its words are.
use Prim.Native.Nat.{ℕ, ◌≤◌, ◌<◌}
use mathlib.Core.Path.{◌≡◌, refl, sym, ap, subst, ◌∙◌}
use mathlib.Core.Bool.{Bool, true, false, ◌&&◌, cond}
use mathlib.Core.Logic.{◌⊎◌, inl, inr}
use native.Mathlib.Omega.{arith}
use borrow.Author.Tests.{leb-true}
use Rattle.memory.specs.Laws.{Room}
use Rattle.state.specs.List.{counts_good}
use Rattle.invariant.specs.Ghost.{none, some, Own, Free, Held, Open, Back, lap_of}
use Rattle.invariant.specs.State.{State, lp, T, N, own}
use Rattle.invariant.specs.Shared.{Shared}

-- what holds of both arms of a test, each under it, holds of the test
unfoldable pub cond_elim : {A : Type 0} (P : A → Type 0) (b : Bool) (x y : A) → (b ≡ true → P x) → (b ≡ false → P y) → P (cond b x y)
cond_elim P true x y f g = f refl
cond_elim P false x y f g = g refl

-- .. also of two tests of the same
pub cond_pair : {A B : Type 0} (P : A → B → Type 0) (b : Bool) (x y : A) (u v : B) → (b ≡ true → P x u) → (b ≡ false → P y v)
    → P (cond b x y) (cond b u v)
cond_pair P true x y u v f g = f refl
cond_pair P false x y u v f g = g refl

-- .. and what is read off it is what is read off the arm taken
pub cond-read : {A B : Type 0} (P : A → Type 0) (read : (a : A) → P a → B) (b : Bool) (x y : A) (f : b ≡ true → P x) (g : b ≡ false → P y) (u v : B)
    → ((e : b ≡ true) → read x (f e) ≡ u) → ((e : b ≡ false) → read y (g e) ≡ v) → read (cond b x y) (cond_elim P b x y f g) ≡ cond b u v
unfolding cond_elim
cond-read P read true x y f g u v p q = p refl
cond-read P read false x y f g u v p q = q refl

pub cond_same : {A B : Type 0} (P : A → Type 0) (read : (a : A) → P a → B) (b : Bool) (x y : A) (f : b ≡ true → P x) (g : b ≡ false → P y) (u : B)
    → ((e : b ≡ true) → read x (f e) ≡ u) → ((e : b ≡ false) → read y (g e) ≡ u) → read (cond b x y) (cond_elim P b x y f g) ≡ u
unfolding cond_elim
cond_same P read true x y f g u p q = p refl
cond_same P read false x y f g u p q = q refl

pub true-or-false : (b : Bool) → (b ≡ true) ⊎ (b ≡ false)
true-or-false true = inl refl
true-or-false false = inr refl

-- both cannot be
pub clash : {A : Type 0} (b : Bool) → b ≡ true → b ≡ false → A
clash b p q = absurd (let z : ◌≡◌ {A = ℕ} 0 1 = (let e : true ≡ false = sym p ∙ q in ap (λ (c : Bool). cond c 0 1) e) in omega arith)

pub and_left : (a b : Bool) → (a && b) ≡ true → a ≡ true
and_left true b e = refl
and_left false b e = e

and_right : (a b : Bool) → (a && b) ≡ true → b ≡ true
and_right true b e = e
and_right false b e = clash false e refl

-- counts in their ranges have two blocks at the least; the other ranges are of no account
pub two_blocks : (threads blocks ceiling : ℕ) → counts_good threads blocks ceiling ≡ true → 2 ≤ blocks
two_blocks threads blocks ceiling e = leb-true 2 blocks (search (and_left, and_right))

-- `f` with one place changed
abbrev pub put : {A : Type 0} → (ℕ → A) → ℕ → A → ℕ → A
put f k a j = cond (lib.Dec.eqb j k) a (f j)

pub put_same : {A : Type 0} (f : ℕ → A) (k : ℕ) (a : A) → put f k a k ≡ a
put_same f k a = rw (borrow.Author.Tests.eq-eqb k k refl)

pub put_other : {A : Type 0} (f : ℕ → A) (k : ℕ) (a : A) (j : ℕ) → (j ≡ k → ⊥) → put f k a j ≡ f j
put_other f k a j n = rw (borrow.Author.Tests.ne_eqb j k n)

-- a block that serves a lap is open or on its way back
pub data Serving (l : ℕ) : Own → Type 0 where
  is_open : Serving l (Open l)
  is-back : (f i : ℕ) → Serving l (Back l f i)

pub some_inj : (a b : ℕ) → some a ≡ some b → a ≡ b
some_inj a b e = cc

pub none-some : {A : Type 0} (a : ℕ) → none ≡ some a → A
none-some a e = cc

pub serving : (o : Own) (l : ℕ) → lap_of o ≡ some l → Serving l o
serving Free l e = none-some l e
serving (Held i) l e = none-some l e
serving (Open k) l e = subst (λ (x : ℕ). Serving l (Open x)) (sym (some_inj k l e)) is_open
serving (Back k f i) l e = subst (λ (x : ℕ). Serving l (Back x f i)) (sym (some_inj k l e)) (is-back f i)

module _ (s : State) (h : Shared s) where
  -- a block that is somebody's is one of the pool, and the memory has all of it
  pub serving-number : (b l : ℕ) → lap_of (own s b) ≡ some l → b < N s
  serving-number b l e = h.number b (λ f. none-some l (sym (ap lap_of f) ∙ e))

  pub held_number : (b i : ℕ) → own s b ≡ Held i → b < N s
  held_number b i e = h.number b (λ f. absurd (let g : Held i ≡ Free = sym e ∙ f in let z : ◌≡◌ {A = ℕ} 0 1 = cc in omega arith))

  pub room : (b : ℕ) → b < N s → Room s.pool b
  room b n = omega (arith, h.sized)

  -- a lap's block is one
  pub serves-at : (b l : ℕ) → lap_of (own s b) ≡ some l → s.ghost.chain l ≡ b
  serves-at b l e = go (own s b) refl (serving (own s b) l e)
    where
      go : (o : Own) → own s b ≡ o → Serving l o → s.ghost.chain l ≡ b
      go o q is_open = h.open_at b l q
      go o q (is-back f i) = h.back_at b l f i q

  pub serves-to : (b l : ℕ) → lap_of (own s b) ≡ some l → l ≤ lp (T s)
  serves-to b l e = go (own s b) refl (serving (own s b) l e)
    where
      go : (o : Own) → own s b ≡ o → Serving l o → l ≤ lp (T s)
      go o q is_open = h.open_to b l q
      go o q (is-back f i) = omega (arith, h.back_to b l f i q, h.order)

  pub one_block : (a b l : ℕ) → lap_of (own s a) ≡ some l → lap_of (own s b) ≡ some l → a ≡ b
  one_block a b l p q = sym (serves-at a l p) ∙ serves-at b l q
