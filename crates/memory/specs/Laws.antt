-- What everybody cites of the lent memory: what each reader reads where a touch hits, the bits of a state, which block is
-- taken, and the published lengths; where a touch does not hit is proofs/Apart.antt. The slots are those below 63.
use Rattle.std.specs.Prelude.{ℕ, zero, suc, ◌+◌, ◌-◌, ◌/◌, ◌%◌, ◌<◌, ◌≤◌, ◌≡◌, refl, ◌↔◌, Bool, true, false, cond, List, length, replicate, eqb, Option, None, Some}
use Rattle.std.proofs.Common.{ap, ◌∙◌, ⊎_elim, arith, eq-or-lt_of_le, add-one, eq-eqb, ne_eqb}
use Rattle.std.proofs.lemmas.List.{length-replicate}
use Rattle.std.proofs.lemmas.Bool.{eqb-false}
use Rattle.memory.specs.declared.Mark.{Mark}
use Rattle.memory.specs.declared.Mark.TheVariants.{Write, Read, Destroy}
use Rattle.memory.specs.Layout.{token, state, next, is_free, link, bit, has, or}
use Rattle.memory.specs.Touch.{writes_token, writes_state, links, frees, clears, after}
use Rattle.memory.specs.Pool.{free_from, pick, freed, fresh, pool_len, table_len}
pub use Rattle.memory.specs.Cells.{Cell, token_of, state_of, next_of, free_of, address, block_of, Slotted, Room, Aimed, Hits, Of, put}
pub use Rattle.memory.specs.Cells.{in_block, of_hit, touched, cleared-cell, length-after}

-- what holds of both arms of a `cond`, each under its test, holds of the `cond`
cond_elim : {A : Type 0} (P : A → Type 0) (b : Bool) (x y : A) → (b ≡ true → P x) → (b ≡ false → P y) → P (cond b x y)
cond_elim P true x y f g = f refl
cond_elim P false x y f g = g refl

-- ---- the word of a next: `next m b` is `link` of the word at `next_at b`

-- two constructors are never equal
pub no : ◌≡◌ {A = ℕ} 0 1 → ⊥
no z = omega arith

link-suc : (x : ℕ) → link (suc x) ≡ Some x
link-suc x =
    let e : suc x - 1 ≡ x = omega arith in
    rw (ne_eqb (suc x) 0 (λ (z : suc x ≡ 0). omega arith), e)

pub link-more : (x : ℕ) → link (x + 1) ≡ Some x
link-more x = rw add-one (link-suc x)

pub link-block : (w x : ℕ) → link w ≡ Some x → w ≡ x + 1
link-block zero x e = absurd (no (cc))
link-block (suc w) x e =
    let f : w ≡ x = cc (link-suc w) in
    omega arith

pub link-nothing : (w : ℕ) → (link w ≡ None) ↔ (w ≡ 0)
link-nothing zero = (λ e. refl, λ e. refl)
link-nothing (suc w) = (λ e. absurd (no (cc (link-suc w))), λ (e : suc w ≡ 0). absurd (omega arith))

-- ---- each reader of the cell that a touch hits

module _ (m : List ℕ) where
  pub token-written : (b s v : ℕ) → s < 63 → Room m b → token (after m (writes_token b s v)) b s ≡ v
  token-written b s v h k = touched m (writes_token b s v) (token_of b s) h h refl k

  pub token-cleared : (b s : ℕ) → s < 63 → token (after m (clears b)) b s ≡ 0
  token-cleared b s g = cleared-cell m b (token_of b s) g refl

  pub state-written : (b s w : ℕ) → s < 63 → Room m b → state (after m (writes_state b s w)) b s ≡ w
  state-written b s w h k = touched m (writes_state b s w) (state_of b s) h h refl k

  pub state-cleared : (b s : ℕ) → s < 63 → state (after m (clears b)) b s ≡ 0
  state-cleared b s g = cleared-cell m b (state_of b s) g refl

  pub next-linked : (b x : ℕ) → Room m b → next (after m (links b x)) b ≡ Some x
  next-linked b x k = ap link (touched m (links b x) (next_of b) tt tt refl k) ∙ link-more x

  pub next-cleared : (b : ℕ) → next (after m (clears b)) b ≡ None
  next-cleared b = ap link (cleared-cell m b (next_of b) tt refl)

  pub free-freed : (b : ℕ) → Room m b → is_free (after m (frees b)) b ≡ true
  free-freed b k = ap (λ (w : ℕ). eqb w 1) (touched m (frees b) (free_of b) tt tt refl k)

  pub free-cleared : (b : ℕ) → is_free (after m (clears b)) b ≡ false
  free-cleared b = ap (λ (k : ℕ). eqb k 1) (cleared-cell m b (free_of b) tt refl)

-- all that a block holds is the same in both
pub record Alike (m n : List ℕ) (b : ℕ) : Type 0 where
  pub tokens : (s : ℕ) → s < 63 → token n b s ≡ token m b s
  pub states : (s : ℕ) → s < 63 → state n b s ≡ state m b s
  pub nexts : next n b ≡ next m b
  pub marks : is_free n b ≡ is_free m b

-- ---- the bits of a state

pub has-none : (k : Mark) → has k 0 ≡ false
has-none Write = refl
has-none Read = refl
has-none Destroy = refl

-- what the sum does to its own bit and to the others, where its own was clear
added : (k : Mark) (w : ℕ) → has k w ≡ false → has k (w + bit k) ≡ true
added Write w e = eq-eqb ((w + 1) / 1 % 2) 1 (omega (arith, eqb-false (w / 1 % 2) 1 e))
added Read w e = eq-eqb ((w + 2) / 2 % 2) 1 (omega (arith, eqb-false (w / 2 % 2) 1 e))
added Destroy w e = eq-eqb ((w + 4) / 4 % 2) 1 (omega (arith, eqb-false (w / 4 % 2) 1 e))

same : (a b : ℕ) → a ≡ b → eqb a 1 ≡ eqb b 1
same a b e = rw e

same_quotient : (a b : ℕ) → a ≡ b → eqb (a % 2) 1 ≡ eqb (b % 2) 1
same_quotient a b e = rw e

kept : (j k : Mark) (w : ℕ) → (j ≡ k → ⊥) → has k w ≡ false → has j (w + bit k) ≡ has j w
kept Write Write w n e = absurd (n refl)
kept Write Read w n e = same ((w + 2) / 1 % 2) (w / 1 % 2) (omega (arith, eqb-false (w / 2 % 2) 1 e))
kept Write Destroy w n e = same ((w + 4) / 1 % 2) (w / 1 % 2) (omega (arith, eqb-false (w / 4 % 2) 1 e))
kept Read Write w n e = same_quotient ((w + 1) / 2) (w / 2) (omega (arith, eqb-false (w / 1 % 2) 1 e))
kept Read Read w n e = absurd (n refl)
kept Read Destroy w n e = same ((w + 4) / 2 % 2) (w / 2 % 2) (omega (arith, eqb-false (w / 4 % 2) 1 e))
kept Destroy Write w n e = same_quotient ((w + 1) / 4) (w / 4) (omega (arith, eqb-false (w / 1 % 2) 1 e))
kept Destroy Read w n e = same_quotient ((w + 2) / 4) (w / 4) (omega (arith, eqb-false (w / 2 % 2) 1 e))
kept Destroy Destroy w n e = absurd (n refl)

pub has-or : (k : Mark) (w : ℕ) → has k (or w k) ≡ true
has-or k w = cond_elim (λ (v : ℕ). has k v ≡ true) (has k w) w (w + bit k) (λ e. e) (added k w)

pub has-or-other : (j k : Mark) (w : ℕ) → (j ≡ k → ⊥) → has j (or w k) ≡ has j w
has-or-other j k w n = cond_elim (λ (v : ℕ). has j v ≡ has j w) (has k w) w (w + bit k) (λ e. refl) (kept j k w n)

-- ---- which block is taken

found : (m : List ℕ) (b n x : ℕ) → free_from m b n ≡ Some x → (b ≤ x) × (x < b + n) × (is_free m x ≡ true)
unfolding free_from
found m b zero x e = absurd (no (cc))
found m b (suc n) x e =
    cond_elim (λ (r : Option ℕ). r ≡ Some x → (b ≤ x) × (x < b + suc n) × (is_free m x ≡ true))
    (is_free m b)
    (Some b)
    (free_from m (suc b) n)
    (λ f q. let k : b ≡ x = cc in (omega arith, omega arith, rw k at f))
    (λ f q. let k = found m (suc b) n x q in (omega arith, omega arith, k.2))
    e

passed : (m : List ℕ) (b n x : ℕ) → free_from m b n ≡ None → b ≤ x → x < b + n → is_free m x ≡ false
unfolding free_from
passed m b zero x e h g = absurd (omega arith)
passed m b (suc n) x e h g =
    cond_elim (λ (r : Option ℕ). r ≡ None → is_free m x ≡ false)
    (is_free m b)
    (Some b)
    (free_from m (suc b) n)
    (λ f q. absurd (no (cc)))
    (λ f q. ⊎_elim (λ (k : b ≡ x). rw k at f) (λ (k : b < x). passed m (suc b) n x q k (omega arith)) (eq-or-lt_of_le h))
    e

pub pick-block : (m : List ℕ) (n x : ℕ) → pick m n ≡ Some x → (x < n) × (is_free m x ≡ true)
unfolding pick
pick-block m n x e = let k = found m 0 n x e in (omega arith, k.2)

pub pick-none : (m : List ℕ) (n x : ℕ) → pick m n ≡ None → x < n → is_free m x ≡ false
unfolding pick
pick-none m n x e h = passed m 0 n x e (omega arith) (omega arith)

-- ---- what setup leaves

pub length-freed : (m : List ℕ) (n : ℕ) → length (freed m n) ≡ length m
unfolding freed
length-freed m zero = refl
length-freed m (suc n) = length-after (freed m n) (frees (suc n)) ∙ length-freed m n

pub length-fresh : (len n : ℕ) → length (fresh len n) ≡ len
length-fresh len n = length-freed (replicate len 0) (n - 1) ∙ length-replicate len 0

-- ---- the published lengths

-- with room beyond the 8 threads and 32 blocks of a setup
pub lengths_fit : (threads blocks : ℕ) → threads ≤ 32 → blocks ≤ 56 → (pool_len threads blocks ≤ 1048576) × (table_len threads blocks ≤ 1048576)
lengths_fit threads blocks h g = (omega arith, omega arith)
