-- What a line is, by what the code asks of it, and the words that it lends.
use Rattle.std.specs.Prelude.{Option, Some, None}
use Prim.Native.Nat.{ℕ, ◌*◌, ◌≤◌, min}
use mathlib.Core.Path.{◌≡◌, refl, sym, ap, ◌∙◌}
use mathlib.Core.Bool.{true, false, ◌&&◌}
use mathlib.Core.List.{List, ◌++◌}
use native.Mathlib.Omega.{arith}
use lib.ListN.{length, take, drop}
use lib.Seq.{length-take-le}
use lib.Dec.{leb}
use borrow.Author.Tests.{leb-true, eq-eqb}
use Rattle.state.specs.List.{counts_good, setup_good}
use Rattle.state.specs.ListLaws.{both}
use Rattle.memory.specs.Pool.{fresh, pool_len}
use Rattle.machine.specs.Entry.{set_up_pool}
use Rattle.text.specs.declared.Command.{Command}
use Rattle.replayed.specs.declared.Replay.{Replay}
use Rattle.replayed.specs.Replay.{Told, bad, queue_line, pool_back, ordered_by, first_line, later_line}
use Rattle.replayed.specs.Feed.{is_queue, later_of, opening_of}

module _ (r : Replay) (m : List ℕ) where
  -- what holds of a malformed line and of each command of a thread holds of every line after line 1
  pub later_cases : (P : Option Command → Told → Type 0) → P None (bad r m) → ((x y z : ℕ) → P (Some (Command.Queue x y z)) (bad r m))
      → ((c : Command) → is_queue c ≡ false → P (Some c) (ordered_by r m c)) → (p : Option Command) → P p (later_line r m p)
  later_cases P b q o None = b
  later_cases P b q o (Some (Command.Queue x y z)) = q x y z
  later_cases P b q o (Some (Command.Push n token)) = o (Command.Push n token) refl
  later_cases P b q o (Some (Command.Steal n)) = o (Command.Steal n) refl
  later_cases P b q o (Some (Command.Batch n limit)) = o (Command.Batch n limit) refl
  later_cases P b q o (Some (Command.Take n limit)) = o (Command.Take n limit) refl
  later_cases P b q o (Some (Command.Len n)) = o (Command.Len n) refl
  later_cases P b q o (Some (Command.Empty n)) = o (Command.Empty n) refl
  later_cases P b q o (Some (Command.Pop n)) = o (Command.Pop n) refl
  later_cases P b q o (Some (Command.Step n)) = o (Command.Step n) refl
  later_cases P b q o (Some (Command.Run n budget)) = o (Command.Run n budget) refl

  -- and of line 1, what holds of a malformed line, of a queue line and of any other
  pub first_cases : (P : Option Command → Told → Type 0) → P None (bad r m) → ((x y z : ℕ) → P (Some (Command.Queue x y z)) (queue_line r m x y z))
      → ((c : Command) → opening_of (Some c) ≡ None → P (Some c) (bad r m)) → (p : Option Command) → P p (first_line r m p)
  first_cases P b q o None = b
  first_cases P b q o (Some (Command.Queue x y z)) = q x y z
  first_cases P b q o (Some (Command.Push n token)) = o (Command.Push n token) refl
  first_cases P b q o (Some (Command.Steal n)) = o (Command.Steal n) refl
  first_cases P b q o (Some (Command.Batch n limit)) = o (Command.Batch n limit) refl
  first_cases P b q o (Some (Command.Take n limit)) = o (Command.Take n limit) refl
  first_cases P b q o (Some (Command.Len n)) = o (Command.Len n) refl
  first_cases P b q o (Some (Command.Empty n)) = o (Command.Empty n) refl
  first_cases P b q o (Some (Command.Pop n)) = o (Command.Pop n) refl
  first_cases P b q o (Some (Command.Step n)) = o (Command.Step n) refl
  first_cases P b q o (Some (Command.Run n budget)) = o (Command.Run n budget) refl

  pub later-good : (p : Option Command) {c : Command} → later_of p ≡ Some c → later_line r m p ≡ ordered_by r m c
  later-good p {c} =
      later_cases (λ p t. later_of p ≡ Some c → t ≡ ordered_by r m c) (λ e. cc) (λ x y z e. cc)
      (λ d q e. let same : d ≡ c = (let g : Some d ≡ Some c = rw q at e in cc) in ap (ordered_by r m) same)
      p

  pub later-bad : (p : Option Command) → later_of p ≡ None → later_line r m p ≡ bad r m
  later-bad p =
      later_cases (λ p t. later_of p ≡ None → t ≡ bad r m) (λ e. refl) (λ x y z e. refl)
      (λ d q e. let g : Some d ≡ None = rw q at e in cc)
      p

  pub opening_good : (p : Option Command) {x y z : ℕ} → opening_of p ≡ Some (x, y, z) → first_line r m p ≡ queue_line r m x y z
  opening_good p {x} {y} {z} =
      first_cases (λ p t. opening_of p ≡ Some (x, y, z) → t ≡ queue_line r m x y z) (λ e. cc)
      (λ a b d e. let same : (a, b, d) ≡ (x, y, z) = cc in ap (λ (t : ℕ × ℕ × ℕ). queue_line r m t.0 t.1 t.2) same)
      (λ c q e. let g : None ≡ Some (x, y, z) = sym q ∙ e in cc)
      p

  pub opening_bad : (p : Option Command) → opening_of p ≡ None → first_line r m p ≡ bad r m
  opening_bad p =
      first_cases (λ p t. opening_of p ≡ None → t ≡ bad r m) (λ e. refl) (λ x y z e. cc) (λ c q e. refl) p

-- the words that are lent of the pool, and what they are put back into
module _ (m : List ℕ) (n k : ℕ) (lent : k ≡ min n (length m)) where
  pub lent_le : k ≤ length m
  lent_le = omega arith

  pub lent_back : (e : List ℕ) → length e ≡ length (take k m) → e ++ drop k m ≡ pool_back e m
  lent_back e same =
      let s : length e ≡ k = same ∙ length-take-le k m lent_le in
      rw s

-- counts in their ranges: the largest pool has the words, so that setup refuses nothing
pub few-blocks : (a b d : ℕ) → counts_good a b d ≡ true → b ≤ 32
few-blocks a b d e =
    let s1 = (both (leb 1 a && leb a 8 && leb 2 b && leb b 32 && leb 1 d) (leb d 4294967295) e).0 in
    let s2 = (both (leb 1 a && leb a 8 && leb 2 b && leb b 32) (leb 1 d) s1).0 in
    leb-true b 32 (both (leb 1 a && leb a 8 && leb 2 b) (leb b 32) s2).1

pub setup-pool : (a b d : ℕ) (p : List ℕ) → counts_good a b d ≡ true → length p ≡ b * 128 → set_up_pool a b d p ≡ fresh (pool_len a b) b
unfolding setup_good
setup-pool a b d p e s = rw (s, e, eq-eqb (b * 128) (b * 128) refl)

-- so what setup leaves in the words that it is lent of the pool is what the queue line leaves in the pool
pub queue-pool : (r : Replay) (m : List ℕ) (a b d k : ℕ) {p : List ℕ} → 4096 ≤ length m → counts_good a b d ≡ true → k ≡ min (b * 128) (length m)
    → p ≡ set_up_pool a b d (take k m) → length p ≡ length (take k m) → p ++ drop k m ≡ (queue_line r m a b d).pool
queue-pool r m a b d k {p} enough good lent made same =
    let few = few-blocks a b d good in
    let all : length (take k m) ≡ b * 128 = length-take-le k m (lent_le m (b * 128) k lent) ∙ omega arith in
    rw good (lent_back m (b * 128) k lent p same ∙ ap (λ (e : List ℕ). pool_back e m) (made ∙ setup-pool a b d (take k m) good all))
