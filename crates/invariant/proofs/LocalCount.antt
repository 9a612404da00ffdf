-- The lines of length and empty: each only loads.
use Prim.Native.Nat.{ℕ}
use mathlib.Core.Path.{◌≡◌, refl}
use mathlib.Core.List.{List}
use native.Mathlib.Nat.{le_refl}
use lib.Dec.{eqb}
use Rattle.index.specs.Position.{position}
use Rattle.index.specs.Length.{len}
use Rattle.index.specs.declared.Index.{Index}
use Rattle.state.specs.declared.LengthLine.TheVariants.{L1, L2, L3}
use Rattle.state.specs.declared.EmptyLine.TheVariants.{E1, E2}
use Rattle.state.specs.declared.Call.TheVariants.{Length, Empty}
use Rattle.state.specs.declared.Answer.TheVariants.{Len, Yes, No}
use Rattle.machine.specs.Count.{l1, l2, l3, e1, e2}
use Rattle.invariant.specs.State.{State, T}
use Rattle.invariant.specs.Shared.{Shared}
use Rattle.invariant.specs.Lines.{LengthOk, EmptyOk}
use Rattle.invariant.specs.Kept.{Kept}
use Rattle.invariant.proofs.Facts.{cond_elim, cond_same}
use Rattle.invariant.proofs.Local.{goes_on, stops}

module _ (s : State) (i count : ℕ) (taken : List ℕ) where
  pub l1-kept : Shared s → LengthOk s L1 → Kept s i count taken (l1 s.queue)
  l1-kept h p = goes_on s i count taken (Length (L2 s.queue.tail)) h (le_refl _)

  -- the loaded head is not above the tail
  pub l2-kept : (t : Index) → Shared s → LengthOk s (L2 t) → Kept s i count taken (l2 s.queue t)
  l2-kept t h p = goes_on s i count taken (Length (L3 t s.queue.head)) h (p, h.order)

  pub l3-kept : (t u : Index) → Shared s → LengthOk s (L3 t u) → Kept s i count taken (l3 s.queue t u)
  unfolding l3
  l3-kept t u h p =
      cond_elim (Kept s i count taken) (eqb (T s) t.raw) _ _
      (λ e. stops s i count taken (Len (len (position t.raw) (position u.raw))) h)
      (λ e. goes_on s i count taken (Length L1) h tt)

  pub e1-kept : Shared s → EmptyOk s E1 → Kept s i count taken (e1 s.queue)
  e1-kept h p = goes_on s i count taken (Empty (E2 s.queue.head)) h h.order

  pub e2-kept : (t : Index) → Shared s → EmptyOk s (E2 t) → Kept s i count taken (e2 s.queue t)
  unfolding e2
  e2-kept t h p =
      cond_elim (Kept s i count taken) (eqb (position t.raw) (position (T s))) _ _
      (λ e. stops s i count taken Yes h)
      (λ e. stops s i count taken No h)

  -- the ghost that is chosen is the old one
  pub l1-ghost : (h : Shared s) (p : LengthOk s L1) → (l1-kept h p).ghost ≡ s.ghost
  unfolding l1-kept goes_on
  l1-ghost h p = refl

  pub l2-ghost : (t : Index) (h : Shared s) (p : LengthOk s (L2 t)) → (l2-kept t h p).ghost ≡ s.ghost
  unfolding l2-kept goes_on
  l2-ghost t h p = refl

  pub l3-ghost : (t u : Index) (h : Shared s) (p : LengthOk s (L3 t u)) → (l3-kept t u h p).ghost ≡ s.ghost
  unfolding l3 l3-kept goes_on stops
  l3-ghost t u h p =
      cond_same (Kept s i count taken) (λ m k. k.ghost) (eqb (T s) t.raw) _ _ _ _ s.ghost (λ e. refl) (λ e. refl)

  pub e1-ghost : (h : Shared s) (p : EmptyOk s E1) → (e1-kept h p).ghost ≡ s.ghost
  unfolding e1-kept goes_on
  e1-ghost h p = refl

  pub e2-ghost : (t : Index) (h : Shared s) (p : EmptyOk s (E2 t)) → (e2-kept t h p).ghost ≡ s.ghost
  unfolding e2 e2-kept stops
  e2-ghost t h p =
      cond_same (Kept s i count taken) (λ m k. k.ghost) (eqb (position t.raw) (position (T s))) _ _ _ _ s.ghost
      (λ e. refl)
      (λ e. refl)
