-- Nothing cites this now; it stands, since docs/PORT.md names it.
-- The front of a row of records is taken off and put back by hand; what a row of 8 records and the answer with it are as plain data.
use mathlib.Core.Path.{◌≡◌, refl, subst}
use mathlib.Core.List.{List, [], ◌∷◌, ◌++◌, map}
use Prim.Native.Nat.{ℕ, zero, suc, ◌+◌}
use native.Mathlib.Omega.{arith}
use lib.ListN.{length, take, drop, take-append-drop}
use seplogic.Ra.Ura.{Ura}
use base.Fraction.{full_share}
use mir.Syntax.{Ty}
use mir.Val.{Val}
use base.Logic.{ent}
use base.Fml.{fsep}
use types.Logic.{Logic, sem}
use types.Kit.{‵, ◌$◌, ◌∵◌, !, qed, move, use1, drop as drops, fsplit, fjoin, done}
use denote.RattleType.{RattleType}
use denote.Memory.{mem}
use denote.Shadow.{shadow}
use denote.Array.{each}
use denote.Index.{row}
use Rattle.tables.proofs.Prelude.{Ok, array_data, nothing}
use Rattle.tables.proofs.Walk.{Data, AllOk, struct_data}
use Rattle.tables.proofs.Fields.{made_of}
use Rattle.rows.proofs.Plain.{thread_data}
use Rattle.table.proofs.Plain.{table-step_data}
use Rattle.state.specs.declared.Thread as Thread-spec
use Rattle.state.specs.contracts.Thread as Thread
use Rattle.state.proofs.Thread.TheLaws as Thread'
use Rattle.cases.specs.declared.board.Lent as Lent-spec
use Rattle.cases.specs.contracts.board.Lent as Lent
use Rattle.cases.proofs.board.Lent.TheLaws as Lent'

module _ {M : Type 1} {𝓤 : Ura M} (𝓛 : Logic 𝓤) (R : RattleType) where
  -- where the element after n others lies
  abbrev pub past : ℕ → ℕ → ℕ
  past zero o = o
  past (suc n) o = past n (o + (mem R).size)

  pub cut : (xs ys : List R.Denot) (b o : ℕ) → ent 𝓤 (sem 𝓛 (row R full_share (xs ++ ys) b o)) (sem 𝓛 (fsep (row R full_share xs b o) (row R full_share ys b (past (length xs) o))))
  cut [] ys b o = qed 𝓛 (‵ (row R full_share ys b o) ∷ []) ∵ nothing ! $ fjoin ! $ done !
  cut (x ∷ xs) ys b o =
      qed 𝓛 (‵ (row R full_share (x ∷ xs ++ ys) b o) ∷ []) ∵ fsplit ! $ move ! (1 ∷ []) $
      use1 𝓛 (‵ (fsep (row R full_share xs b (o + (mem R).size)) (row R full_share ys b (past (length xs) (o + (mem R).size))))) (cut xs ys b (o + (mem R).size)) $
      fsplit ! $ move ! (2 ∷ 0 ∷ []) $ fjoin ! $ fjoin ! $ done !

  pub glue : (xs ys : List R.Denot) (b o : ℕ) → ent 𝓤 (sem 𝓛 (fsep (row R full_share xs b o) (row R full_share ys b (past (length xs) o)))) (sem 𝓛 (row R full_share (xs ++ ys) b o))
  glue [] ys b o = qed 𝓛 (‵ (fsep (row R full_share [] b o) (row R full_share ys b o)) ∷ []) ∵ fsplit ! $ drops ! $ done !
  glue (x ∷ xs) ys b o =
      qed 𝓛 (‵ (fsep (row R full_share (x ∷ xs) b o) (row R full_share ys b (past (length (x ∷ xs)) o))) ∷ []) ∵ fsplit ! $ fsplit ! $ move ! (1 ∷ 2 ∷ []) $ fjoin ! $
      use1 𝓛 (‵ (row R full_share (xs ++ ys) b (o + (mem R).size))) (glue xs ys b (o + (mem R).size)) $ move ! (1 ∷ 0 ∷ []) $ fjoin ! $ done !

  -- the first n of a row, and the rest; and back, with others in their place
  pub cut_at : (n : ℕ) (xs : List R.Denot) (b o : ℕ) → ent 𝓤 (sem 𝓛 (row R full_share xs b o)) (sem 𝓛 (fsep (row R full_share (take n xs) b o) (row R full_share (drop n xs) b (past (length (take n xs)) o))))
  cut_at n xs b o = subst (λ (l : List R.Denot). ent 𝓤 (sem 𝓛 (row R full_share l b o)) (sem 𝓛 (fsep (row R full_share (take n xs) b o) (row R full_share (drop n xs) b (past (length (take n xs)) o))))) (take-append-drop n xs) (cut (take n xs) (drop n xs) b o)

  pub glue_at : (k : ℕ) (xs ys : List R.Denot) (b o : ℕ) → length xs ≡ k → ent 𝓤 (sem 𝓛 (fsep (row R full_share xs b o) (row R full_share ys b (past k o)))) (sem 𝓛 (row R full_share (xs ++ ys) b o))
  glue_at k xs ys b o e = subst (λ (m : ℕ). ent 𝓤 (sem 𝓛 (fsep (row R full_share xs b o) (row R full_share ys b (past m o)))) (sem 𝓛 (row R full_share (xs ++ ys) b o))) e (glue xs ys b o)

each_known : {R : RattleType} {τ : Ty} (D : Data R τ) (xs : List R.Denot) → AllOk D xs → shadow (each R.Denot R.own_val xs (map D.val xs))
each_known D [] is = tt
each_known D (x ∷ xs) is = (is 0 (omega arith) x, each_known D xs (λ i l d. is (suc i) (omega arith) d))

pub all_known : {R : RattleType} {τ : Ty} (D : Data R τ) (k : ℕ) (xs : List R.Denot) → length xs ≡ k → AllOk D xs → Ok (array_data D k) xs
all_known D k xs e is = (map D.val xs, ((refl, e), each_known D xs is))

abbrev pub lent_data : Data Lent.the_row Lent'.mir
lent_data = struct_data Lent.the_type Lent'.the_laws Lent'.the_plain Lent'.the_copy Lent'.lowers

-- the array as a field, where each record goes to its own values
field_known : (xs : List Thread-spec.Thread) → AllOk thread_data xs → shadow (each Thread-spec.Thread (Thread.the_row).own_val xs (map (Thread'.the_told).val xs))
field_known [] is = tt
field_known (x ∷ xs) is = (
  subst (λ (vs : List Val). shadow ((Thread.the_row).own_val x vs)) ((Thread'.the_told).tells x (thread_data.val x ∷ []) (is 0 (omega arith) x)) (is 0 (omega arith) x),
  field_known xs (λ i l d. is (suc i) (omega arith) d),
)

pub lent_ok : (r : Lent-spec.Lent) → Ok table-step_data r.step → length r.table ≡ 8 → AllOk thread_data r.table → Ok lent_data r
lent_ok r s e is = made_of Lent.struct Lent.the_propositions Lent'.the_laws r (s, ((map (Thread'.the_told).val r.table, ((refl, e), field_known r.table is)), tt))
