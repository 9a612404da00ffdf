-- What a ring holds after a batch entered and after its owner popped, as a list with the oldest first.
use Prim.Native.Nat.{ℕ, suc, ◌+◌, ◌-◌, ◌≤◌, ◌<◌}
use Rattle.std.specs.Prelude.{Some, None, ◌≡◌, Bool, true, false, cond, take, drop, get_or, eqb}
use Rattle.std.proofs.Math.Path.{refl, ap}
use Rattle.std.proofs.Common.{sym, ◌∙◌, length-append, length-drop, length-take-le, take_at, take-take, get_or-take, get_or-drop, eq-eqb, ne_eqb, eqb-true}
use mathlib.Core.List.{List, [], ◌∷◌, ◌++◌}
use native.Mathlib.Omega.{arith}
use Rattle.std.proofs.Math.ListN.{length}
use Rattle.std.proofs.lemmas.List.{length-reverse, get_or_at, get_or-reverse, take-append-le, drop-take}
use Rattle.std.proofs.lemmas.List.Edits.{sets, sets-eq, take-paste}
use Rattle.std.proofs.Math.Seq.{slice, paste, length-sets, length-slice, take-length}
use Rattle.ring.specs.declared.Flavor.{Flavor}
use Rattle.ring.specs.declared.Flavor.TheVariants.{Fifo, Lifo}
use Rattle.ring.specs.declared.Ring.{Ring}
use Rattle.ring.specs.Ring.{contents, in_order, place_of, entered, shifted, pop_some, popped}

-- ---- a batch, in the order in which it enters

pub length-in_order : (f : Flavor) (l : List ℕ) → length (in_order f l) ≡ length l
length-in_order Fifo l = refl
length-in_order Lifo l = length-reverse l

pub length_arriving : (f : Flavor) (batch : List ℕ) (first end : ℕ) → end ≤ length batch → length (in_order f (slice first end batch)) ≡ end - first
length_arriving f batch first end fits = length-in_order f (slice first end batch) ∙ length-slice first end batch fits

get_d_slice : (batch : List ℕ) (first end j : ℕ) → first + j < end
    → get_or (slice first end batch) j 0 ≡ get_or batch (first + j) 0
get_d_slice batch first end j inside = rw (get_or-drop, get_or-take)

pub in_order-at : (f : Flavor) (batch : List ℕ) (first end j : ℕ) → end ≤ length batch → first + j < end
    → get_or (in_order f (slice first end batch)) j 0 ≡ get_or batch (place_of f first end j) 0
in_order-at Fifo batch first end j fits inside = get_d_slice batch first end j inside
in_order-at Lifo batch first end j fits inside =
    let n : length (slice first end batch) ≡ end - first = length-slice first end batch fits in
    let at : first + (end - first - 1 - j) ≡ end - 1 - j = omega arith in
    get_or-reverse (slice first end batch) j 0 (omega arith)
    ∙ rw n (get_d_slice batch first end (end - first - 1 - j) (omega arith) ∙ rw at)

-- a run of stores within the list, as the copy that a loop makes of it
pub sets-paste : (l : List ℕ) (i : ℕ) (vs : List ℕ) → i + length vs ≤ length l → sets l i vs ≡ paste l i vs (length vs)
sets-paste l i vs h = sets-eq vs l i h ∙ rw take-length

-- ---- a batch enters

module _ (r : Ring) (batch : List ℕ) (first end : ℕ) where
  pub entered-count : (entered r batch first end).count ≡ r.count + (end - first)
  unfolding entered
  entered-count = refl

  pub entered-flavor : (entered r batch first end).flavor ≡ r.flavor
  unfolding entered
  entered-flavor = refl

  pub entered-sized : length r.tokens ≡ 64 → length (entered r batch first end).tokens ≡ 64
  unfolding entered
  entered-sized sized = length-sets r.tokens r.count (in_order r.flavor (slice first end batch)) ∙ sized

  pub entered-contents : length r.tokens ≡ 64 → end ≤ length batch → r.count + (end - first) ≤ 64
      → contents (entered r batch first end) ≡ contents r ++ in_order r.flavor (slice first end batch)
  unfolding entered
  entered-contents sized fits room =
      let vs : List ℕ = in_order r.flavor (slice first end batch) in
      let n : length vs ≡ end - first = length_arriving r.flavor batch first end fits in
      let room' : r.count + length vs ≤ length r.tokens = omega arith in
      rw (← n, sets-paste r.tokens r.count vs room')
      (take-paste r.tokens r.count vs (length vs) (omega arith) (omega arith)
      ∙ ap (λ (l : List ℕ). contents r ++ l) (take-length vs))

-- ---- the owner pops

pub popped-zero : (r : Ring) → r.count ≡ 0 → popped r ≡ record { ring = r; token = None }
unfolding popped
popped-zero r none = rw (eq-eqb r.count 0 none)

pub popped-some : (r : Ring) → (r.count ≡ 0 → ⊥) → popped r ≡ pop_some r r.flavor
unfolding popped
popped-some r some = rw (ne_eqb r.count 0 some)

-- what holds of q where q is what a pop left of r, empty or not
pub record OneLess (r q : Ring) : Type 0 where
  pub fewer : q.count ≡ r.count - 1
  pub same : q.flavor ≡ r.flavor
  pub sized : length r.tokens ≡ 64 → length q.tokens ≡ 64

shifted-sized : (l : List ℕ) → length l ≡ 64 → length (shifted l) ≡ 64
shifted-sized l sized = simp (length-append, length-drop) (omega arith)

some-less : (r : Ring) (f : Flavor) → OneLess r (pop_some r f).ring
some-less r Fifo = record { fewer = refl; same = refl; sized = shifted-sized r.tokens }
some-less r Lifo = record { fewer = refl; same = refl; sized = λ h. h }

less : (r : Ring) (b : Bool) → (b ≡ true → r.count ≡ 0)
    → OneLess r (cond b (record { ring = r; token = None }) (pop_some r r.flavor)).ring
less r true none = let z : r.count ≡ 0 = none refl in record { fewer = omega arith; same = refl; sized = λ h. h }
less r false none = some-less r r.flavor

pub popped-less : (r : Ring) → OneLess r (popped r).ring
unfolding popped
popped-less r = less r (eqb r.count 0) (eqb-true r.count 0)

module _ (r : Ring) (sized : length r.tokens ≡ 64) (held : r.count ≤ 64) where
  pub length-contents : length (contents r) ≡ r.count
  length-contents = length-take-le r.count r.tokens (omega arith)

  pub popped-none : contents r ≡ [] → popped r ≡ record { ring = r; token = None }
  popped-none e = popped-zero r (sym length-contents ∙ ap length e)

  pub popped_oldest : (x : ℕ) (xs : List ℕ) → r.flavor ≡ Fifo → contents r ≡ x ∷ xs
      → ((popped r).token ≡ Some x) × (contents (popped r).ring ≡ xs)
  popped_oldest x xs fifo e =
      let n : suc (length xs) ≡ r.count = ap length (sym e) ∙ length-contents in
      let p : popped r ≡ pop_some r Fifo = popped-some r (omega arith) ∙ ap (pop_some r) fifo in
      let oldest : get_or r.tokens 0 0 ≡ x =
      sym (get_or-take r.count r.tokens 0 0 (omega arith)) ∙ ap (λ (l : List ℕ). get_or l 0 0) e
      in
      let one : 1 + (r.count - 1) ≡ r.count = omega arith in
      let under : r.count - 1 ≤ length (drop 1 r.tokens) = simp length-drop (omega arith) in (
        rw p (ap Some oldest),
        rw p
            (take-append-le (r.count - 1) (drop 1 r.tokens) (drop 63 r.tokens) under
            ∙ sym (drop-take 1 (r.count - 1) r.tokens)
            ∙ ap (λ (k : ℕ). drop 1 (take k r.tokens)) one
            ∙ ap (λ (l : List ℕ). drop 1 l) e),
      )

  pub popped_newest : (xs : List ℕ) (x : ℕ) → r.flavor ≡ Lifo → contents r ≡ xs ++ (x ∷ [])
      → ((popped r).token ≡ Some x) × (contents (popped r).ring ≡ xs)
  popped_newest xs x lifo e =
      let n : length xs + 1 ≡ r.count = sym (length-append xs (x ∷ [])) ∙ ap length (sym e) ∙ length-contents in
      let p : popped r ≡ pop_some r Lifo = popped-some r (omega arith) ∙ ap (pop_some r) lifo in
      let before : length xs ≡ r.count - 1 = omega arith in
      let newest : get_or r.tokens (r.count - 1) 0 ≡ x =
      sym (get_or-take r.count r.tokens (r.count - 1) 0 (omega arith))
      ∙ ap (λ (l : List ℕ). get_or l (r.count - 1) 0) e
      ∙ get_or_at xs x [] 0 (r.count - 1) before
      in (
        rw p (ap Some newest),
        rw p
            (sym (take-take (r.count - 1) r.count r.tokens (omega arith))
            ∙ ap (take (r.count - 1)) e
            ∙ take_at xs (x ∷ []) (r.count - 1) before),
      )
