-- A well-formed queue line has one spelling only: it is the line that its three numbers are printed as.
use Prim.Native.Nat.{ℕ}
use mathlib.Core.Path.{◌≡◌, refl, sym, ap, ◌∙◌}
use mathlib.Core.Bool.{Bool, true, false, cond}
use mathlib.Core.List.{List, [], ◌∷◌, ◌++◌, append_assoc}
use lib.ListN.{length}
use lib.Dec.{leb, eqb}
use borrow.Author.Tests.{eqb-true}
use Rattle.std.specs.Prelude.{Option, Some, None}
use Rattle.text.specs.Ascii.{ascii}
use Rattle.text.specs.Number.{number, digits}
use Rattle.text.specs.Line.{fields, prepend, same, with_one, with_two, with_three, one, two, three, command, parsed}
use Rattle.text.specs.Print.{word_bytes, queue_bytes}
use Rattle.text.specs.declared.Command.{Command}
use Rattle.text.proofs.Parting.{same-Decides}
use Rattle.text.proofs.Digits.{spelt-once}

-- ---- the fields of a line, put together again

abbrev pub tabbed : List (List ℕ) → List ℕ
tabbed [] = []
tabbed (f ∷ []) = f
tabbed (f ∷ g ∷ fs) = f ++ (9 ∷ tabbed (g ∷ fs))

some-field : (l : List ℕ) → (f : List ℕ) × (fs : List (List ℕ)) × (fields l ≡ f ∷ fs)
unfolding fields
some-field [] = ([], [], refl)
some-field (c ∷ cs) = go (eqb c 9) (some-field cs)
  where
    go : (b : Bool) → (f : List ℕ) × (fs : List (List ℕ)) × (fields cs ≡ f ∷ fs)
        → (f : List ℕ) × (fs : List (List ℕ)) × (cond b ([] ∷ fields cs) (prepend c (fields cs)) ≡ f ∷ fs)
    go true s = ([], fields cs, refl)
    go false s = (c ∷ s.0, s.1, ap (prepend c) s.2)

tabbed-prepend : (c : ℕ) (f : List ℕ) (fs : List (List ℕ)) → tabbed ((c ∷ f) ∷ fs) ≡ c ∷ tabbed (f ∷ fs)
tabbed-prepend c f [] = refl
tabbed-prepend c f (g ∷ gs) = refl

pub tabbed-fields : (l : List ℕ) → tabbed (fields l) ≡ l
unfolding fields
tabbed-fields [] = refl
tabbed-fields (c ∷ cs) = go (eqb c 9) refl (some-field cs) (tabbed-fields cs)
  where
    go : (b : Bool) → eqb c 9 ≡ b → (f : List ℕ) × (fs : List (List ℕ)) × (fields cs ≡ f ∷ fs) → tabbed (fields cs) ≡ cs
        → tabbed (cond b ([] ∷ fields cs) (prepend c (fields cs))) ≡ c ∷ cs
    go true e s h = rw (eqb-true c 9 e) (ap (λ (fs : List (List ℕ)). tabbed ([] ∷ fs)) s.2 ∙ ap (λ (r : List ℕ). 9 ∷ r) (ap tabbed (sym s.2) ∙ h))
    go false e s h =
        ap (λ (fs : List (List ℕ)). tabbed (prepend c fs)) s.2
        ∙ tabbed-prepend c s.0 s.1
        ∙ ap (λ (r : List ℕ). c ∷ r) (ap tabbed (sym s.2) ∙ h)

-- ---- which fields make a queue line

-- the queue line's fields, if p is a queue line
Spelt : List (List ℕ) → Option Command → Type 0
Spelt fs p = (a b c : ℕ) → p ≡ Some (Command.Queue a b c) → fs ≡ ascii "queue" ∷ digits a ∷ digits b ∷ digits c ∷ []

by_test : (fs : List (List ℕ)) (b : Bool) (p q : Option Command) → Spelt fs p → Spelt fs q → Spelt fs (cond b p q)
by_test fs true p q s t = s
by_test fs false p q s t = t

spelt-bad : (fs : List (List ℕ)) → Spelt fs None
unfolding Spelt
spelt-bad fs a b c e = cc

spelt-one : (fs : List (List ℕ)) (w : List ℕ) (n : Option ℕ) → Spelt fs (one w n)
unfolding Spelt with_one
spelt-one fs w None = spelt-bad fs
spelt-one fs w (Some v) =
    by_test fs (same w (ascii "step")) _ _ (λ a b c e. cc)
    (by_test fs (same w (ascii "steal")) _ _ (λ a b c e. cc)
    (by_test fs (same w (ascii "pop")) _ _ (λ a b c e. cc)
    (by_test fs (same w (ascii "len")) _ _ (λ a b c e. cc)
    (by_test fs (same w (ascii "empty")) _ _ (λ a b c e. cc) (spelt-bad fs)))))

spelt-two : (fs : List (List ℕ)) (w : List ℕ) (m n : Option ℕ) → Spelt fs (two w m n)
unfolding Spelt with_two
spelt-two fs w None n = spelt-bad fs
spelt-two fs w (Some u) None = spelt-bad fs
spelt-two fs w (Some u) (Some v) =
    by_test fs (same w (ascii "push")) _ _ (λ a b c e. cc)
    (by_test fs (same w (ascii "run")) _ _ (λ a b c e. cc)
    (by_test fs (same w (ascii "batch")) _ _ (λ a b c e. cc)
    (by_test fs (same w (ascii "take")) _ _ (λ a b c e. cc) (spelt-bad fs))))

spelt-queue : (w x y z : List ℕ) (u v t : ℕ) → number x ≡ Some u → number y ≡ Some v → number z ≡ Some t
    → (q : Bool) → same w (ascii "queue") ≡ q
    → Spelt (w ∷ x ∷ y ∷ z ∷ []) (cond q (Some (Command.Queue u v t)) None)
unfolding Spelt
spelt-queue w x y z u v t ex ey ez true s a b c e =
    let first : x ≡ digits u = spelt-once x u ex in
    let second : y ≡ digits v = spelt-once y v ey in
    let third : z ≡ digits t = spelt-once z t ez in
    let word : w ≡ ascii "queue" = (same-Decides w (ascii "queue")).0 s in
    cc
spelt-queue w x y z u v t ex ey ez false s a b c e = spelt-bad (w ∷ x ∷ y ∷ z ∷ []) a b c e

spelt-three : (w x y z : List ℕ) (m n k : Option ℕ) → number x ≡ m → number y ≡ n → number z ≡ k
    → Spelt (w ∷ x ∷ y ∷ z ∷ []) (three w m n k)
unfolding with_three
spelt-three w x y z None n k ex ey ez = spelt-bad (w ∷ x ∷ y ∷ z ∷ [])
spelt-three w x y z (Some u) None k ex ey ez = spelt-bad (w ∷ x ∷ y ∷ z ∷ [])
spelt-three w x y z (Some u) (Some v) None ex ey ez = spelt-bad (w ∷ x ∷ y ∷ z ∷ [])
spelt-three w x y z (Some u) (Some v) (Some t) ex ey ez = spelt-queue w x y z u v t ex ey ez (same w (ascii "queue")) refl

spelt-command : (fs : List (List ℕ)) → Spelt fs (command fs)
spelt-command [] = spelt-bad []
spelt-command (w ∷ []) = spelt-bad (w ∷ [])
spelt-command (w ∷ x ∷ []) = spelt-one (w ∷ x ∷ []) w (number x)
spelt-command (w ∷ x ∷ y ∷ []) = spelt-two (w ∷ x ∷ y ∷ []) w (number x) (number y)
spelt-command (w ∷ x ∷ y ∷ z ∷ []) = spelt-three w x y z (number x) (number y) (number z) refl refl refl
spelt-command (w ∷ x ∷ y ∷ z ∷ d ∷ more) = spelt-bad (w ∷ x ∷ y ∷ z ∷ d ∷ more)

-- ---- the law

pub queue-echo : (l : List ℕ) (a b c : ℕ) → parsed l ≡ Some (Command.Queue a b c) → l ≡ queue_bytes a b c
unfolding parsed Spelt queue_bytes word_bytes
queue-echo l a b c e = sym (tabbed-fields l) ∙ ap tabbed (spelt a b c e) ∙ simp append_assoc
  where
    spelt : Spelt (fields l) (parsed l)
    spelt = by_test (fields l) (leb (length l) 80) (command (fields l)) None (spelt-command (fields l)) (spelt-bad (fields l))
