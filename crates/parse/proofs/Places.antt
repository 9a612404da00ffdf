-- what is known of a line where the parser stops
use Rattle.std.proofs.Common.{arith, refl, sym, ℕ, ◌+◌, ◌≤◌, ◌≡◌, Bool, true, false, cond, List, [], ◌∷◌, length, Some, None, nat_eq, position}
use Rattle.std.specs.List.{position_or_len}
use Rattle.std.proofs.lemmas.List.Quantifiers.{position-Some}
use Rattle.std.proofs.lemmas.List.Recursion.{is_position_or_len}
use Rattle.text.specs.Line.{first, number_at, parsed}
use Rattle.text.proofs.Parting.{first_le}
use Rattle.text.proofs.Cases.{Word, One, Two, Three, too_long, word-only, no-first, one_le, one_number, no_second, two_le, two_numbers, no_third, three_numbers, too_many}

first-tab : (l : List ℕ) → length (first l) ≡ position_or_len (λ b. nat_eq b 9) l
unfolding first
first-tab = is_position_or_len (λ l. length (first l)) (λ b. nat_eq b 9) refl (λ x xs. go x (nat_eq x 9) (first xs))
  where
    go : (x : ℕ) (b : Bool) (f : List ℕ) → length (cond b [] (x ∷ f)) ≡ cond b 0 (1 + length f)
    go x true f = refl
    go x false f = omega arith

pub word : {l : List ℕ} {w : ℕ} → length l ≤ 80 → Some w ≡ position (λ b. nat_eq b 9) l → Word l w
word {l} {w} p e =
    let q = position-Some (λ b. nat_eq b 9) l w 0 (sym e) in
    record { fits = p; ends = grind (arith, first-tab l); more = λ d. absurd (omega (arith, q.0)) }

pub no_word : (l : List ℕ) → length l ≤ 80 → None ≡ position (λ b. nat_eq b 9) l → None ≡ parsed l
no_word l p e = word-only l p (grind (arith, first-tab l, first_le l))

pub one : {l : List ℕ} {w a x : ℕ} → Word l w → Some (a, x) ≡ number_at l (w + 1) → One l w a x
one k e = record { word = k; found = sym e }

pub two : {l : List ℕ} {w a x b y : ℕ} → One l w a x → (x ≡ length l → ⊥) → Some (b, y) ≡ number_at l (x + 1) → Two l w a x b y
two k m e = record { one = k; more = m; found = sym e }

pub three : {l : List ℕ} {w a x b y c z : ℕ} → Two l w a x b y → (y ≡ length l → ⊥) → Some (c, z) ≡ number_at l (y + 1)
    → Three l w a x b y c z
three k m e = record { two = k; more = m; found = sym e }

pub ruleset stops = (word, no_word, one, two, three, too_long, no-first, one_le, one_number, no_second, two_le, two_numbers, no_third, three_numbers, too_many)
