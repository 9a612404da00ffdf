-- The digits of a number: at most 20 of them below 2 ^ 64, and reading them gives the number back. A number has no other spelling.
use Prim.Native.Nat.{ℕ, zero, suc, ◌+◌, ◌-◌, ◌*◌, ◌/◌, ◌%◌, ◌^◌, ◌≤◌, ◌<◌}
use mathlib.Core.Path.{◌≡◌, refl, sym, ap, ◌∙◌}
use mathlib.Core.Bool.{Bool, true, false, cond}
use mathlib.Core.Logic.{◌⊎◌, ⊎_elim, inl, inr}
use mathlib.Core.List.{List, [], ◌∷◌, ◌++◌, append_assoc, append-nil}
use native.Mathlib.Nat.{pow-suc}
use native.Mathlib.Omega.{arith}
use lib.ListN.{length, length-append}
use lib.Dec.{ltb, leb, eqb}
use borrow.Author.Tests.{lt-ltb, le-ltb, le-leb, ne_eqb, ltb-true, ltb-false, leb-true, leb-false, eqb-true, eqb-false}
use Rattle.std.specs.Prelude.{Option, Some, None}
use Rattle.text.specs.Number.{is_digit, worth, bounded, alone, number, digits_in, digits}
use Rattle.text.proofs.Rows.{worth_digit, worth-low, worth-high}

-- a number has one digit or more
pub short-or_long : (n : ℕ) → (n < 10) ⊎ (10 ≤ n)
short-or_long n = go (ltb n 10) refl
  where
    go : (b : Bool) → ltb n 10 ≡ b → (n < 10) ⊎ (10 ≤ n)
    go true e = inl (ltb-true n 10 e)
    go false e = inr (ltb-false n 10 e)

in_short : (k n : ℕ) → n < 10 → digits_in (suc k) n ≡ (48 + n) ∷ []
unfolding digits_in
in_short k n h = rw (lt-ltb n 10 h)

in_long : (k n : ℕ) → 10 ≤ n → digits_in (suc k) n ≡ digits_in k (n / 10) ++ ((48 + n % 10) ∷ [])
unfolding digits_in
in_long k n h = rw (le-ltb n 10 h)

-- the bound on how many digits there are does not matter once it is past the number
in_enough : (k m n : ℕ) → n < k → n < m → digits_in k n ≡ digits_in m n
in_enough zero m n h i = absurd (omega arith)
in_enough (suc k) zero n h i = absurd (omega arith)
in_enough (suc k) (suc m) n h i =
    ⊎_elim
    (λ s. in_short k n s ∙ sym (in_short m n s))
    (λ l.
    in_long k n l
    ∙ ap (λ (r : List ℕ). r ++ ((48 + n % 10) ∷ [])) (in_enough k m (n / 10) (omega arith) (omega arith))
    ∙ sym (in_long m n l))
    (short-or_long n)

pub digits-short : (n : ℕ) → n < 10 → digits n ≡ (48 + n) ∷ []
unfolding digits
digits-short n h = in_short n n h

pub digits_long : (n : ℕ) → 10 ≤ n → digits n ≡ digits (n / 10) ++ ((48 + n % 10) ∷ [])
unfolding digits
digits_long n h =
    in_long n n h
    ∙ ap (λ (r : List ℕ). r ++ ((48 + n % 10) ∷ [])) (in_enough n (suc (n / 10)) (n / 10) (omega arith) (omega arith))

-- ---- how many

pub length-short : (n : ℕ) → n < 10 → length (digits n) ≡ 1
length-short n h = ap length (digits-short n h)

pub length_long : (n : ℕ) → 10 ≤ n → length (digits n) ≡ length (digits (n / 10)) + 1
length_long n h = ap length (digits_long n h) ∙ length-append (digits (n / 10)) ((48 + n % 10) ∷ [])

at_most : (k n : ℕ) → n < 10 ^ suc k → length (digits n) ≤ suc k
at_most zero n h = omega (arith, length-short n h)
at_most (suc k) n h =
    ⊎_elim
    (λ s. omega (arith, length-short n s))
    (λ l. omega (arith, length_long n l, at_most k (n / 10) (omega (arith, pow-suc 10 (suc k)))))
    (short-or_long n)

pub digits-length : (n : ℕ) → n < 2 ^ 64 → length (digits n) ≤ 20
digits-length n h = at_most 19 n (omega arith)

-- ---- reading the digits gives the number back

then : Option ℕ → List ℕ → Option ℕ
then (Some v) ys = worth v ys
then None ys = None

worth_append : (v : ℕ) (xs ys : List ℕ) → worth v (xs ++ ys) ≡ then (worth v xs) ys
unfolding worth then
worth_append v [] ys = refl
worth_append v (c ∷ cs) ys = go (is_digit c) (worth_append (v * 10 + (c - 48)) cs ys)
  where
    go : (b : Bool) → worth (v * 10 + (c - 48)) (cs ++ ys) ≡ then (worth (v * 10 + (c - 48)) cs) ys
        → cond b (worth (v * 10 + (c - 48)) (cs ++ ys)) None ≡ then (cond b (worth (v * 10 + (c - 48)) cs) None) ys
    go true e = e
    go false e = refl

worth-one : (v d : ℕ) → d < 10 → worth v ((48 + d) ∷ []) ≡ Some (v * 10 + d)
unfolding worth
worth-one v d h =
    let s : 48 + d - 48 ≡ d = omega arith in
    worth_digit v (48 + d) [] (omega arith) (omega arith) ∙ rw s

worth_in : (k n : ℕ) → n < k → worth 0 (digits_in k n) ≡ Some n
unfolding then
worth_in zero n h = absurd (omega arith)
worth_in (suc k) n h =
    ⊎_elim
    (λ s.
    let e : 0 * 10 + n ≡ n = omega arith in
    rw (in_short k n s, worth-one 0 n s, e))
    (λ l.
    let front : worth 0 (digits_in k (n / 10)) ≡ Some (n / 10) = worth_in k (n / 10) (omega arith) in
    let last : worth (n / 10) ((48 + n % 10) ∷ []) ≡ Some (n / 10 * 10 + n % 10) = worth-one (n / 10) (n % 10) (omega arith) in
    let e : n / 10 * 10 + n % 10 ≡ n = omega arith in
    rw (in_long k n l, worth_append 0 (digits_in k (n / 10)) ((48 + n % 10) ∷ []), front, last, e))
    (short-or_long n)

pub worth-digits : (n : ℕ) → worth 0 (digits n) ≡ Some n
unfolding digits
worth-digits n = worth_in (suc n) n (omega arith)

-- the digits of a number above 0 begin with none that is 0
record Front (l : List ℕ) : Type 0 where
  front : ℕ
  more : List ℕ
  spelt : l ≡ front ∷ more
  some : front ≡ 48 → ⊥

front_in : (k n : ℕ) → n < k → 0 < n → Front (digits_in k n)
front_in zero n h p = absurd (omega arith)
front_in (suc k) n h p =
    ⊎_elim
    (λ s. record { front = 48 + n; more = []; spelt = in_short k n s; some = omega arith })
    (λ l.
    let f : Front (digits_in k (n / 10)) = front_in k (n / 10) (omega arith) (omega arith) in
    record {
      front = f.front;
      more = f.more ++ ((48 + n % 10) ∷ []);
      spelt = in_long k n l ∙ ap (λ (r : List ℕ). r ++ ((48 + n % 10) ∷ [])) f.spelt;
      some = f.some;
    })
    (short-or_long n)

number-front : (n : ℕ) → n < 2 ^ 64 → Front (digits n) → number (digits n) ≡ Some n
unfolding number
number-front n h f =
    let w : worth 0 (f.front ∷ f.more) ≡ Some n = ap (worth 0) (sym f.spelt) ∙ worth-digits n in
    rw (f.spelt, ne_eqb f.front 48 f.some, w, le-leb n 18_446_744_073_709_551_615 (omega arith))

pub number_digits : (n : ℕ) → n < 2 ^ 64 → number (digits n) ≡ Some n
unfolding number digits digits_in
number_digits zero h = refl
number_digits (suc n) h = number-front (suc n) h (front_in (suc (suc n)) (suc n) (omega arith) (omega arith))

-- ---- a number has no other spelling

digits_more : (v c : ℕ) → 0 < v → 48 ≤ c → c ≤ 57 → digits (v * 10 + (c - 48)) ≡ digits v ++ (c ∷ [])
digits_more v c p h k =
    let q : (v * 10 + (c - 48)) / 10 ≡ v = omega arith in
    let r : 48 + (v * 10 + (c - 48)) % 10 ≡ c = omega arith in
    digits_long (v * 10 + (c - 48)) (omega arith) ∙ rw (q, r)

digit_or-not : (c : ℕ) → ((48 ≤ c) × (c ≤ 57)) ⊎ ((v : ℕ) (cs : List ℕ) → worth v (c ∷ cs) ≡ None)
digit_or-not c = go (leb 48 c) (leb c 57) refl refl
  where
    go : (a b : Bool) → leb 48 c ≡ a → leb c 57 ≡ b → ((48 ≤ c) × (c ≤ 57)) ⊎ ((v : ℕ) (cs : List ℕ) → worth v (c ∷ cs) ≡ None)
    go true true p q = inl (leb-true 48 c p, leb-true c 57 q)
    go true false p q = inr (λ v cs. worth-high v c cs (leb-false c 57 q))
    go false true p q = inr (λ v cs. worth-low v c cs (leb-false 48 c p))
    go false false p q = inr (λ v cs. worth-low v c cs (leb-false 48 c p))

spelt-row : (v : ℕ) (cs : List ℕ) (n : ℕ) → 0 < v → worth v cs ≡ Some n → digits v ++ cs ≡ digits n
unfolding worth
spelt-row v [] n p e = let q : v ≡ n = cc in append-nil (digits v) ∙ ap digits q
spelt-row v (c ∷ cs) n p e =
    ⊎_elim
    (λ d.
    sym (append_assoc (digits v) (c ∷ []) cs)
    ∙ ap (λ (r : List ℕ). r ++ cs) (sym (digits_more v c p d.0 d.1))
    ∙ spelt-row (v * 10 + (c - 48)) cs n (omega arith) (sym (worth_digit v c cs d.0 d.1) ∙ e))
    (λ no. let z : None ≡ Some n = sym (no v cs) ∙ e in cc)
    (digit_or-not c)

unbounded : (m : Option ℕ) (n : ℕ) → bounded m ≡ Some n → m ≡ Some n
unbounded None n e = e
unbounded (Some v) n e = go (leb v 18_446_744_073_709_551_615) e
  where
    go : (b : Bool) → cond b (Some v) None ≡ Some n → Some v ≡ Some n
    go true q = q
    go false q = cc

spelt-front : (c : ℕ) (cs : List ℕ) (n : ℕ) → (c ≡ 48 → ⊥) → worth 0 (c ∷ cs) ≡ Some n → c ∷ cs ≡ digits n
spelt-front c cs n h e =
    ⊎_elim
    (λ d.
    let low : 48 ≤ c = d.0 in
    let high : c ≤ 57 = d.1 in
    let one : 48 + (0 * 10 + (c - 48)) ≡ c = omega arith in
    let short : digits (0 * 10 + (c - 48)) ≡ c ∷ [] = digits-short (0 * 10 + (c - 48)) (omega arith) ∙ rw one in
    ap (λ (r : List ℕ). r ++ cs) (sym short)
    ∙ spelt-row (0 * 10 + (c - 48)) cs n (omega arith) (sym (worth_digit 0 c cs low high) ∙ e))
    (λ no. let z : None ≡ Some n = sym (no 0 cs) ∙ e in cc)
    (digit_or-not c)

spelt-alone : (c : ℕ) (cs : List ℕ) (n : ℕ) → c ≡ 48 → alone cs ≡ Some n → c ∷ cs ≡ digits n
unfolding digits digits_in
spelt-alone c [] n e q = let z : n ≡ 0 = cc in rw (z, e)
spelt-alone c (d ∷ ds) n e q = cc

pub spelt-once : (l : List ℕ) (n : ℕ) → number l ≡ Some n → l ≡ digits n
unfolding number
spelt-once [] n e = cc
spelt-once (c ∷ cs) n e = go (eqb c 48) refl e
  where
    go : (b : Bool) → eqb c 48 ≡ b → cond b (alone cs) (bounded (worth 0 (c ∷ cs))) ≡ Some n → c ∷ cs ≡ digits n
    go true q h = spelt-alone c cs n (eqb-true c 48 q) h
    go false q h = spelt-front c cs n (eqb-false c 48 q) (unbounded (worth 0 (c ∷ cs)) n h)
