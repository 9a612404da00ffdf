-- Bytes written one behind the other are written together.
use Prim.Native.Nat.{ℕ, suc, ◌+◌, ◌/◌, ◌%◌, ◌≤◌}
use mathlib.Core.Path.{◌≡◌, ap, ◌∙◌}
use mathlib.Core.List.{List, [], ◌∷◌, ◌++◌}
use native.Mathlib.Nat.{add-zero, zero-add}
use native.Mathlib.Omega.{arith}
use lib.ListN.{length, set, take, drop, length-append}
use lib.Seq.{sets, length-sets, sets-eq, take_at, length-take-le}
use Rattle.text.specs.Number.{digits}
use Rattle.text.specs.Print.{Wrote, word_bytes}
use Rattle.text.specs.declared.Word.{Word}
use Rattle.text.proofs.Digits.{digits_long}

pub sets_append : (l : List ℕ) (i : ℕ) (xs ys : List ℕ) → sets l i (xs ++ ys) ≡ sets (sets l i xs) (i + length xs) ys
sets_append l i [] ys = rw add-zero
sets_append l i (x ∷ xs) ys =
    let e : suc i + length xs ≡ i + suc (length xs) = omega arith in
    sets_append (set l i x) (suc i) xs ys ∙ rw e

module _ {l : List ℕ} {at : ℕ} {xs m : List ℕ} {next : ℕ} (w : Wrote l at xs m next) where
  pub kept : length m ≡ length l
  kept = ap length w.buffer ∙ length-sets l at xs

  pub byte : (b : ℕ) → Wrote l at (xs ++ (b ∷ [])) (set m next b) (next + 1)
  byte b =
      record {
        buffer = rw (sets_append, w.buffer, w.place);
        place = rw length-append (omega (arith, w.place));
      }

  pub then : {ys n : List ℕ} {end : ℕ} → Wrote m next ys n end → Wrote l at (xs ++ ys) n end
  then {ys} {n} {end} v =
      record {
        buffer = rw (sets_append, v.buffer, w.buffer, w.place);
        place = rw length-append (omega (arith, w.place, v.place));
      }

-- what is written at a buffer's front
pub at_front : {l xs m : List ℕ} {next : ℕ} → Wrote l 0 xs m next → (m ≡ sets l 0 xs) × (next ≡ length xs)
at_front {l} {xs} {m} {next} w = (w.buffer, w.place ∙ zero-add (length xs))

-- a number's last digit, written behind the digits of n / 10: a law that stands since docs/PORT.md names it
pub wrote_long : {l m : List ℕ} {at next : ℕ} (n : ℕ) → 10 ≤ n → Wrote l at (digits (n / 10)) m next
    → Wrote l at (digits n) (set m next (48 + n % 10)) (next + 1)
wrote_long n h w = rw (digits_long n h) (byte w (48 + n % 10))

-- ---- words, and how long they are

pub word-length : (w : Word) → length (word_bytes w) ≤ 7
unfolding word_bytes
word-length Word.Pushed = omega arith
word-length Word.Task = omega arith
word-length Word.Moved = omega arith
word-length Word.Empty = omega arith
word-length Word.Retry = omega arith
word-length Word.Len = omega arith
word-length Word.Yes = omega arith
word-length Word.No = omega arith
word-length Word.Open = omega arith
word-length Word.Nothing = omega arith
word-length Word.Refused = omega arith
word-length Word.Bad = omega arith
word-length Word.End = omega arith
word-length Word.Queue = omega arith

-- ---- for a caller that keeps its text in the front of the buffer

pub wrote_text : (l bytes m : List ℕ) (at next : ℕ) → at + length bytes ≤ length l → Wrote l at bytes m next
    → take next m ≡ take at l ++ bytes
wrote_text l bytes m at next room w =
    rw (w.buffer, w.place, sets-eq bytes l at room)
    (take_at (take at l ++ bytes) (drop (at + length bytes) l) (at + length bytes)
    (length-append (take at l) bytes ∙ ap (λ (n : ℕ). n + length bytes) (length-take-le at l (omega arith))))
