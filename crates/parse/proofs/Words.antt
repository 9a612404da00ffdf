-- a command's word, tested by its length and a byte at a time
use Rattle.std.proofs.Common.{◌≡◌, refl, ap, Bool, true, false, ℕ, List, length, get_or}
use Rattle.std.proofs.lemmas.Slice.Eq.{text_from_reads, HasBytesAt}
use Rattle.text.specs.Line.{same}
use Rattle.text.proofs.Parting.{same-Decides}

module _ (w p : List ℕ) where
  pub same_text : length w ≡ length p → HasBytesAt w 0 p → same w p ≡ true
  same_text n h = (same-Decides w p).1 (text_from_reads w p n h)

  other : (f : List ℕ → ℕ) → (f w ≡ f p → ⊥) → same w p ≡ false
  other f h = go (same w p) refl
    where
      go : (b : Bool) → same w p ≡ b → b ≡ false
      go true e = absurd (h (ap f ((same-Decides w p).0 e)))
      go false e = refl

  pub other-length : (length w ≡ length p → ⊥) → same w p ≡ false
  other-length = other length

  pub other-0 : (get_or w 0 0 ≡ get_or p 0 0 → ⊥) → same w p ≡ false
  other-0 = other (λ l. get_or l 0 0)

  pub other-1 : (get_or w 1 0 ≡ get_or p 1 0 → ⊥) → same w p ≡ false
  other-1 = other (λ l. get_or l 1 0)

  pub other-2 : (get_or w 2 0 ≡ get_or p 2 0 → ⊥) → same w p ≡ false
  other-2 = other (λ l. get_or l 2 0)

  pub other-3 : (get_or w 3 0 ≡ get_or p 3 0 → ⊥) → same w p ≡ false
  other-3 = other (λ l. get_or l 3 0)

  pub other-4 : (get_or w 4 0 ≡ get_or p 4 0 → ⊥) → same w p ≡ false
  other-4 = other (λ l. get_or l 4 0)

pub ruleset words = (same_text, other-length, other-0, other-1, other-2, other-3, other-4)
