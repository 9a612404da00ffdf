-- What is added piece by piece is added as a whole, and how long a piece is.
use Rattle.std.proofs.Common.{◌≡◌, ℕ, ◌+◌, ◌-◌, ◌<◌, ◌≤◌, ◌^◌, ◌%◌, List, [], ◌∷◌, ◌++◌, length, ap, arith, append_assoc, length-append, ◌∙◌}
use Rattle.std.proofs.Math.Seq.{sets, sets-eq, length-sets}
use Rattle.std.proofs.lemmas.List.{drop-drop}
use borrow.Rule.Slice.PartMut.{put_mid}
use Rattle.text.proofs.Digits.{digits-short, digits_long, digits-length, length-short, length_long}
use Rattle.text.proofs.Writing.{sets_append, word-length}

-- a part of a list that is replaced, as bytes set one by one
pub copied : (l s ys : List ℕ) (at : ℕ) → at + length s ≤ length l → ys ≡ s → put_mid at (at + length s - at) l ys ≡ sets l at s
copied l s ys at h e =
    let k : at + length s - at ≡ length s = omega arith in
    rw (e, k, drop-drop, sets-eq s l at h, append_assoc)

pub ruleset pieces = (copied, digits-length, word-length, length-sets, length-append, sets_append)

-- a number of one digit, and of more
pub ruleset by_digits = (digits-short, digits_long, length-short, length_long, length-sets, length-append, sets_append)
