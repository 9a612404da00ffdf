-- No cut of the text matters: whatever pieces it comes in, and whatever buffers are lent, the same bytes are written.
use Prim.Native.Nat.{ℕ, suc, ◌-◌, ◌≤◌}
use mathlib.Core.Path.{◌≡◌, refl, sym, ap, ◌∙◌}
use mathlib.Core.Bool.{Bool, true, false, cond}
use mathlib.Core.List.{List, [], ◌∷◌, ◌++◌, append_assoc, append-nil}
use native.Mathlib.Omega.{arith}
use lib.ListN.{length, take, drop, take-append-drop, length-take}
use lib.Seq.{take-take}
use lib.Dec.{leb}
use borrow.Author.Tests.{le-leb}
use Rattle.replayed.specs.declared.Replay.{Replay}
use Rattle.replayed.specs.Replay.{Told, byte_told, told, at_first, replayed}
use Rattle.replayed.specs.Feed.{is_over, taken, reads, fed, ends}
use Rattle.replayed.specs.Cuts.{Lent, Driven, driven}
use Rattle.replayed.proofs.Outcome.{behind}

-- what a text makes is what its front makes, and then what its rest makes
pub told_append : (r : Replay) (m a b : List ℕ)
    → told r m (a ++ b) ≡ behind (told r m a).out (told (told r m a).replay (told r m a).pool b)
unfolding told
told_append r m [] b = refl
told_append r m (x ∷ a) b =
    let later : Told = byte_told r m x in
    rw (told_append later.replay later.pool a b, append_assoc)

-- a call never reads more than it is lent
taken_le : (r : Replay) (m bytes : List ℕ) (free : ℕ) → taken r m bytes free ≤ length bytes
unfolding taken
taken_le r m [] free = omega arith
taken_le r m (x ∷ bytes) free =
    go (is_over r.stage) (leb 256 free)
    (taken_le (byte_told r m x).replay (byte_told r m x).pool bytes (free - length (byte_told r m x).out))
  where
    go : (a b : Bool) {n : ℕ} → n ≤ length bytes → cond a (suc (length bytes)) (cond b (suc n) 0) ≤ suc (length bytes)
    go true b h = omega arith
    go false true h = omega arith
    go false false h = omega arith

pub reads_le : (r : Replay) (m bytes : List ℕ) (free : ℕ) → reads r m bytes free ≤ length bytes
reads_le r m bytes free = go (leb 4096 (length m)) (taken_le r m bytes free)
  where
    go : (a : Bool) {n : ℕ} → n ≤ length bytes → cond a n 0 ≤ length bytes
    go true h = h
    go false h = omega arith

-- the bytes that a call reads are the first ones of the text
front : (text : List ℕ) (lent n : ℕ) → n ≤ length (take lent text) → take n (take lent text) ++ drop n text ≡ text
front text lent n h =
    let short : n ≤ lent = omega (arith, length-take lent text) in
    rw (take-take n lent text short) (take-append-drop n text)

one-call : (r : Replay) (m text : List ℕ) (c : Lent)
    → told r m text
    ≡ behind (fed r m (take c.bytes text) c.free).out
    (told (fed r m (take c.bytes text) c.free).replay (fed r m (take c.bytes text) c.free).pool
    (drop (reads r m (take c.bytes text) c.free) text))
unfolding fed
one-call r m text c =
    let piece : List ℕ = take c.bytes text in
    let n : ℕ = reads r m piece c.free in
    ap (told r m) (sym (front text c.bytes n (reads_le r m piece c.free))) ∙ told_append r m (take n piece) (drop n text)

-- after any calls, what is written and what the text left makes are what the whole text makes
pub driven-told : (r : Replay) (m text : List ℕ) (cs : List Lent)
    → behind (driven r m text cs).out (told (driven r m text cs).replay (driven r m text cs).pool (driven r m text cs).left)
    ≡ told r m text
unfolding driven
driven-told r m text [] = refl
driven-told r m text (c ∷ cs) =
    let now : Told = fed r m (take c.bytes text) c.free in
    let more = driven-told now.replay now.pool (drop (reads r m (take c.bytes text) c.free) text) cs in
    rw append_assoc (ap (behind now.out) more) ∙ sym (one-call r m text c)

-- a text that was read to its end, and then finished with room for it: exactly the replay's bytes were written
pub no-cut_matters : (m text : List ℕ) (cs : List Lent) (free : ℕ) → (driven at_first m text cs).left ≡ [] → 256 ≤ free
    → (driven at_first m text cs).out ++ ends (driven at_first m text cs).replay free ≡ replayed m text
unfolding replayed told
no-cut_matters m text cs free all room =
    let d : Driven = driven at_first m text cs in
    let same = rw all at (driven-told at_first m text cs) in
    let out = ap (λ (t : Told). t.out) same in
    let replay = ap (λ (t : Told). t.replay) same in
    rw (le-leb 256 free room, ← out, ← replay, append-nil)
