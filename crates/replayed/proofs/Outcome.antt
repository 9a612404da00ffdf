-- What a feed comes to, a byte at a time.
use Prim.Native.Nat.{ℕ, suc, ◌+◌, ◌-◌, ◌≤◌, ◌<◌}
use mathlib.Core.Path.{◌≡◌, refl, ◌∙◌}
use mathlib.Core.Bool.{Bool, true, false, cond}
use mathlib.Core.List.{List, [], ◌∷◌, ◌++◌}
use native.Mathlib.Nat.{add-zero, zero-add, add-suc, suc-add, add_assoc}
use native.Mathlib.Numerals.{add-one}
use native.Mathlib.Omega.{arith}
use lib.ListN.{length, get_or, drop, length-append, length-drop, drop_of_length-le}
use lib.Seq.{sets, length-sets, drop-cons, take-length}
use lib.Dec.{eqb}
use borrow.Author.Tests.{le-leb, lt-leb}
use Rattle.text.specs.Print.{Wrote}
use Rattle.text.proofs.Writing.{sets_append}
use Rattle.replayed.specs.declared.Fed.{Fed}
use Rattle.replayed.specs.declared.Replay.{Replay}
use Rattle.replayed.specs.declared.Stage.{Stage}
use Rattle.replayed.specs.declared.Stage.TheVariants.{First, Open, Over}
use Rattle.replayed.specs.Replay.{Told, line_feed, other_byte, byte_told, told}
use Rattle.replayed.specs.Feed.{is_first, is_over, taken, reads, fed, rest, Outcome, outcome, Came}

abbrev pub behind : List ℕ → Told → Told
behind bytes t = record { replay = t.replay; pool = t.pool; out = bytes ++ t.out }

abbrev nothing : Replay → List ℕ → Told
nothing r m = record { replay = r; pool = m; out = [] }

module _ (r : Replay) (m : List ℕ) where
  module _ (b : ℕ) (bs : List ℕ) (free : ℕ) (still : is_over r.stage ≡ false) (room : 256 ≤ free) where
    taken_more : taken r m (b ∷ bs) free ≡ suc (taken (byte_told r m b).replay (byte_told r m b).pool bs (free - length (byte_told r m b).out))
    unfolding taken
    taken_more = rw (still, le-leb 256 free room)

    rest_more : rest r m (b ∷ bs) free ≡ behind (byte_told r m b).out (rest (byte_told r m b).replay (byte_told r m b).pool bs (free - length (byte_told r m b).out))
    unfolding rest told
    rest_more = rw taken_more

  -- with the room used up nothing is taken
  taken_full : (bs : List ℕ) (free : ℕ) → is_over r.stage ≡ false → free < 256 → taken r m bs free ≡ 0
  unfolding taken
  taken_full [] free still full = refl
  taken_full (b ∷ bs) free still full = rw (still, lt-leb 256 free full)

  -- once it is over all is taken, and comes to nothing
  taken-over : (bs : List ℕ) (free : ℕ) → r.stage ≡ Over → taken r m bs free ≡ length bs
  unfolding taken
  taken-over [] free over = refl
  taken-over (b ∷ bs) free over = rw over

pub byte-over : (r : Replay) (m : List ℕ) (b : ℕ) → r.stage ≡ Over → byte_told r m b ≡ nothing r m
unfolding byte_told
byte-over r m b over = go r.stage over (eqb b 10)
  where
    go : (s : Stage) → s ≡ Over → (t : Bool) → cond t (line_feed s r m) (other_byte s r m b) ≡ nothing r m
    go First e t = cc
    go Open e t = cc
    go Over e true = refl
    go Over e false = refl

pub told_over : (r : Replay) (m bs : List ℕ) → r.stage ≡ Over → told r m bs ≡ nothing r m
unfolding told
told_over r m [] over = refl
told_over r m (b ∷ bs) over = rw (byte-over r m b over, told_over r m bs over)

abbrev pub at : Replay → List ℕ → ℕ → List ℕ → ℕ → Outcome
at r m read buffer written = record { replay = r; pool = m; read = read; buffer = buffer; written = written }

module _ (piece : List ℕ) (r : Replay) (m : List ℕ) (read : ℕ) (out : List ℕ) (written : ℕ) where
  stays : taken r m (drop read piece) (length out - written) ≡ 0 → at r m read out written ≡ outcome piece r m read out written
  unfolding outcome rest told
  stays none = rw (none, add-zero, add-zero)

  pub outcome-end : length piece ≤ read → at r m read out written ≡ outcome piece r m read out written
  unfolding taken
  outcome-end h = stays (rw (drop_of_length-le piece h))

  pub outcome_full : is_over r.stage ≡ false → length out - written < 256 → at r m read out written ≡ outcome piece r m read out written
  outcome_full still full = stays (taken_full r m (drop read piece) (length out - written) still full)

  pub outcome-over : read ≤ length piece → r.stage ≡ Over → at r m (length piece) out written ≡ outcome piece r m read out written
  unfolding outcome rest
  outcome-over inside over =
      let n : read + length (drop read piece) ≡ length piece = omega (arith, length-drop read piece) in
      rw (taken-over r m (drop read piece) (length out - written) over, take-length (drop read piece), told_over r m (drop read piece) over, n, add-zero)

  module _ (inside : read < length piece) (still : is_over r.stage ≡ false) (room : 256 ≤ length out - written) where
    abbrev made : Told
    made = byte_told r m (get_or piece read 0)

    outcome-step : outcome piece r m read out written
        ≡ outcome piece made.replay made.pool (read + 1) (sets out written made.out) (written + length made.out)
    unfolding outcome
    outcome-step =
        let free : length (sets out written made.out) - (written + length made.out) ≡ length out - written - length made.out = omega (arith, length-sets out written made.out) in
        let next : read + 1 ≡ suc read = add-one read in
        rw (
          free,
          next,
          drop-cons piece read 0 inside,
          rest_more r m (get_or piece read 0) (drop (suc read) piece) (length out - written) still room,
          taken_more r m (get_or piece read 0) (drop (suc read) piece) (length out - written) still room,
          sets_append,
          length-append,
          ← add_assoc,
          add-suc,
          suc-add,
        )

    pub outcome-more : {out2 : List ℕ} {written2 : ℕ} → Wrote out written made.out out2 written2
        → outcome piece r m read out written ≡ outcome piece made.replay made.pool (read + 1) out2 written2
    outcome-more w = outcome-step ∙ rw (w.buffer, w.place)

    pub outcome-comes : {x : Told} {out2 : List ℕ} {written2 : ℕ} → made ≡ x → Wrote out written x.out out2 written2
        → outcome piece r m read out written ≡ outcome piece x.replay x.pool (read + 1) out2 written2
    outcome-comes {x} {out2} {written2} e w =
        let w2 : Wrote out written made.out out2 written2 = rw e w in
        outcome-more w2 ∙ rw e

-- ---- a feed as a whole

module _ (r : Replay) (m piece : List ℕ) where
  -- with less lent than the largest pool needs
  module _ (free : ℕ) (short : length m < 4096) where
    pub short-read : reads r m piece free ≡ 0
    short-read = rw (lt-leb 4096 (length m) short)

    pub short-fed : fed r m piece free ≡ nothing r m
    unfolding fed told
    short-fed = rw (lt-leb 4096 (length m) short)

  -- with as much
  pub fed_long : (out : List ℕ) → 4096 ≤ length m
      → outcome piece r m 0 out 0
      ≡ at (fed r m piece (length out)).replay (fed r m piece (length out)).pool (reads r m piece (length out))
      (sets out 0 (fed r m piece (length out)).out) (length (fed r m piece (length out)).out)
  unfolding outcome fed rest
  fed_long out h =
      let e : length out - 0 ≡ length out = omega arith in
      rw (le-leb 4096 (length m) h, e) (simp zero-add)

-- past line 1 and not open
pub over_now : {s : Stage} → is_first s ≡ false → (s ≡ Open → ⊥) → s ≡ Over
over_now {s = First} e h = cc
over_now {s = Open} e h = absurd (h refl)
over_now {s = Over} e h = refl

-- a feed whose buffer was lent on, and came back as it was left
pub came_back : {piece : List ℕ} {r : Replay} {m : List ℕ} {read : ℕ} {out : List ℕ} {written : ℕ} {f : Fed} {m2 left back : List ℕ}
    → back ≡ left → Came piece r m read out written f m2 left → Came piece r m read out written f m2 back
came_back e c = rw e c
