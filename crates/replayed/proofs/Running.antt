-- What one byte makes of a feed that goes on.
use Rattle.std.specs.Prelude.{Some, None}
use Prim.Native.Nat.{ℕ, ◌+◌, ◌-◌, ◌≤◌, ◌<◌}
use mathlib.Core.Path.{◌≡◌, refl, sym, ◌∙◌}
use mathlib.Core.Bool.{false}
use mathlib.Core.List.{List, [], ◌++◌}
use native.Mathlib.Nat.{add-zero}
use native.Mathlib.Omega.{arith}
use lib.ListN.{length, get_or}
use borrow.Author.Tests.{eq-eqb, ne_eqb}
use Rattle.text.specs.declared.Command.{Command}
use Rattle.text.specs.Print.{Wrote, bad_bytes, end_bytes}
use Rattle.replayed.specs.declared.Stage.{Stage}
use Rattle.replayed.specs.declared.Stage.TheVariants.{First, Open, Over}
use Rattle.replayed.specs.declared.Replay.{Replay}
use Rattle.replayed.specs.Replay.{ordered_by, over, line_of, line_feed, other_byte, byte_told, holds, first_line}
use Rattle.replayed.specs.Feed.{is_over, later_of, outcome}
use Rattle.replayed.proofs.Outcome.{at, outcome-comes, outcome-over}
use Rattle.replayed.proofs.Orders.{later-good, later-bad}

pub unwritten : (out : List ℕ) (written : ℕ) → Wrote out written [] out written
unwritten out written = record { buffer = refl; place = sym (add-zero written) }

module _ (r : Replay) (m : List ℕ) (b : ℕ) where
  pub byte_feed : {s : Stage} → r.stage ≡ s → b ≡ 10 → byte_told r m b ≡ line_feed s r m
  unfolding byte_told
  byte_feed now e = rw (eq-eqb b 10 e, now)

  byte-held : is_over r.stage ≡ false → (b ≡ 10 → ⊥) → byte_told r m b ≡ record { replay = holds r b; pool = m; out = [] }
  unfolding byte_told
  byte-held still e = rw (ne_eqb b 10 e) (go r.stage still)
    where
      go : (s : Stage) → is_over s ≡ false → other_byte s r m b ≡ record { replay = holds r b; pool = m; out = [] }
      go First h = refl
      go Open h = refl
      go Over h = cc

module _ (piece : List ℕ) (r : Replay) (m : List ℕ) (read : ℕ) (out : List ℕ) (written : ℕ)
    (inside : read < length piece) (room : 256 ≤ length out - written) where
  pub outcome_hold : is_over r.stage ≡ false → (get_or piece read 0 ≡ 10 → ⊥)
      → outcome piece r m read out written ≡ outcome piece (holds r (get_or piece read 0)) m (read + 1) out written
  outcome_hold still other =
      outcome-comes piece r m read out written inside still room (byte-held r m (get_or piece read 0) still other)
      (unwritten out written)

  module _ (feed : get_or piece read 0 ≡ 10) where
    -- line 1, whatever it is
    pub outcome-first : r.stage ≡ First
        → {r2 : Replay} {m2 out2 : List ℕ} {written2 : ℕ}
        → r2 ≡ (first_line r m (line_of r)).replay
        → m2 ≡ (first_line r m (line_of r)).pool
        → Wrote out written (first_line r m (line_of r)).out out2 written2
        → outcome piece r m read out written ≡ outcome piece r2 m2 (read + 1) out2 written2
    outcome-first now er em w =
        outcome-comes piece r m read out written inside (rw now) room (byte_feed r m (get_or piece read 0) now feed) w ∙ rw (er, em)

    -- a later line that is malformed
    pub outcome-bad : r.stage ≡ Open → later_of (line_of r) ≡ None
        → {r2 : Replay} {out2 : List ℕ} {written2 : ℕ}
        → r2 ≡ over r
        → Wrote out written (bad_bytes r.number ++ end_bytes r.steps) out2 written2
        → outcome piece r m read out written ≡ at r2 m (length piece) out2 written2
    outcome-bad now e {r2} {out2} {written2} er w =
        outcome-comes piece r m read out written inside (rw now) room (byte_feed r m (get_or piece read 0) now feed ∙ later-bad r m (line_of r) e) w
        ∙ rw (← er) (sym (outcome-over piece r2 m (read + 1) out2 written2 (omega arith) (rw er)))

    -- a command of a thread
    pub outcome-heard : r.stage ≡ Open → {c : Command} → later_of (line_of r) ≡ Some c
        → {r2 : Replay} {m2 out2 : List ℕ} {written2 : ℕ}
        → r2 ≡ (ordered_by r m c).replay
        → m2 ≡ (ordered_by r m c).pool
        → Wrote out written (ordered_by r m c).out out2 written2
        → outcome piece r m read out written ≡ outcome piece r2 m2 (read + 1) out2 written2
    outcome-heard now good er em w =
        outcome-comes piece r m read out written inside (rw now) room (byte_feed r m (get_or piece read 0) now feed ∙ later-good r m (line_of r) good) w
        ∙ rw (er, em)
