-- The replay by its fields, and a feed part by part. Nothing cites these laws: they stand since docs/PORT.md names them.
use Prim.Native.Nat.{ℕ, ◌+◌, ◌-◌, ◌≤◌, ◌<◌, min}
use mathlib.Core.Path.{◌≡◌, refl, ap, ◌∙◌}
use mathlib.Core.Bool.{false}
use mathlib.Core.List.{List}
use lib.ListN.{length, get_or, set}
use lib.Seq.{sets}
use Rattle.std.proofs.lemmas.List.{get_or_default}
use Rattle.state.specs.declared.Queue.{Queue}
use Rattle.state.specs.declared.Thread.{Thread}
use Rattle.text.specs.Print.{Wrote}
use Rattle.replayed.specs.declared.Fed.{Fed}
use Rattle.replayed.specs.declared.Replay.{Replay}
use Rattle.replayed.specs.declared.Stage.{Stage}
use Rattle.replayed.specs.declared.Stage.TheVariants.{First, Open, Over}
use Rattle.replayed.specs.Replay.{line_of, first_line}
use Rattle.replayed.specs.Feed.{is_first, reads, fed, Outcome, outcome, Came}
use Rattle.replayed.proofs.Outcome.{fed_long}
use Rattle.replayed.proofs.Running.{outcome_hold, outcome-first}

pub first-not : {s : Stage} → s ≡ First → is_first s ≡ false → ⊥
first-not {s = First} e h = cc
first-not {s = Open} e h = cc
first-not {s = Over} e h = cc

pub get_d_any : (l : List Thread) (i : ℕ) (d e : Thread) → i < length l → get_or l i d ≡ get_or l i e
get_d_any = get_or_default

pub fed_came : (r : Replay) (m piece out : List ℕ) (f : Fed) (m2 out2 : List ℕ) → 4096 ≤ length m → Came piece r m 0 out 0 f m2 out2
    → (f.read ≡ reads r m piece (length out))
    × ((f.replay ≡ (fed r m piece (length out)).replay)
    × ((m2 ≡ (fed r m piece (length out)).pool)
    × ((out2 ≡ sets out 0 (fed r m piece (length out)).out)
    × ((f.written ≡ length (fed r m piece (length out)).out)
    × ((f.read ≤ length piece)
    × (f.written ≤ length out))))))
fed_came r m piece out f m2 out2 h c =
    let e = c.comes ∙ fed_long r m piece out h in (
      ap (λ (o : Outcome). o.read) e,
      (
        ap (λ (o : Outcome). o.replay) e,
        (
          ap (λ (o : Outcome). o.pool) e,
          (ap (λ (o : Outcome). o.buffer) e, (ap (λ (o : Outcome). o.written) e, (c.inside, c.fits))),
        ),
      ),
    )

abbrev pub running : Queue → List Thread → List ℕ → ℕ → ℕ → ℕ → Replay
running queue threads line held number steps =
    record { queue = queue; threads = threads; line = line; held = held; number = number; steps = steps; stage = Open }

abbrev pub starting : Queue → List Thread → List ℕ → ℕ → ℕ → ℕ → Replay
starting queue threads line held number steps =
    record { queue = queue; threads = threads; line = line; held = held; number = number; steps = steps; stage = First }

module _ (piece : List ℕ) (q : Queue) (t : List Thread) (l : List ℕ) (h n s : ℕ) (m : List ℕ) (read : ℕ) (out : List ℕ) (written : ℕ)
    (inside : read < length piece) (room : 256 ≤ length out - written) where
  pub running_hold : (get_or piece read 0 ≡ 10 → ⊥)
      → outcome piece (running q t l h n s) m read out written
      ≡ outcome piece (running q t (set l h (get_or piece read 0)) (min (h + 1) 81) n s) m (read + 1) out written
  running_hold = outcome_hold piece (running q t l h n s) m read out written inside room refl

module _ (piece : List ℕ) (q : Queue) (t : List Thread) (l : List ℕ) (h n s : ℕ) (m : List ℕ) (read : ℕ) (out : List ℕ)
    (inside : read < length piece) (room : 256 ≤ length out - 0) where
  pub starting_hold : (get_or piece read 0 ≡ 10 → ⊥)
      → outcome piece (starting q t l h n s) m read out 0
      ≡ outcome piece (starting q t (set l h (get_or piece read 0)) (min (h + 1) 81) n s) m (read + 1) out 0
  starting_hold = outcome_hold piece (starting q t l h n s) m read out 0 inside room refl

  pub starting_line : get_or piece read 0 ≡ 10
      → {r2 : Replay} {m2 out2 : List ℕ} {written2 : ℕ}
      → r2 ≡ (first_line (starting q t l h n s) m (line_of (starting q t l h n s))).replay
      → m2 ≡ (first_line (starting q t l h n s) m (line_of (starting q t l h n s))).pool
      → Wrote out 0 (first_line (starting q t l h n s) m (line_of (starting q t l h n s))).out out2 written2
      → outcome piece (starting q t l h n s) m read out 0 ≡ outcome piece r2 m2 (read + 1) out2 written2
  starting_line feed = outcome-first piece (starting q t l h n s) m read out 0 inside room feed refl
