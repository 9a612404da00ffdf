-- Demand 3, second half: every call ends within 12 rounds for each thread and 192 more, and then the counts are exact.
use Prim.Native.Nat.{ℕ, zero, suc, ◌+◌, ◌*◌, ◌≤◌}
use mathlib.Core.Path.{◌≡◌, refl, sym, ap, subst, ◌∙◌}
use mathlib.Core.Bool.{true, false, not}
use mathlib.Core.Logic.{⊎_elim}
use mathlib.Core.List.{List, [], ◌∷◌}
use native.Mathlib.Omega.{arith}
use native.Mathlib.Nat.{zero-add}
use lib.ListN.{length, length-append}
use Rattle.index.specs.Position.{position, ticket}
use Rattle.ring.specs.declared.Flavor.{Flavor}
use Rattle.state.specs.List.{counts_good}
use Rattle.state.specs.declared.PushLine.TheVariants.{P1, P2, P3, P4, P5, P6, P7, P8, P9, P10}
use Rattle.state.specs.declared.StealLine.TheVariants.{S1, S2, S3, S4, S5, S6, S7, S8, S9, S10, S11, S12, S13, S14}
use Rattle.state.specs.declared.Call.{Call}
use Rattle.state.specs.declared.Call.TheVariants.{Idle, Push, Steal, Length, Empty}
use Rattle.machine.specs.Step.{is_idle}
use Rattle.history.specs.Board.{Board, Ask, steps, start, thread_at, asked}
use Rattle.history.specs.Log.{Note, pushes, claims, hands, ends}
use Rattle.history.specs.History.{board, notes, asked_notes}
use Rattle.invariant.proofs.Facts.{clash, two_blocks}
use Rattle.promise.proofs.Tally.{Tally, none_yet, tally, tallied, tallied_append}
use Rattle.promise.proofs.World.{World}
use Rattle.promise.proofs.Keeps.{keeps}
use Rattle.promise.proofs.Start.{start-world}
use Rattle.settle.specs.Rounds.{is_open_at, Rounds, step_all, after, enough, Settled, with_round, with_rounds, pushed_in, claimed_in, Settles, EnoughFor8, EnoughFor32}
use Rattle.settle.specs.Early.{is_early}
use Rattle.settle.specs.Late.{is_late}
use Rattle.settle.proofs.Fits.{fit}
use Rattle.settle.proofs.Whole.{whole}
use Rattle.settle.proofs.Count.{settled-counts}
use Rattle.settle.proofs.Phases23.{late_rounds}
use Rattle.settle.proofs.Tallies.{held-most}
use Rattle.settle.proofs.Phase1.{Good, good-all, early_at, earlies, NoneEarly, Under, Below, at_some, begins, under_less, early_round}

-- ---- every call ends

-- an open call that is not early is late
late_if : (c : Call) → is_early c ≡ false → not (is_idle c) ≡ true → is_late c ≡ true
late_if Idle e o = clash false o refl
late_if (Push (P1 v held)) e o = clash true refl e
late_if (Push (P2 v t held)) e o = clash true refl e
late_if (Push (P3 v t b)) e o = clash true refl e
late_if (Push (P4 v t b held)) e o = clash true refl e
late_if (Push (P5 v t b x)) e o = refl
late_if (Push (P6 v t b x)) e o = refl
late_if (Push (P7 v t b x)) e o = refl
late_if (Push (P8 v t b held)) e o = refl
late_if (Push (P9 v t b held)) e o = refl
late_if (Push (P10 x spent)) e o = refl
late_if (Steal (S1 k)) e o = clash true refl e
late_if (Steal (S2 k h)) e o = clash true refl e
late_if (Steal (S3 k h b)) e o = clash true refl e
late_if (Steal (S4 k c more)) e o = clash true refl e
late_if (Steal (S5 k c)) e o = refl
late_if (Steal (S6 k c x)) e o = refl
late_if (Steal (S7 k c x more)) e o = refl
late_if (Steal (S8 k c more)) e o = refl
late_if (Steal (S9 k c r)) e o = refl
late_if (Steal (S10 k c r)) e o = refl
late_if (Steal (S11 won c r)) e o = refl
late_if (Steal (S12 won b w)) e o = refl
late_if (Steal (S13 won b w)) e o = refl
late_if (Steal (S14 won b)) e o = refl
late_if (Length line) e o = clash true refl e
late_if (Empty line) e o = clash true refl e

then-late : (w : Board) → Good w → NoneEarly w → (rounds : List (List ℕ)) → Rounds w rounds → 192 ≤ length rounds
    → (n : ℕ) → is_open_at (after w rounds) n ≡ false
then-late w g none rounds r b =
    late_rounds w g.whole g.fit (λ n o. late_if (thread_at w n).call (none n) o) rounds r b

-- while the potential is at most f, so many rounds and 192 are enough
ends_in : (f : ℕ) (w : Board) (rounds : List (List ℕ)) → Good w → Below w (suc f) → Rounds w rounds → f + 192 ≤ length rounds
    → (n : ℕ) → is_open_at (after w rounds) n ≡ false
ends_in zero w rounds g b r l =
    ⊎_elim (λ (none : NoneEarly w). then-late w g none rounds r (omega arith))
    (λ (u : Under w 1). let one = at_some w u.value u.key u.at in let d = u.less in absurd (omega arith))
    b
ends_in (suc f) w [] g b r l = absurd (omega arith)
ends_in (suc f) w (order ∷ rounds) g b r l =
    ⊎_elim (λ (none : NoneEarly w). then-late w g none (order ∷ rounds) r (omega arith))
    (λ (u : Under w (suc (suc f))).
    let d = u.less in
    ends_in f (step_all w order) rounds (good-all w order g)
    (under_less (step_all w order) u.value (suc f) (omega arith) (early_round w order u.value u.key g r.0 u.at))
    r.1
    (omega arith))
    b

-- from any good board
all_end : (w : Board) (rounds : List (List ℕ)) → Good w → Rounds w rounds → enough (length w.threads) ≤ length rounds
    → (n : ℕ) → is_open_at (after w rounds) n ≡ false
all_end w rounds g r b =
    let most = held-most (early_at w) (length w.threads) in
    ends_in (12 * length w.threads) w rounds g
    (under_less w (12 * earlies w + 1) (suc (12 * length w.threads)) (omega arith) (begins w g))
    r
    (omega arith)

-- ---- the counts, tied to the notes

pushed-tally : (l : List Note) (c : Tally) → length (tallied c l).tokens ≡ length c.tokens + pushed_in l
pushed-tally [] c = omega arith
pushed-tally (pushes p ∷ l) c =
    let e = pushed-tally l (tally c (pushes p)) in
    let f = length-append c.tokens (p.token ∷ []) in
    omega arith
pushed-tally (claims k ∷ l) c = pushed-tally l (tally c (claims k))
pushed-tally (hands h ∷ l) c = pushed-tally l (tally c (hands h))
pushed-tally (ends e ∷ l) c = pushed-tally l (tally c (ends e))

claimed-tally : (l : List Note) (c : Tally) → (tallied c l).done ≡ c.done + claimed_in l
claimed-tally [] c = omega arith
claimed-tally (pushes p ∷ l) c = claimed-tally l (tally c (pushes p))
claimed-tally (claims k ∷ l) c = let e = claimed-tally l (tally c (claims k)) in omega arith
claimed-tally (hands h ∷ l) c = claimed-tally l (tally c (hands h))
claimed-tally (ends e ∷ l) c = claimed-tally l (tally c (ends e))

module _ (flavors : List Flavor) (blocks ceiling : ℕ) (counts : counts_good (length flavors) blocks ceiling ≡ true) where
  abbrev first : Board
  first = start flavors blocks ceiling

  world : (asks : List Ask) → World flavors blocks ceiling (board first asks) (tallied none_yet (notes first asks))
  world [] = start-world flavors blocks ceiling (two_blocks (length flavors) blocks ceiling counts)
  world (ask ∷ before) =
      subst (λ (c : Tally). World flavors blocks ceiling (asked (board first before) ask) c)
      (sym (tallied_append none_yet (notes first before) (asked_notes (board first before) ask)))
      (keeps flavors blocks ceiling (board first before) (tallied none_yet (notes first before)) ask (world before)).world

  pushed : (asks : List Ask) → ticket (position (board first asks).queue.tail.raw) ≡ pushed_in (notes first asks)
  pushed asks = sym (world asks).sound.size ∙ pushed-tally (notes first asks) none_yet ∙ zero-add (pushed_in (notes first asks))

  claimed : (asks : List Ask) → ticket (position (board first asks).queue.head.raw) ≡ claimed_in (notes first asks)
  claimed asks = sym (world asks).sound.done ∙ claimed-tally (notes first asks) none_yet ∙ zero-add (claimed_in (notes first asks))

  -- the board after the rounds is the board of the history with their steps
  after_round : (order : List ℕ) (asks : List Ask) → board first (with_round order asks) ≡ step_all (board first asks) order
  after_round [] asks = refl
  after_round (n ∷ order) asks = after_round order (steps n ∷ asks)

  after_rounds : (rounds : List (List ℕ)) (asks : List Ask) → board first (with_rounds rounds asks) ≡ after (board first asks) rounds
  after_rounds [] asks = refl
  after_rounds (order ∷ rounds) asks =
      after_rounds rounds (with_round order asks) ∙ ap (λ (w : Board). after w rounds) (after_round order asks)

  good : (asks : List Ask) → Good (board first asks)
  good asks = record { whole = whole flavors blocks ceiling counts asks; fit = fit flavors blocks ceiling counts asks }

  settled_at : (asks : List Ask) → ((n : ℕ) → is_open_at (board first asks) n ≡ false)
      → Settled (board first asks) (pushed_in (notes first asks)) (claimed_in (notes first asks))
  settled_at asks ended =
      let c = settled-counts (board first asks) (good asks).whole ended in
      let l = c.0 in
      let b = c.1 in
      let p = pushed asks in
      let q = claimed asks in
      record { ended = ended; length = omega arith; blocks = omega arith }

  settled : (asks : List Ask) (rounds : List (List ℕ)) → Rounds (board first asks) rounds → enough (length flavors) ≤ length rounds
      → Settled (after (board first asks) rounds) (pushed_in (notes first (with_rounds rounds asks))) (claimed_in (notes first (with_rounds rounds asks)))
  settled asks rounds r b =
      let same = after_rounds rounds asks in
      let size : length (board first asks).threads ≡ length flavors = (world asks).sized in
      let ended : ((n : ℕ) → is_open_at (after (board first asks) rounds) n ≡ false) = all_end (board first asks) rounds (good asks) r (omega arith) in
      subst (λ (w : Board). Settled w (pushed_in (notes first (with_rounds rounds asks))) (claimed_in (notes first (with_rounds rounds asks)))) same
      (settled_at (with_rounds rounds asks)
      (subst (λ (w : Board). (n : ℕ) → is_open_at w n ≡ false) (sym same) ended))

pub settles : Settles
settles flavors blocks ceiling counts asks rounds r b = settled flavors blocks ceiling counts asks rounds r b

-- 288 rounds for 8 threads, and 576 for 32
pub enough_for_8 : EnoughFor8
enough_for_8 = omega arith

pub enough_for_32 : EnoughFor32
enough_for_32 = omega arith
