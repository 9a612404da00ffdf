-- S10 as an observer sees it: with the last token of a claim, all of them are handed over.
use Prim.Native.Nat.{ℕ, ◌+◌, ◌-◌, ◌≤◌, ◌<◌}
use mathlib.Core.Path.{◌≡◌, refl, sym, ap, subst, ◌∙◌}
use mathlib.Core.Bool.{Bool, true, false, cond}
use mathlib.Core.List.{List, [], ◌∷◌, ◌++◌}
use native.Mathlib.Omega.{arith}
use lib.ListN.{length, get_or, set, length-set}
use lib.Seq.{slice, length-slice, ext_get_or, get_or-take, get_or-drop}
use lib.Dec.{eqb}
use borrow.Author.Tests.{eqb-true}
use Rattle.index.specs.Position.{position}
use Rattle.index.proofs.Tickets.{ticket_mono}
use Rattle.memory.specs.Layout.{token}
use Rattle.memory.specs.Touch.{leaves}
use Rattle.ring.specs.Ring.{contents, in_order, entered}
use Rattle.ring.specs.Laws.{entered-count, entered-flavor, entered-contents}
use Rattle.ring.specs.declared.Flavor.{Flavor}
use Rattle.ring.specs.declared.Flavor.TheVariants.{Fifo}
use Rattle.state.specs.Move.{Step}
use Rattle.state.specs.declared.Kind.{Kind}
use Rattle.state.specs.declared.Kind.TheVariants.{Steal, Batch, Take}
use Rattle.state.specs.declared.Claim.{Claim}
use Rattle.state.specs.declared.StealLine.{StealLine}
use Rattle.state.specs.declared.StealLine.TheVariants.{S10, S11}
use Rattle.state.specs.declared.Thread.{Thread}
use Rattle.state.specs.declared.Stepped.{Stepped}
use Rattle.machine.specs.Steal.{s10, handed_over, read_on, after_reads, won_of, walk_below, enters_from, past, first}
use Rattle.history.specs.Log.{hands, steal_notes}
use Rattle.invariant.specs.State.{State, off, tk, T, H, np, nc}
use Rattle.invariant.specs.Lines.{ThreadOk, S10Ok}
use Rattle.invariant.specs.Kept.{StepKept, stepped}
use Rattle.invariant.proofs.Facts.{cond_elim, put_same, put_other}
use Rattle.invariant.proofs.Read.{s10-tokens}
use Rattle.promise.specs.Promise.{Stage, claimed, handed, at_stage, given_over, MayHand}
use Rattle.promise.proofs.Tally.{Tally}
use Rattle.promise.proofs.Stage.{At, WonAt, Answers, steal_place, on}
use Rattle.promise.proofs.Quiet.{walks}
use Rattle.promise.proofs.World.{Sound}
use Rattle.promise.proofs.Seen.{Seen, old_log, grows_none}

-- a part of a list that stands in another from place f on
slice_at : (from to i : ℕ) (l : List ℕ) → from + i < to → get_or (slice from to l) i 0 ≡ get_or l (from + i) 0
slice_at from to i l b = rw (get_or-drop, get_or-take)

slice-same : (from to f : ℕ) (a b : List ℕ) → to ≤ length a → f + to ≤ length b → ((j : ℕ) → j < to → get_or a j 0 ≡ get_or b (f + j) 0)
    → slice from to a ≡ slice (f + from) (f + to) b
slice-same from to f a b la lb same =
    let na : length (slice from to a) ≡ to - from = length-slice from to a la in
    let nb : length (slice (f + from) (f + to) b) ≡ f + to - (f + from) = length-slice (f + from) (f + to) b lb in
    ext_get_or 0 (slice from to a) (slice (f + from) (f + to) b) (omega arith) each
  where
    each : (i : ℕ) → i < length (slice from to a) → get_or (slice from to a) i 0 ≡ get_or (slice (f + from) (f + to) b) i 0
    each i h =
        let na : length (slice from to a) ≡ to - from = length-slice from to a la in
        let regroup : f + (from + i) ≡ f + from + i = omega arith in
        slice_at from to i a (omega arith)
        ∙ same (from + i) (omega arith)
        ∙ ap (λ (k : ℕ). get_or b k 0) regroup
        ∙ sym (slice_at (f + from) (f + to) i b (omega arith))

module _ (flavors : List Flavor) (s : State) (n : ℕ) (t : Thread) (c : Tally) (h : Sound s c) (k : Kind) (d : Claim) (slot : ℕ)
    (ok : ThreadOk s n t) (p : S10Ok s n k t.ring.count t.taken d.head.raw d.block d.advance slot)
    (before : c.stages n ≡ claimed (tk d.head.raw) d.advance) where
  abbrev got : List ℕ
  got = set t.taken (slot - first d) (token s.pool d.block slot)

  abbrev x : ℕ
  x = tk d.head.raw

  claimed-pushed : x + d.advance ≤ length c.tokens
  claimed-pushed =
      let below : x + d.advance ≤ nc s = p.at.claims.below in
      let order : nc s ≤ np s = ticket_mono (position (H s)) (position (T s)) h.shared.order in
      let size : length c.tokens ≡ np s = h.size in
      omega arith

  got-sized : length got ≡ 63
  got-sized = length-set t.taken (slot - first d) (token s.pool d.block slot) ∙ ok.taken

  module _ (last : slot + 1 ≡ past d) where
    -- what was read are the tokens of the claim's own tickets
    own-tokens : (j : ℕ) → j < d.advance → get_or got j 0 ≡ get_or c.tokens (x + j) 0
    own-tokens j b =
        let all : x + d.advance ≤ length c.tokens = claimed-pushed in
        s10-tokens s n t k d slot h.shared ok.tokens ok.count ok.taken p last j b
        ∙ sym (h.log (x + j) (omega arith))

    enters : (kept : ℕ) → slice kept d.advance got ≡ slice (x + kept) (x + d.advance) c.tokens
    enters kept =
        let within : off d.head.raw + d.advance ≤ 63 = p.at.claims.within in
        let sized : length got ≡ 63 = got-sized in
        slice-same kept d.advance x got c.tokens (omega arith) claimed-pushed own-tokens

    abbrev after : Stage
    after = given_over (enters_from k) (c.stages n)

    first-answers : (stage : Stage) → stage ≡ handed x 1 → Answers c.tokens (get_or got 0 0) stage
    first-answers stage e =
        let all : x + d.advance ≤ length c.tokens = claimed-pushed in
        let some : 1 ≤ d.advance = p.at.claims.some-slot in
        let at : x + 0 ≡ x = omega arith in
        record { first = x; gave = e; pushed = omega arith; token = own-tokens 0 some ∙ ap (λ (j : ℕ). get_or c.tokens j 0) at }

    won-at : (kind : Kind) (stage : Stage) → stage ≡ handed x (enters_from kind) → WonAt c.tokens stage (won_of kind got)
    won-at Steal stage e = first-answers stage e
    won-at (Batch limit) stage e = record { first = x; gave = e }
    won-at (Take limit) stage e = first-answers stage e

    now : at_stage c.stages n after n ≡ handed x (enters_from k)
    now = put_same c.stages n after ∙ ap (given_over (enters_from k)) before

    goes_on : At c.tokens (at_stage c.stages n after n) (steal_place (after_reads (won_of k got) d))
    goes_on =
        cond_elim (λ (line : StealLine). At c.tokens (at_stage c.stages n after n) (steal_place line)) (eqb (past d) 63)
        (walk_below (won_of k got) d.block (first d))
        (S11 (won_of k got) d (first d))
        (λ a. walks c.tokens (at_stage c.stages n after n) s.queue (won_of k got) (won-at k _ now) d.block (first d))
        (λ a. won-at k _ now)

    abbrev handing : Step
    handing = record { stepped = handed_over s.queue t got k d; touch = leaves }

    ring-after : t.ring.count + (d.advance - enters_from k) ≤ 64 → t.ring.flavor ≡ get_or flavors n Fifo
        → contents (entered t.ring got (enters_from k) d.advance)
        ≡ contents t.ring ++ in_order (get_or flavors n Fifo) (slice (x + enters_from k) (x + d.advance) c.tokens)
    ring-after fits flavor =
        let within : off d.head.raw + d.advance ≤ 63 = p.at.claims.within in
        let sized : length got ≡ 63 = got-sized in
        entered-contents t.ring got (enters_from k) d.advance ok.tokens (omega arith) fits
        ∙ rw (flavor, enters (enters_from k))

    handed-seen : t.ring.flavor ≡ get_or flavors n Fifo → (kept : StepKept s n handing)
        → Seen flavors s n t c
        (hands (record { thread = n; kind = k; before = contents t.ring; after = contents (entered t.ring got (enters_from k) d.advance) }) ∷ [])
        (handed_over s.queue t got k d)
        kept.ghost
    handed-seen flavor kept =
        let fits : t.ring.count + (d.advance - enters_from k) ≤ 64 =
        rw (entered-count t.ring got (enters_from k) d.advance) at kept.thread.count
        in
        record {
          fair = (
            subst
                (λ (stage : Stage).
                MayHand (get_or flavors n Fifo) c.tokens (enters_from k) (contents t.ring)
                (contents (entered t.ring got (enters_from k) d.advance))
                stage)
                (sym before)
                (ring-after fits flavor),
            tt,
          );
          goes = on goes_on;
          others = λ j o. put_other c.stages n after j o;
          grows = grows_none c.tokens;
          size = h.size;
          log = old_log flavors s n t c h (stepped s handing kept.ghost) kept.others;
          done = h.done;
          threads = refl;
          flavor = entered-flavor t.ring got (enters_from k) d.advance;
        }

  abbrev reading_on : Step
  reading_on = record { stepped = read_on s.queue t got k d slot; touch = leaves }

  read-seen : (kept : StepKept s n reading_on) → Seen flavors s n t c [] (read_on s.queue t got k d slot) kept.ghost
  read-seen kept =
      record {
        fair = tt;
        goes = on before;
        others = λ j o. refl;
        grows = grows_none c.tokens;
        size = h.size;
        log = old_log flavors s n t c h (stepped s reading_on kept.ghost) kept.others;
        done = h.done;
        threads = refl;
        flavor = refl;
      }

  abbrev by : Bool → Stepped
  by b = cond b (handed_over s.queue t got k d) (read_on s.queue t got k d slot)

  seen_by : (b : Bool) → eqb (slot + 1) (past d) ≡ b → t.ring.flavor ≡ get_or flavors n Fifo
      → (kept : StepKept s n (record { stepped = by b; touch = leaves }))
      → Seen flavors s n t c
      (cond b (hands (record { thread = n; kind = k; before = contents t.ring; after = contents (by b).thread.ring }) ∷ []) [])
      (by b)
      kept.ghost
  seen_by true e flavor kept = handed-seen (eqb-true (slot + 1) (past d) e) flavor kept
  seen_by false e flavor kept = read-seen kept

  pub s10-seen : t.ring.flavor ≡ get_or flavors n Fifo → (kept : StepKept s n (record { stepped = s10 s.queue s.pool t k d slot; touch = leaves }))
      → Seen flavors s n t c (steal_notes s.queue n t (s10 s.queue s.pool t k d slot).thread (S10 k d slot))
      (s10 s.queue s.pool t k d slot)
      kept.ghost
  unfolding s10
  s10-seen flavor kept = seen_by (eqb (slot + 1) (past d)) refl flavor kept
