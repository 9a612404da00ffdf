-- What an observer sees of a step, whatever its line: by cases on the line.
use Prim.Native.Nat.{ℕ}
use mathlib.Core.Path.{refl}
use mathlib.Core.List.{List, []}
use Rattle.ring.specs.declared.Flavor.{Flavor}
use Rattle.state.specs.Move.{Move, settled, settle}
use Rattle.state.specs.declared.PushLine.{PushLine}
use Rattle.state.specs.declared.PushLine.TheVariants.{P1, P2, P3, P4, P5, P6, P7, P8, P9, P10}
use Rattle.state.specs.declared.StealLine.{StealLine}
use Rattle.state.specs.declared.StealLine.TheVariants.{S1, S2, S3, S4, S5, S6, S7, S8, S9, S10, S11, S12, S13, S14}
use Rattle.state.specs.declared.LengthLine.{LengthLine}
use Rattle.state.specs.declared.LengthLine.TheVariants.{L1, L2, L3}
use Rattle.state.specs.declared.EmptyLine.{EmptyLine}
use Rattle.state.specs.declared.EmptyLine.TheVariants.{E1, E2}
use Rattle.state.specs.declared.Call.{Call}
use Rattle.state.specs.declared.Call.TheVariants.{Idle, Push, Steal, Length, Empty}
use Rattle.state.specs.declared.Answer.TheVariants.{Open}
use Rattle.state.specs.declared.Thread.{Thread}
use Rattle.state.specs.declared.Stepped.{Stepped}
use Rattle.machine.specs.Push.{push, p5, p7, p8}
use Rattle.machine.specs.Steal.{steal, s1, s6, s7, s14}
use Rattle.machine.specs.Step.{step_at, step_of}
use Rattle.history.specs.Log.{push_notes, steal_notes, line_notes}
use Rattle.invariant.specs.State.{State}
use Rattle.invariant.specs.Lines.{PushOk, StealOk, CallOk}
use Rattle.invariant.specs.Kept.{StepKept, stepped}
use Rattle.promise.specs.Promise.{Stage}
use Rattle.promise.proofs.Tally.{Tally}
use Rattle.promise.proofs.Stage.{At, place_of, on}
use Rattle.promise.proofs.Quiet.{Quiet, QuietMove, still-on, gave, p2-quiet, p3-quiet, p6-quiet, p9-quiet, p10-quiet, l3-quiet, e2-quiet}
use Rattle.promise.proofs.Quiet.{s2-quiet, s3-quiet, s5-quiet, s8-quiet, s9-quiet, s11-quiet, s12-quiet, s13-quiet}
use Rattle.promise.proofs.World.{Sound, Mine}
use Rattle.promise.proofs.Seen.{Seen, old_log, quiet-seen, grows_none, p4-seen}
use Rattle.promise.proofs.Claiming.{s4-seen}
use Rattle.promise.proofs.Handing.{s10-seen}

module _ (flavors : List Flavor) (s : State) (n : ℕ) (t : Thread) (c : Tally) (h : Sound s c) where
  abbrev now : Stage
  now = c.stages n

  quiet : (move : Move) → QuietMove c.tokens now s.queue move → (k : StepKept s n (settled t move))
      → Seen flavors s n t c [] (settle t move.made) k.ghost
  quiet = quiet-seen flavors s n t c h

  stays : (call : Call) → At c.tokens now (place_of call)
      → Quiet c.tokens now s.queue (record { queue = s.queue; call = call; answer = Open })
  stays = still-on c.tokens now s.queue

  push-seen : (line : PushLine) → PushOk s n line → At c.tokens now (place_of (Push line))
      → (k : StepKept s n (settled t (push s.queue s.pool line)))
      → Seen flavors s n t c (push_notes s.queue line) (settle t (push s.queue s.pool line).made) k.ghost
  push-seen (P1 v held) p e k = quiet _ (stays _ e) k
  push-seen (P2 v u held) p e k = quiet _ (p2-quiet c.tokens now s.queue e v u held) k
  push-seen (P3 v u b) p e k = quiet _ (p3-quiet c.tokens now s.queue e s.pool v u b) k
  push-seen (P4 v u b held) p e k = p4-seen flavors s n t c h v u b held p e k
  push-seen (P5 v u b x) p e k = quiet (p5 s.queue v u b x) (record { goes = on e; tail = refl; head = refl; threads = refl }) k
  push-seen (P6 v u b x) p e k = quiet _ (p6-quiet c.tokens now s n v u b x e p) k
  push-seen (P7 v u b x) p e k = quiet (p7 s.queue v u b x) (stays _ e) k
  push-seen (P8 v u b held) p e k = quiet (p8 s.queue v u b held) (stays _ e) k
  push-seen (P9 v u b held) p e k = quiet _ (p9-quiet c.tokens now s.queue e s.pool v u b held) k
  push-seen (P10 x spent) p e k = quiet _ (p10-quiet c.tokens now s.queue e x spent) k

  length_seen : (line : LengthLine) → At c.tokens now (place_of (Length line))
      → (k : StepKept s n (settled t (Rattle.machine.specs.Count.length s.queue line)))
      → Seen flavors s n t c [] (settle t (Rattle.machine.specs.Count.length s.queue line).made) k.ghost
  length_seen L1 e k = quiet _ (stays _ e) k
  length_seen (L2 u) e k = quiet _ (stays _ e) k
  length_seen (L3 u v) e k = quiet _ (l3-quiet c.tokens now s.queue e u v) k

  empty-seen : (line : EmptyLine) → At c.tokens now (place_of (Empty line))
      → (k : StepKept s n (settled t (Rattle.machine.specs.Count.empty s.queue line)))
      → Seen flavors s n t c [] (settle t (Rattle.machine.specs.Count.empty s.queue line).made) k.ghost
  empty-seen E1 e k = quiet _ (stays _ e) k
  empty-seen (E2 u) e k = quiet _ (e2-quiet c.tokens now s.queue e u) k

  steal-seen : (line : StealLine) → Mine flavors s c n t → StealOk s n t.ring.count t.taken line
      → At c.tokens now (place_of (Steal line))
      → (k : StepKept s n (steal s.queue s.pool t line))
      → Seen flavors s n t c (steal_notes s.queue n t (steal s.queue s.pool t line).stepped.thread line)
      (steal s.queue s.pool t line).stepped
      k.ghost
  steal-seen (S1 i) q p e k = quiet (s1 s.queue i) (stays _ e) k
  steal-seen (S2 i u) q p e k = quiet _ (s2-quiet c.tokens now s.queue e i u) k
  steal-seen (S3 i u b) q p e k = quiet _ (s3-quiet c.tokens now s.queue e i u b) k
  steal-seen (S4 i d more) q p e k = s4-seen flavors s n t c h i d more p e k
  steal-seen (S5 i d) q p e k = quiet _ (s5-quiet c.tokens now s.queue s.pool i d e) k
  steal-seen (S6 i d x) q p e k = quiet (s6 s.queue s.pool i d x) (stays _ e) k
  steal-seen (S7 i d x more) q p e k = quiet (s7 s.queue i d x more) (record { goes = on e; tail = refl; head = refl; threads = refl }) k
  steal-seen (S8 i d more) q p e k =
      quiet _ (s8-quiet c.tokens now s n i d more t.ring.count e p.leaves) k
  steal-seen (S9 i d slot) q p e k = quiet _ (s9-quiet c.tokens now s.queue s.pool i d slot e) k
  steal-seen (S10 i d slot) q p e k = s10-seen flavors s n t c h i d slot q.ok p e q.flavor k
  steal-seen (S11 w d slot) q p e k = quiet _ (s11-quiet c.tokens now s.queue w e s.pool d slot) k
  steal-seen (S12 w b slot) q p e k = quiet _ (s12-quiet c.tokens now s.queue w e s.pool b slot) k
  steal-seen (S13 w b slot) q p e k = quiet _ (s13-quiet c.tokens now s.queue w e s.pool b slot) k
  steal-seen (S14 w b) q p e k = quiet (s14 s.queue w b) (gave c.tokens now s.queue w e) k

  call-seen : (call : Call) → Mine flavors s c n t → CallOk s n t.ring.count t.taken call → At c.tokens now (place_of call)
      → (k : StepKept s n (step_at s.queue s.pool t call))
      → Seen flavors s n t c (line_notes s.queue n t (step_at s.queue s.pool t call).stepped.thread call)
      (step_at s.queue s.pool t call).stepped
      k.ghost
  call-seen Idle q p e k =
      record {
        fair = tt;
        goes = on q.stage;
        others = λ j o. refl;
        grows = grows_none c.tokens;
        size = h.size;
        log = old_log flavors s n t c h (stepped s (step_at s.queue s.pool t Idle) k.ghost) k.others;
        done = h.done;
        threads = refl;
        flavor = refl;
      }
  call-seen (Push line) q p e k = push-seen line p e k
  call-seen (Steal line) q p e k = steal-seen line q p e k
  call-seen (Length line) q p e k = length_seen line e k
  call-seen (Empty line) q p e k = empty-seen line e k

  -- the whole step: the line's notes, then the note of its answer
  abbrev pub made : Stepped
  made = (step_of s.queue s.pool t).stepped

  pub line_seen : Mine flavors s c n t → (k : StepKept s n (step_of s.queue s.pool t))
      → Seen flavors s n t c (line_notes s.queue n t made.thread t.call) made k.ghost
  unfolding step_of
  line_seen q k = call-seen t.call q q.ok.call q.stage k
