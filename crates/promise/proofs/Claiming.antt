-- S4 as an observer sees it: a won claim starts where the last one ended.
use Prim.Native.Nat.{ℕ, ◌+◌, ◌≤◌}
use mathlib.Core.Path.{◌≡◌, refl, sym, ap, subst, ◌∙◌}
use mathlib.Core.Bool.{Bool, true, false, cond}
use mathlib.Core.List.{List, [], ◌∷◌}
use lib.ListN.{length}
use lib.Dec.{eqb}
use borrow.Author.Tests.{eqb-true}
use Rattle.index.specs.Position.{position}
use Rattle.index.proofs.Tickets.{ticket_mono, ticket_add, claimed-ticket}
use Rattle.memory.specs.Touch.{leaves}
use Rattle.ring.specs.declared.Flavor.{Flavor}
use Rattle.state.specs.Move.{ends, settled, settle}
use Rattle.state.specs.declared.Kind.{Kind}
use Rattle.state.specs.declared.Claim.{Claim}
use Rattle.state.specs.declared.StealLine.{StealLine}
use Rattle.state.specs.declared.StealLine.TheVariants.{S4, S5, S9}
use Rattle.state.specs.declared.Call.TheVariants.{Idle}
use Rattle.state.specs.declared.Answer.TheVariants.{Retry}
use Rattle.state.specs.declared.Thread.{Thread}
use Rattle.machine.specs.Steal.{s4, s4_won, past, first}
use Rattle.history.specs.Log.{Note, claims, steal_notes}
use Rattle.invariant.specs.State.{State, off, tk, T, H, np}
use Rattle.invariant.specs.Lines.{S4Ok}
use Rattle.invariant.specs.Kept.{StepKept, stepped}
use Rattle.invariant.proofs.Facts.{cond_elim, put_same, put_other}
use Rattle.promise.specs.Promise.{Stage, nothing, claimed, at_stage, MayClaim}
use Rattle.promise.proofs.Tally.{Tally}
use Rattle.promise.proofs.Stage.{At, steal_place, on, over-early}
use Rattle.promise.proofs.Quiet.{still}
use Rattle.promise.proofs.World.{Sound}
use Rattle.promise.proofs.Seen.{Seen, old_log, quiet-seen, grows_none}

-- the claimed tickets are pushed ones
pushed_already : (h a t : ℕ) → off h + a ≤ 63 → position h + a ≤ position t → tk h + a ≤ tk t
pushed_already h a t within end =
    subst (λ (k : ℕ). k ≤ tk t) (ticket_add (position h) a within) (ticket_mono (position h + a) (position t) end)

module _ (flavors : List Flavor) (s : State) (n : ℕ) (t : Thread) (c : Tally) (h : Sound s c) (k : Kind) (d : Claim) (more : Bool) where
  abbrev note : List Note
  note = claims (record { thread = n; first = tk d.head.raw; count = d.advance }) ∷ []

  abbrev stage : Stage
  stage = claimed (tk d.head.raw) d.advance

  reads : At c.tokens (at_stage c.stages n stage n) (steal_place (cond (eqb (past d) 63) (S5 k d) (S9 k d (first d))))
  reads =
      cond_elim (λ (line : StealLine). At c.tokens (at_stage c.stages n stage n) (steal_place line)) (eqb (past d) 63)
      (S5 k d)
      (S9 k d (first d))
      (λ a. put_same c.stages n stage)
      (λ a. put_same c.stages n stage)

  won-seen : H s ≡ d.head.raw → S4Ok s k t.ring.count d.head.raw d.block d.advance more → c.stages n ≡ nothing
      → (kept : StepKept s n (settled t (s4_won s.queue k d more)))
      → Seen flavors s n t c note (settle t (s4_won s.queue k d more).made) kept.ghost
  won-seen e p before kept =
      let start : tk d.head.raw ≡ c.done = ap tk (sym e) ∙ sym h.done in
      let within : off d.head.raw + d.advance ≤ 63 = p.within in
      let below : tk d.head.raw + d.advance ≤ np s = pushed_already d.head.raw d.advance (T s) within p.end in
      let enough : c.done + d.advance ≤ length c.tokens = rw (← start, h.size) below in
      record {
        fair = (start, p.some-slot, enough, subst MayClaim (sym before) tt, tt);
        goes = on reads;
        others = λ j o. put_other c.stages n stage j o;
        grows = grows_none c.tokens;
        size = h.size;
        log = old_log flavors s n t c h (stepped s (settled t (s4_won s.queue k d more)) kept.ghost) kept.others;
        done = ap (λ (x : ℕ). x + d.advance) (sym start) ∙ sym (claimed-ticket d.head.raw d.advance more within);
        threads = refl;
        flavor = refl;
      }

  seen_by : (b : Bool) → eqb (H s) d.head.raw ≡ b → S4Ok s k t.ring.count d.head.raw d.block d.advance more
      → c.stages n ≡ nothing → (kept : StepKept s n (settled t (cond b (s4_won s.queue k d more) (ends s.queue Retry leaves))))
      → Seen flavors s n t c (cond b note []) (settle t (cond b (s4_won s.queue k d more) (ends s.queue Retry leaves)).made) kept.ghost
  seen_by true e p before kept = won-seen (eqb-true (H s) d.head.raw e) p before kept
  seen_by false e p before kept =
      quiet-seen flavors s n t c h (ends s.queue Retry leaves)
      (still c.tokens (c.stages n) s.queue Idle Retry (over-early c.tokens (c.stages n) Retry before refl tt))
      kept

  pub s4-seen : S4Ok s k t.ring.count d.head.raw d.block d.advance more → c.stages n ≡ nothing
      → (kept : StepKept s n (settled t (s4 s.queue k d more)))
      → Seen flavors s n t c (steal_notes s.queue n t t (S4 k d more)) (settle t (s4 s.queue k d more).made) kept.ghost
  unfolding s4
  s4-seen p before kept = seen_by (eqb (H s) d.head.raw) refl p before kept
