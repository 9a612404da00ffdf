-- What an observer sees of one line, its answer's note apart: fair notes, and a tally that agrees with the state.
use Rattle.std.specs.Prelude.{Option, None, Some}
use Prim.Native.Nat.{ℕ, suc, ◌+◌, ◌≤◌, ◌<◌}
use mathlib.Core.Path.{◌≡◌, refl, sym, ap, ◌∙◌}
use mathlib.Core.Bool.{Bool, true, false, cond}
use mathlib.Core.Logic.{⊎_elim}
use mathlib.Core.List.{List, [], ◌∷◌, ◌++◌}
use native.Mathlib.Omega.{arith}
use native.Mathlib.Nat.{le_refl, eq-or-lt_of_le}
use lib.ListN.{length, get_or, length-append, get_or-append}
use lib.Seq.{get_or_at}
use lib.Dec.{eqb}
use borrow.Author.Tests.{eqb-true}
use Rattle.index.specs.Claim.{advanced}
use Rattle.index.specs.declared.Index.{Index}
use Rattle.ring.specs.declared.Flavor.{Flavor}
use Rattle.state.specs.Move.{Move, settled, settle}
use Rattle.state.specs.declared.PushLine.TheVariants.{P4, P8}
use Rattle.state.specs.declared.Thread.{Thread}
use Rattle.state.specs.declared.Stepped.{Stepped}
use Rattle.machine.specs.Push.{p4, p4_won, p4_lost, p4_last}
use Rattle.history.specs.Log.{Note, pushes, push_notes}
use Rattle.invariant.specs.Ghost.{Ghost}
use Rattle.invariant.specs.State.{State, off, tk, T, np}
use Rattle.invariant.specs.Lines.{PushOk, P4Ok}
use Rattle.invariant.specs.Rely.{Rely}
use Rattle.invariant.specs.Kept.{StepKept, stepped}
use Rattle.promise.specs.Promise.{nothing}
use Rattle.promise.proofs.Tally.{Tally, tallied, FairFrom}
use Rattle.promise.proofs.Stage.{Grows, Goes, on}
use Rattle.promise.proofs.Quiet.{QuietMove, still-on}
use Rattle.promise.proofs.World.{Sound}

-- after a step of thread n, with record t, whose line was noted as l; g is the new ghost
pub record Seen (flavors : List Flavor) (s : State) (n : ℕ) (t : Thread) (c : Tally) (l : List Note) (after : Stepped) (g : Ghost) : Type 0 where
  pub fair : FairFrom flavors c l
  pub goes : Goes (tallied c l).tokens ((tallied c l).stages n) after.thread.call after.answer
  pub others : (j : ℕ) → (j ≡ n → ⊥) → (tallied c l).stages j ≡ c.stages j
  pub grows : Grows c.tokens (tallied c l).tokens
  pub size : length (tallied c l).tokens ≡ tk after.queue.tail.raw
  pub log : (k : ℕ) → k < length (tallied c l).tokens → get_or (tallied c l).tokens k 0 ≡ g.pushed k
  pub done : (tallied c l).done ≡ tk after.queue.head.raw
  pub threads : after.queue.threads ≡ s.queue.threads
  pub flavor : after.thread.ring.flavor ≡ t.ring.flavor

-- one position on from a slot is one ticket more
one_more : (u a : ℕ) → off u < 63 → tk u ≡ a → a + 1 ≡ tk (advanced u 1)
one_more u a slot e = omega arith

pub grows_none : (l : List ℕ) → Grows l l
grows_none l = record { longer = le_refl _; same = λ k b. refl }

module _ (flavors : List Flavor) (s : State) (n : ℕ) (t : Thread) (c : Tally) (h : Sound s c) where
  -- the step's own log is as before below its old end: so any other thread may rely
  pub old_log : (s' : State) → ((j : ℕ) → (j ≡ n → ⊥) → Rely j s s') → (k : ℕ) → k < length c.tokens
      → get_or c.tokens k 0 ≡ s'.ghost.pushed k
  old_log s' r k b =
      let size : length c.tokens ≡ np s = h.size in
      h.log k b ∙ sym ((r (suc n) (λ e. omega arith)).pushed k (omega arith))

  pub quiet-seen : (move : Move) → QuietMove c.tokens (c.stages n) s.queue move → (k : StepKept s n (settled t move))
      → Seen flavors s n t c [] (settle t move.made) k.ghost
  quiet-seen move p k =
      record {
        fair = tt;
        goes = p.goes;
        others = λ j o. refl;
        grows = grows_none c.tokens;
        size = h.size ∙ sym p.tail;
        log = old_log (stepped s (settled t move) k.ghost) k.others;
        done = h.done ∙ sym p.head;
        threads = p.threads;
        flavor = refl;
      }

  -- ---- P4: the next ticket, with the call's own token

  module _ (v : ℕ) (u : Index) (b : ℕ) (held : Option ℕ) where
    -- the line that a won P4 reaches knows its token
    pushed-last : (s' : State) (x : Option ℕ) → PushOk s' n (p4_last v u b x) → s'.ghost.pushed (tk u.raw) ≡ v
    pushed-last s' None p = p.owes.pushed
    pushed-last s' (Some x) p = p.owes.pushed

    pushed-token : (s' : State) (d : Bool) → PushOk s' n (cond d (p4_last v u b held) (P8 v u b held))
        → s'.ghost.pushed (tk u.raw) ≡ v
    pushed-token s' true p = pushed-last s' held p
    pushed-token s' false p = p.owes.pushed

    grows_one : Grows c.tokens (c.tokens ++ (v ∷ []))
    grows_one =
        record {
          longer = rw length-append (omega arith);
          same = λ k a. get_or-append c.tokens (v ∷ []) 0 k a;
        }

    abbrev p4-note : List Note
    p4-note = pushes (record { ticket = tk u.raw; token = v }) ∷ []

    p4-log : (g : Ghost) → ((k : ℕ) → k < length c.tokens → get_or c.tokens k 0 ≡ g.pushed k) → g.pushed (length c.tokens) ≡ v
        → (k : ℕ) → k < length (c.tokens ++ (v ∷ [])) → get_or (c.tokens ++ (v ∷ [])) k 0 ≡ g.pushed k
    p4-log g old new k a =
        let more : length (c.tokens ++ (v ∷ [])) ≡ length c.tokens + 1 = length-append c.tokens (v ∷ []) in
        ⊎_elim
        (λ (e : k ≡ length c.tokens). get_or_at c.tokens v [] 0 k (sym e) ∙ sym new ∙ ap g.pushed (sym e))
        (λ (a : k < length c.tokens). get_or-append c.tokens (v ∷ []) 0 k a ∙ old k a)
        (eq-or-lt_of_le (let z : k ≤ length c.tokens = omega arith in z))

    p4-seen-won : T s ≡ u.raw → P4Ok s n u.raw b held → c.stages n ≡ nothing
        → (k : StepKept s n (settled t (p4_won s.queue v u b held)))
        → Seen flavors s n t c p4-note (settle t (p4_won s.queue v u b held).made) k.ghost
    p4-seen-won e p stage k =
        let slot : off u.raw < 63 = p.slot in
        let size : length c.tokens ≡ np s = h.size in
        let next : tk u.raw ≡ length c.tokens = omega arith in
        let new = pushed-token (stepped s (settled t (p4_won s.queue v u b held)) k.ghost) (eqb (off u.raw) 62) k.thread.call in
        record {
          fair = (next, tt);
          goes = on stage;
          others = λ j o. refl;
          grows = grows_one;
          size = length-append c.tokens (v ∷ []) ∙ one_more u.raw (length c.tokens) slot next;
          log =
              p4-log k.ghost (old_log (stepped s (settled t (p4_won s.queue v u b held)) k.ghost) k.others)
              (ap k.ghost.pushed (sym next) ∙ new);
          done = h.done;
          threads = refl;
          flavor = refl;
        }

    p4-seen-by : (d : Bool) → eqb (T s) u.raw ≡ d → P4Ok s n u.raw b held → c.stages n ≡ nothing
        → (k : StepKept s n (settled t (cond d (p4_won s.queue v u b held) (p4_lost s.queue v held))))
        → Seen flavors s n t c (cond d p4-note []) (settle t (cond d (p4_won s.queue v u b held) (p4_lost s.queue v held)).made) k.ghost
    p4-seen-by true e p stage k = p4-seen-won (eqb-true (T s) u.raw e) p stage k
    p4-seen-by false e p stage k =
        quiet-seen (p4_lost s.queue v held) (still-on c.tokens (c.stages n) s.queue _ stage) k

    pub p4-seen : P4Ok s n u.raw b held → c.stages n ≡ nothing → (k : StepKept s n (settled t (p4 s.queue v u b held)))
        → Seen flavors s n t c (push_notes s.queue (P4 v u b held)) (settle t (p4 s.queue v u b held).made) k.ghost
    unfolding p4
    p4-seen p stage k = p4-seen-by (eqb (T s) u.raw) refl p stage k
