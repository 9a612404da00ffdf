-- The lent words stay as many as they were, whatever is read; so every call that has room reads, and a text is read to its end.
use Rattle.std.specs.Prelude.{Result, Ok, Err}
use Rattle.state.specs.declared.Refusal.{Refusal}
use Prim.Native.Nat.{ℕ, zero, suc, ◌*◌, ◌≤◌}
use mathlib.Core.Path.{◌≡◌, refl, ◌∙◌}
use mathlib.Core.Bool.{Bool, true, false, cond}
use mathlib.Core.List.{List, [], ◌∷◌, ◌++◌}
use native.Mathlib.Omega.{arith}
use lib.ListN.{length, take, drop, length-append, length-drop, length-take}
use lib.Dec.{leb, eqb}
use borrow.Author.Tests.{le-leb, leb-true, leb-false}
use Rattle.memory.specs.Cells.{length-after}
use Rattle.memory.specs.Laws.{length-fresh}
use Rattle.memory.specs.Pool.{pool_len, fresh}
use Rattle.memory.specs.Touch.{after}
use Rattle.state.specs.List.{state_good, counts_good}
use Rattle.state.specs.declared.Queue.{Queue}
use Rattle.state.specs.declared.Thread.{Thread}
use Rattle.machine.specs.Step.{After, is_idle, is_open, step_of, counted, once, run_from}
use Rattle.machine.specs.Entry.{tested, refused_after, step_tested, step_entry, run_tested, run_entry}
use Rattle.text.specs.declared.Command.{Command}
use Rattle.replayed.specs.declared.Stage.{Stage}
use Rattle.replayed.specs.declared.Stage.TheVariants.{First, Open, Over}
use Rattle.replayed.specs.declared.Replay.{Replay}
use Rattle.replayed.specs.Command.{thread_number, order_of}
use Rattle.replayed.specs.Replay.{ordered_by, pool_of, pool_back, thread_of, queue_line, line_of, line_feed, other_byte, byte_told, told, at_first, replayed}
use Rattle.replayed.specs.Feed.{is_over, taken, reads, fed, ends}
use Rattle.replayed.specs.Cuts.{Lent, driven}
use Rattle.replayed.proofs.Orders.{first_cases, later_cases, few-blocks}
use Rattle.replayed.proofs.Cuts.{no-cut_matters}

-- ---- the entries

module _ (q : Queue) (m : List ℕ) (t : Thread) where
  step_kept : (n : ℕ) → length (step_entry q m t n).pool ≡ length m
  unfolding step_entry
  step_kept n = go (tested q m t n)
    where
      idle : (b : Bool) → length (cond b (refused_after q m t Rattle.state.specs.declared.Refusal.TheVariants.Idle) (once m (step_of q m t))).pool ≡ length m
      idle true = refl
      idle false = length-after m (step_of q m t).touch

      go : (x : Result Unit Refusal) → length (step_tested q m t x).pool ≡ length m
      go (Err r) = refl
      go (Ok tt) = idle (is_idle t.call)

from-kept : (budget : ℕ) (q : Queue) (m : List ℕ) (t : Thread) → length (run_from budget q m t).pool ≡ length m
unfolding run_from
from-kept zero q m t = refl
from-kept (suc budget) q m t =
    go (is_open (step_of q m t).stepped.answer)
    (state_good (step_of q m t).stepped.queue (after m (step_of q m t).touch) (step_of q m t).stepped.thread)
    (run_from budget (step_of q m t).stepped.queue (after m (step_of q m t).touch) (step_of q m t).stepped.thread)
    (from-kept budget (step_of q m t).stepped.queue (after m (step_of q m t).touch) (step_of q m t).stepped.thread)
  where
    go : (a b : Bool) (x : After) → length x.pool ≡ length (after m (step_of q m t).touch)
        → length (cond a (cond b (counted x) (once m (step_of q m t))) (once m (step_of q m t))).pool ≡ length m
    go true true x e = e ∙ length-after m (step_of q m t).touch
    go true false x e = length-after m (step_of q m t).touch
    go false b x e = length-after m (step_of q m t).touch

module _ (q : Queue) (m : List ℕ) (t : Thread) where
  run-kept : (n budget : ℕ) → length (run_entry q m t n budget).pool ≡ length m
  unfolding run_entry
  run-kept n budget = go (tested q m t n)
    where
      idle : (b : Bool) → length (cond b (refused_after q m t Rattle.state.specs.declared.Refusal.TheVariants.Idle) (run_from budget q m t)).pool ≡ length m
      idle true = refl
      idle false = from-kept budget q m t

      go : (x : Result Unit Refusal) → length (run_tested q m t budget x).pool ≡ length m
      go (Err r) = refl
      go (Ok tt) = idle (is_idle t.call)

  order-kept : (c : Command) → length (order_of q m t c).pool ≡ length m
  order-kept (Command.Queue x y z) = refl
  order-kept (Command.Push n token) = refl
  order-kept (Command.Steal n) = refl
  order-kept (Command.Batch n limit) = refl
  order-kept (Command.Take n limit) = refl
  order-kept (Command.Len n) = refl
  order-kept (Command.Empty n) = refl
  order-kept (Command.Pop n) = refl
  order-kept (Command.Step n) = step_kept q m t n
  order-kept (Command.Run n budget) = run-kept n budget

-- ---- a byte, and a text

back-kept : (p m : List ℕ) → length p ≤ length m → length (pool_back p m) ≡ length m
back-kept p m h = omega (arith, length-append p (drop (length p) m), length-drop (length p) m)

module _ (r : Replay) (m : List ℕ) (enough : 4096 ≤ length m) where
  ordered-kept : (c : Command) → length (ordered_by r m c).pool ≡ length m
  ordered-kept c =
      let t : Thread = thread_of r (thread_number c) in
      back-kept (order_of r.queue (pool_of r m) t c).pool m
      (omega (arith, order-kept r.queue (pool_of r m) t c, length-take (r.queue.blocks * 128) m))

  queue-kept : (x y z : ℕ) → length (queue_line r m x y z).pool ≡ length m
  queue-kept x y z = go (counts_good x y z) refl
    where
      go : (b : Bool) → counts_good x y z ≡ b → length (queue_line r m x y z).pool ≡ length m
      go true e =
          rw e (back-kept (fresh (pool_len x y) y) m (omega (arith, length-fresh (y * 128) y, few-blocks x y z e)))
      go false e = rw e

  feed_kept : (s : Stage) → length (line_feed s r m).pool ≡ length m
  feed_kept First = first_cases r m (λ p t. length t.pool ≡ length m) refl queue-kept (λ c e. refl) (line_of r)
  feed_kept Open = later_cases r m (λ p t. length t.pool ≡ length m) refl (λ x y z. refl) (λ c e. ordered-kept c) (line_of r)
  feed_kept Over = refl

  other-kept : (s : Stage) (b : ℕ) → length (other_byte s r m b).pool ≡ length m
  other-kept First b = refl
  other-kept Open b = refl
  other-kept Over b = refl

  pub byte-kept : (b : ℕ) → length (byte_told r m b).pool ≡ length m
  unfolding byte_told
  byte-kept b = go (eqb b 10)
    where
      go : (t : Bool) → length (cond t (line_feed r.stage r m) (other_byte r.stage r m b)).pool ≡ length m
      go true = feed_kept r.stage
      go false = other-kept r.stage b

pub told-kept : (r : Replay) (m bytes : List ℕ) → 4096 ≤ length m → length (told r m bytes).pool ≡ length m
unfolding told
told-kept r m [] h = refl
told-kept r m (b ∷ bytes) h =
    let same = byte-kept r m h b in
    told-kept (byte_told r m b).replay (byte_told r m b).pool bytes (omega arith) ∙ same

fed-kept : (r : Replay) (m piece : List ℕ) (free : ℕ) → 4096 ≤ length m → length (fed r m piece free).pool ≡ length m
unfolding fed
fed-kept r m piece free h = told-kept r m (take (reads r m piece free) piece) h

-- ---- progress

pub reads-some : (r : Replay) (m piece : List ℕ) (free : ℕ) → 4096 ≤ length m → 256 ≤ free → 1 ≤ length piece
    → 1 ≤ reads r m piece free
unfolding taken
reads-some r m [] free h room some = absurd (omega arith)
reads-some r m (b ∷ bytes) free h room some =
    rw (le-leb 4096 (length m) h, le-leb 256 free room) (go (is_over r.stage) _ _)
  where
    go : (o : Bool) (x y : ℕ) → 1 ≤ cond o (suc x) (suc y)
    go true x y = omega arith
    go false x y = omega arith

-- calls that each lend a byte and the room for what it makes
pub data Roomy : List Lent → Type 0 where
  none : Roomy []
  more : {c : Lent} {cs : List Lent} → 1 ≤ c.bytes → 256 ≤ c.free → Roomy cs → Roomy (c ∷ cs)

-- as many of them as the text has bytes, or more, read it to its end
pub all_read : (r : Replay) (m text : List ℕ) {cs : List Lent} → 4096 ≤ length m → Roomy cs → length text ≤ length cs
    → (driven r m text cs).left ≡ []
unfolding driven
all_read r m [] h none few = refl
all_read r m (b ∷ text) h none few = absurd (omega arith)
all_read r m text {cs = c ∷ cs} h (more bytes free rest) few =
    let piece : List ℕ = take c.bytes text in
    all_read (fed r m piece c.free).replay (fed r m piece c.free).pool (drop (reads r m piece c.free) text)
    (omega (arith, fed-kept r m piece c.free h))
    rest
    (go (leb 1 (length text)) refl)
  where
    go : (b : Bool) → leb 1 (length text) ≡ b → length (drop (reads r m (take c.bytes text) c.free) text) ≤ length cs
    go true e =
        let some = leb-true 1 (length text) e in
        let one = reads-some r m (take c.bytes text) c.free h free (omega (arith, length-take c.bytes text)) in
        omega (arith, length-drop (reads r m (take c.bytes text) c.free) text)
    go false e = omega (arith, length-drop (reads r m (take c.bytes text) c.free) text, leb-false 1 (length text) e)

-- so such calls, and a finish with room for it, write exactly the replay's bytes
pub roomy_calls : (m text : List ℕ) {cs : List Lent} (free : ℕ) → 4096 ≤ length m → Roomy cs → length text ≤ length cs → 256 ≤ free
    → (driven at_first m text cs).out ++ ends (driven at_first m text cs).replay free ≡ replayed m text
roomy_calls m text {cs} free h roomy few room = no-cut_matters m text cs free (all_read at_first m text h roomy few) room
