-- The lines that the observer notes nothing of, but that a call ended: no ticket is pushed or claimed, and the call
-- stays at its stage.
use Rattle.std.specs.Prelude.{Option, None, Some}
use Prim.Native.Nat.{ℕ, ◌+◌, ◌-◌}
use mathlib.Core.Path.{◌≡◌, refl, sym, ap, ◌∙◌}
use mathlib.Core.Bool.{Bool, true, false}
use mathlib.Core.List.{List}
use native.Mathlib.Omega.{arith}
use lib.Dec.{leb, eqb}
use Rattle.index.specs.Position.{position, lap, offset, ticket, has_next}
use Rattle.index.specs.Claim.{advanced}
use Rattle.index.specs.Length.{len}
use Rattle.index.specs.Laws.{advanced-position}
use Rattle.index.proofs.Tickets.{left-ticket}
use Rattle.index.specs.declared.Index.{Index}
use Rattle.memory.specs.Layout.{next, state, has}
use Rattle.memory.specs.Pool.{pick}
use Rattle.memory.specs.declared.Mark.TheVariants.{Write, Read, Destroy}
use Rattle.state.specs.Move.{Move}
use Rattle.state.specs.declared.Queue.{Queue}
use Rattle.state.specs.declared.Kind.{Kind}
use Rattle.state.specs.declared.Claim.{Claim}
use Rattle.state.specs.declared.Won.{Won}
use Rattle.state.specs.declared.StealLine.{StealLine}
use Rattle.state.specs.declared.StealLine.TheVariants.{S12, S14}
use Rattle.state.specs.declared.Call.{Call}
use Rattle.state.specs.declared.Call.TheVariants.{Idle}
use Rattle.state.specs.declared.Answer.{Answer}
use Rattle.state.specs.declared.Answer.TheVariants.{Open, Pushed, Empty, Len, Yes, No, Refused}
use Rattle.state.specs.declared.Refusal.TheVariants.{NoBlock, Spent}
use Rattle.state.specs.declared.Made.{Made}
use Rattle.machine.specs.Push.{p2, p2_spent, p2_last, p3, p3_took, p6, p9, p10}
use Rattle.machine.specs.Steal.{s2, s3, s5, s5_next, s8, s9, s11, s12, s13, walk_below, answer_of, past, first}
use Rattle.machine.specs.Count.{l3, e2}
use Rattle.invariant.specs.State.{State, off, tk, T, H}
use Rattle.invariant.specs.Lines.{P6Ok, Leaves}
use Rattle.invariant.proofs.Facts.{cond_elim}
use Rattle.promise.specs.Promise.{Stage, nothing}
use Rattle.promise.proofs.Stage.{At, WonAt, reading, place_of, steal_place, Goes, on, over-early, over-won}

pub record Quiet (tokens : List ℕ) (stage : Stage) (q : Queue) (made : Made) : Type 0 where
  pub goes : Goes tokens stage made.call made.answer
  pub tail : tk made.queue.tail.raw ≡ tk q.tail.raw
  pub head : tk made.queue.head.raw ≡ tk q.head.raw
  pub threads : made.queue.threads ≡ q.threads

abbrev pub QuietMove : List ℕ → Stage → Queue → Move → Type 0
QuietMove tokens stage q move = Quiet tokens stage q move.made

module _ (tokens : List ℕ) (stage : Stage) (q : Queue) where
  -- a line that leaves the shared words alone
  pub still : (call : Call) (answer : Answer) → Goes tokens stage call answer
      → Quiet tokens stage q (record { queue = q; call = call; answer = answer })
  still call answer g = record { goes = g; tail = refl; head = refl; threads = refl }

  pub still-on : (call : Call) → At tokens stage (place_of call) → Quiet tokens stage q (record { queue = q; call = call; answer = Open })
  still-on call p = still call Open (on p)

  -- ---- push, length and empty: nothing is claimed

  module _ (e : stage ≡ nothing) where
    pub p2-quiet : (v : ℕ) (t : Index) (held : Option ℕ) → QuietMove tokens stage q (p2 q v t held)
    unfolding p2
    p2-quiet v t held =
        cond_elim (QuietMove tokens stage q) (eqb (offset (position t.raw)) 63) _ _ (λ a. still-on _ e)
        (λ a.
        cond_elim (QuietMove tokens stage q) (leb q.ceiling (lap (position t.raw))) _ _ (λ b. spent held)
        (λ b. cond_elim (QuietMove tokens stage q) (eqb (offset (position t.raw)) 62) _ _ (λ d. last held) (λ d. still-on _ e)))
      where
        spent : (x : Option ℕ) → QuietMove tokens stage q (p2_spent q x)
        spent None = still Idle (Refused Spent) (over-early tokens stage (Refused Spent) e refl tt)
        spent (Some x) = still-on _ e

        last : (x : Option ℕ) → QuietMove tokens stage q (p2_last q v t x)
        last None = still-on _ e
        last (Some x) = still-on _ e

    pub p3-quiet : (m : List ℕ) (v : ℕ) (t : Index) (b : ℕ) → QuietMove tokens stage q (p3 q m v t b)
    unfolding p3
    p3-quiet m v t b = go (pick m q.blocks)
      where
        go : (x : Option ℕ) → QuietMove tokens stage q (p3_took q v t b x)
        go None = still Idle (Refused NoBlock) (over-early tokens stage (Refused NoBlock) e refl tt)
        go (Some x) = still-on _ e

    pub p9-quiet : (m : List ℕ) (v : ℕ) (t : Index) (b : ℕ) (held : Option ℕ) → QuietMove tokens stage q (p9 q m v t b held)
    unfolding p9
    p9-quiet m v t b None = still Idle Pushed (over-early tokens stage Pushed e refl tt)
    p9-quiet m v t b (Some x) = still-on _ e

    pub p10-quiet : (x : ℕ) (spent : Bool) → QuietMove tokens stage q (p10 q x spent)
    p10-quiet x true = still Idle (Refused Spent) (over-early tokens stage (Refused Spent) e refl tt)
    p10-quiet x false = still Idle Pushed (over-early tokens stage Pushed e refl tt)

    pub l3-quiet : (t h : Index) → QuietMove tokens stage q (l3 q t h)
    unfolding l3
    l3-quiet t h =
        cond_elim (QuietMove tokens stage q) (eqb q.tail.raw t.raw) _ _
        (λ a. still Idle _ (over-early tokens stage (Len (len (position t.raw) (position h.raw))) e refl tt))
        (λ a. still-on _ e)

    pub e2-quiet : (h : Index) → QuietMove tokens stage q (e2 q h)
    unfolding e2
    e2-quiet h =
        cond_elim (QuietMove tokens stage q) (eqb (position h.raw) (position q.tail.raw)) _ _
        (λ a. still Idle Yes (over-early tokens stage Yes e refl tt))
        (λ a. still Idle No (over-early tokens stage No e refl tt))

    -- ---- a thief before its claim

    pub s2-quiet : (k : Kind) (h : Index) → QuietMove tokens stage q (s2 q k h)
    unfolding s2
    s2-quiet k h =
        cond_elim (QuietMove tokens stage q) (eqb (offset (position h.raw)) 63) _ _ (λ a. still-on _ e)
        (λ a. cond_elim (QuietMove tokens stage q) (has_next h.raw) _ _ (λ b. still-on _ e) (λ b. still-on _ e))

    pub s3-quiet : (k : Kind) (h : Index) (b : ℕ) → QuietMove tokens stage q (s3 q k h b)
    unfolding s3
    s3-quiet k h b =
        cond_elim (QuietMove tokens stage q) (eqb (position h.raw) (position q.tail.raw)) _ _
        (λ a. still Idle Empty (over-early tokens stage Empty e refl tt))
        (λ a. still-on _ e)

  -- ---- a thief that reads

  pub s5-quiet : (m : List ℕ) (k : Kind) (c : Claim) → At tokens stage (reading c) → QuietMove tokens stage q (s5 q m k c)
  unfolding s5
  s5-quiet m k c p = go (next m c.block)
    where
      go : (x : Option ℕ) → QuietMove tokens stage q (s5_next q k c x)
      go None = still-on _ p
      go (Some x) = still-on _ p

  pub s9-quiet : (m : List ℕ) (k : Kind) (c : Claim) (slot : ℕ) → At tokens stage (reading c) → QuietMove tokens stage q (s9 q m k c slot)
  unfolding s9
  s9-quiet m k c slot p =
      cond_elim (QuietMove tokens stage q) (has Write (state m c.block slot)) _ _ (λ a. still-on _ p) (λ a. still-on _ p)

  -- ---- a thief that has handed over

  module _ (w : Won) (p : WonAt tokens stage w) where
    pub walks : (b slot : ℕ) → At tokens stage (steal_place (walk_below w b slot))
    walks b slot = cond_elim (λ (line : StealLine). At tokens stage (steal_place line)) (eqb slot 0) (S14 w b) (S12 w b (slot - 1)) (λ a. p) (λ a. p)

    pub gave : Quiet tokens stage q (record { queue = q; call = Idle; answer = answer_of w })
    gave = still Idle (answer_of w) (over-won tokens stage w p)

    pub s11-quiet : (m : List ℕ) (c : Claim) (slot : ℕ) → QuietMove tokens stage q (s11 q m w c slot)
    unfolding s11
    s11-quiet m c slot =
        cond_elim (QuietMove tokens stage q) (has Destroy (state m c.block slot)) _ _
        (λ a. still-on _ (walks c.block (first c)))
        (λ a. cond_elim (QuietMove tokens stage q) (eqb (slot + 1) (past c)) _ _ (λ b. gave) (λ b. still-on _ p))

    pub s12-quiet : (m : List ℕ) (b slot : ℕ) → QuietMove tokens stage q (s12 q m w b slot)
    unfolding s12
    s12-quiet m b slot =
        cond_elim (QuietMove tokens stage q) (has Read (state m b slot)) _ _ (λ a. still-on _ (walks b slot)) (λ a. still-on _ p)

    pub s13-quiet : (m : List ℕ) (b slot : ℕ) → QuietMove tokens stage q (s13 q m w b slot)
    unfolding s13
    s13-quiet m b slot =
        cond_elim (QuietMove tokens stage q) (has Read (state m b slot)) _ _ (λ a. still-on _ (walks b slot)) (λ a. gave)

-- ---- the two stores of an index that pass over offset 63, which has no ticket

module _ (tokens : List ℕ) (stage : Stage) (s : State) (i : ℕ) where
  pub p6-quiet : (v : ℕ) (t : Index) (b x : ℕ) → stage ≡ nothing → P6Ok s i v t.raw b x → QuietMove tokens stage s.queue (p6 s.queue v t b x)
  p6-quiet v t b x e p =
      let last : off t.raw ≡ 62 = p.installs.last in
      let tail : T s ≡ t.raw + 2 = p.installs.tail in
      record { goes = on e; tail = omega arith; head = refl; threads = refl }

  pub s8-quiet : (k : Kind) (c : Claim) (more : Bool) (count : ℕ) → At tokens stage (reading c)
      → Leaves s i k count c.head.raw c.block c.advance → QuietMove tokens stage s.queue (s8 s.queue k c more)
  s8-quiet k c more count e p =
      let ended : off c.head.raw + c.advance ≡ 63 = p.ended in
      let at : position (H s) ≡ position c.head.raw + c.advance = p.head in
      let here = advanced-position c.head.raw c.advance in
      record {
        goes = on e;
        tail = refl;
        head =
            left-ticket (advanced c.head.raw c.advance) more (omega arith)
            ∙ ap ticket (here ∙ sym at);
        threads = refl;
      }
