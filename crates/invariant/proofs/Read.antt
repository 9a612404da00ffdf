-- S10: a token is read; with the last of a claim the tokens are handed over, and the marks or the walk begin.
use Prim.Native.Nat.{ℕ, ◌+◌, ◌*◌, ◌-◌, ◌≤◌, ◌<◌, min}
use mathlib.Core.Path.{◌≡◌, refl, ◌∙◌}
use mathlib.Core.Bool.{Bool, true, false, cond, ◌&&◌}
use mathlib.Core.List.{List}
use native.Mathlib.Omega.{arith}
use native.Mathlib.Nat.{le_refl}
use native.Mathlib.Decide.{ℕ_discrete}
use borrow.Author.Tests.{eqb-true, eqb-false, leb-true}
use lib.Dec.{eqb, leb}
use lib.ListN.{length, get_or, set, length-set}
use lib.Seq.{get_or-set_same, get_or-set_other}
use Rattle.memory.specs.Layout.{token}
use Rattle.memory.specs.Touch.{leaves}
use Rattle.ring.specs.Ring.{entered}
use Rattle.ring.specs.Laws.{entered-count, entered-sized}
use Rattle.state.specs.List.{within_limit}
use Rattle.state.specs.declared.Kind.{Kind}
use Rattle.state.specs.declared.Kind.TheVariants.{Steal, Batch, Take}
use Rattle.state.specs.declared.Claim.{Claim}
use Rattle.state.specs.declared.StealLine.{StealLine}
use Rattle.state.specs.declared.StealLine.TheVariants.{S10, S11}
use Rattle.state.specs.declared.Thread.{Thread}
use Rattle.state.specs.declared.Stepped.{Stepped}
use Rattle.state.specs.declared.Queue.{Queue}
use Rattle.state.specs.Move.{Step}
use Rattle.state.specs.declared.Answer.TheVariants.{Open}
use Rattle.machine.specs.Steal.{s10, handed_over, read_on, won_of, enters_from, walk_below, first, past}
use Rattle.invariant.specs.State.{State, lp, off, tk, np, W, tok}
use Rattle.invariant.specs.Shared.{Shared}
use Rattle.invariant.specs.Lines.{StealOk, Room, Tokens, Wrote, WonOk, S9Ok, S10Ok, S11Ok}
use Rattle.invariant.specs.Kept.{StepKept}
use Rattle.invariant.proofs.Facts.{cond_elim, cond-read, clash}
use Rattle.invariant.proofs.Local.{rely_refl}
use Rattle.invariant.proofs.Lower.{changed, with_own, backed, Quiet, quiet_rely, walks_on, finish_shared, finish_quiet}

-- both tests hold
both : (a b : Bool) → a && b ≡ true → (a ≡ true) × (b ≡ true)
both true true e = (refl, refl)
both true false e = clash false e refl
both false true e = clash false e refl
both false false e = clash false e refl

-- what enters has the room that begin asked for
enters : (k : Kind) (count a : ℕ) → count ≤ 64 → a ≤ 63 → Room k count → within_limit k a ≡ true → count + (a - enters_from k) ≤ 64
enters Steal count a full fits room limit = omega (arith, eqb-true a 1 limit)
enters (Batch n) count a full fits room limit =
    omega (arith, leb-true a n limit, leb-true (count + min n 63) 64 (both (leb 1 n) (leb (count + min n 63) 64) room).1)
enters (Take n) count a full fits room limit =
    omega (arith, leb-true a n limit, leb-true (count + min n 63 - 1) 64 (both (leb 1 n) (leb (count + min n 63 - 1) 64) room).1)

module _ (s : State) (i count : ℕ) (taken : List ℕ) (k : Kind) (c : Claim) (slot : ℕ) (h : Shared s) (sized : length taken ≡ 63)
    (at : S10Ok s i k count taken c.head.raw c.block c.advance slot) where
  abbrev x : ℕ
  x = c.head.raw

  abbrev b : ℕ
  b = c.block

  -- the tokens with the one just read
  abbrev more : List ℕ
  more = set taken (slot - first c) (token s.pool b slot)

  inside : slot < 63
  inside = omega (arith, at.at.claims.within, at.at.to)

  more-sized : length more ≡ 63
  more-sized = length-set taken (slot - first c) (token s.pool b slot) ∙ sized

  just_read : tok s b slot ≡ s.ghost.pushed (63 * lp x + slot)
  just_read = h.token b (lp x) slot at.at.claims.serves inside at.written

  more-tokens : Tokens s (tk x) (slot + 1 - off x) more
  more-tokens j v = go (ℕ_discrete j (slot - off x))
    where
      go : Dec (j ≡ slot - off x) → get_or more j 0 ≡ s.ghost.pushed (tk x + j)
      go (yes e) =
          let p : tk x + j ≡ 63 * lp x + slot = omega (arith, at.at.from) in
          rw (p, e) (get_or-set_same taken (slot - off x) (tok s b slot) 0 (omega (arith, sized, inside)) ∙ just_read)
      go (no n) =
          get_or-set_other taken (slot - off x) j (tok s b slot) 0 n
          ∙ at.at.tokens j (omega arith)

  more-wrote : Wrote s b (off x) (slot + 1)
  more-wrote o u v = go (ℕ_discrete o slot)
    where
      go : Dec (o ≡ slot) → W s b o ≡ true
      go (yes e) = rw e at.written
      go (no n) = at.at.wrote o u (omega arith)

  read_line : (slot + 1 ≡ past c → ⊥) → S9Ok s i k count more x b c.advance (slot + 1)
  read_line n =
      record {
        room = at.at.room;
        limit = at.at.limit;
        claims = at.at.claims;
        from = omega (arith, at.at.from);
        to = omega (arith, at.at.to, n);
        resp = at.at.resp;
        wrote = more-wrote;
        tokens = more-tokens;
      }

  -- the last token: all of the claim is written and read
  module _ (last : slot + 1 ≡ past c) where
    all-wrote : Wrote s b (off x) (off x + c.advance)
    all-wrote o u v = more-wrote o u (omega arith)

    all-tokens : (j : ℕ) → j < c.advance → get_or more j 0 ≡ s.ghost.pushed (tk x + j)
    all-tokens j v = more-tokens j (omega arith)

    first-token : (get_or more 0 0 ≡ s.ghost.pushed (s.ghost.first i)) × (s.ghost.first i < np s)
    first-token =
        let p : tk x + 0 ≡ s.ghost.first i = omega (arith, at.at.claims.first) in
        let q : off x < off x + c.advance = omega (arith, at.at.claims.some-slot) in
        let below : 63 * lp x + off x < np s =
        h.written b (lp x) (off x) at.at.claims.serves (omega (arith, at.at.claims.within)) (all-wrote (off x) (le_refl _) q)
        in
        (rw p at (all-tokens 0 at.at.claims.some-slot), omega arith)

    won : (n : Kind) → WonOk s i (won_of n more)
    won Steal = first-token
    won (Batch n) = tt
    won (Take n) = first-token

    mark-line : (past c ≡ 63 → ⊥) → S11Ok s i (won_of k more) x b c.advance (first c)
    mark-line n =
        record {
          claims = at.at.claims;
          short = omega (arith, at.at.claims.within, n);
          from = le_refl _;
          to = omega (arith, at.at.claims.some-slot);
          wrote = all-wrote;
          answer = won k;
        }

    -- the claim ended the block: its thief walks from the first claimed slot down
    ended-shared : past c ≡ 63 → Shared (changed s s.pool (backed s b (lp x) (off x) i))
    ended-shared e =
        finish_shared s h i x b c.advance at.at.claims.serves (at.at.resp e) at.at.claims.front at.at.claims.claimer all-wrote
        (λ r v d. omega arith)

    ended-quiet : past c ≡ 63 → (j : ℕ) → (j ≡ i → ⊥) → Quiet j s s.pool (backed s b (lp x) (off x) i)
    ended-quiet e =
        finish_quiet s h i x b c.advance at.at.claims.serves (at.at.resp e) at.at.claims.front at.at.claims.claimer all-wrote
        (λ r v d. omega arith)

-- the last S10, going on at a line
abbrev handing : Queue → Thread → List ℕ → Kind → Claim → StealLine → Step
handing q t taken k c line =
    record {
      stepped =
          record {
            queue = q;
            thread =
                record {
                  ring = entered t.ring taken (enters_from k) c.advance;
                  call = Rattle.state.specs.declared.Call.TheVariants.Steal line;
                  taken = taken;
                };
            answer = Open;
          };
      touch = leaves;
    }

module _ (s : State) (i : ℕ) (t : Thread) (k : Kind) (c : Claim) (slot : ℕ) (h : Shared s)
    (tokens : length t.ring.tokens ≡ 64) (full : t.ring.count ≤ 64) (sized : length t.taken ≡ 63)
    (at : S10Ok s i k t.ring.count t.taken c.head.raw c.block c.advance slot) where
  abbrev got : List ℕ
  got = set t.taken (slot - first c) (token s.pool c.block slot)

  got-sized : length got ≡ 63
  got-sized = more-sized s i t.ring.count t.taken k c slot h sized at

  fits : (entered t.ring got (enters_from k) c.advance).count ≤ 64
  fits =
      rw (entered-count t.ring got (enters_from k) c.advance)
      (enters k t.ring.count c.advance full (omega (arith, at.at.claims.within)) at.at.room at.at.limit)

  ended : slot + 1 ≡ past c → past c ≡ 63 → StepKept s i (handing s.queue t got k c (walk_below (won_of k got) c.block (first c)))
  ended last e =
      record {
        ghost = with_own s.ghost (backed s c.block (lp c.head.raw) (first c) i);
        shared = ended-shared s i t.ring.count t.taken k c slot h sized at last e;
        thread =
            record {
              tokens = entered-sized t.ring got (enters_from k) c.advance tokens;
              count = fits;
              taken = got-sized;
              call =
                  walks_on s s.pool i _ got (won_of k got) c.block (lp c.head.raw) (first c)
                  (omega (arith, at.at.claims.some-slot, e))
                  (won s i t.ring.count t.taken k c slot h sized at last k);
            };
        others = λ j n. quiet_rely j s s.pool _ (ended-quiet s i t.ring.count t.taken k c slot h sized at last e j n);
      }

  marking : slot + 1 ≡ past c → (past c ≡ 63 → ⊥) → StepKept s i (handing s.queue t got k c (S11 (won_of k got) c (first c)))
  marking last n =
      record {
        ghost = s.ghost;
        shared = h;
        thread =
            record {
              tokens = entered-sized t.ring got (enters_from k) c.advance tokens;
              count = fits;
              taken = got-sized;
              call = mark-line s i t.ring.count t.taken k c slot h sized at last n;
            };
        others = λ j m. rely_refl j s;
      }

  handed : slot + 1 ≡ past c → StepKept s i (record { stepped = handed_over s.queue t got k c; touch = leaves })
  handed last =
      cond_elim (λ (line : StealLine). StepKept s i (handing s.queue t got k c line)) (eqb (past c) 63) _ _
      (λ e. ended last (eqb-true (past c) 63 e))
      (λ e. marking last (eqb-false (past c) 63 e))

  reading : (slot + 1 ≡ past c → ⊥) → StepKept s i (record { stepped = read_on s.queue t got k c slot; touch = leaves })
  reading n =
      record {
        ghost = s.ghost;
        shared = h;
        thread =
            record { tokens = tokens; count = full; taken = got-sized; call = read_line s i t.ring.count t.taken k c slot h sized at n };
        others = λ j m. rely_refl j s;
      }

pub s10-kept : (s : State) (i : ℕ) (t : Thread) (k : Kind) (c : Claim) (slot : ℕ) → Shared s
    → length t.ring.tokens ≡ 64 → t.ring.count ≤ 64 → length t.taken ≡ 63
    → StealOk s i t.ring.count t.taken (S10 k c slot)
    → StepKept s i (record { stepped = s10 s.queue s.pool t k c slot; touch = leaves })
unfolding s10
s10-kept s i t k c slot h tokens full sized at =
    cond_elim (λ (m : Stepped). StepKept s i (record { stepped = m; touch = leaves })) (eqb (slot + 1) (past c)) _ _
    (λ e. handed s i t k c slot h tokens full sized at (eqb-true (slot + 1) (past c) e))
    (λ e. reading s i t k c slot h tokens full sized at (eqb-false (slot + 1) (past c) e))

-- the tokens that the last S10 hands over are those pushed under the claim's tickets
pub s10-tokens : (s : State) (i : ℕ) (t : Thread) (k : Kind) (c : Claim) (slot : ℕ) → Shared s
    → length t.ring.tokens ≡ 64 → t.ring.count ≤ 64 → length t.taken ≡ 63
    → StealOk s i t.ring.count t.taken (S10 k c slot)
    → slot + 1 ≡ past c → (j : ℕ) → j < c.advance
    → get_or (set t.taken (slot - first c) (token s.pool c.block slot)) j 0 ≡ s.ghost.pushed (tk c.head.raw + j)
s10-tokens s i t k c slot h tokens full sized at last =
    all-tokens s i t.ring.count t.taken k c slot h sized at last

-- the ghost that is chosen: where the claim ended the block, its frontier is the first claimed slot
module _ (s : State) (i : ℕ) (t : Thread) (k : Kind) (c : Claim) (slot : ℕ) (h : Shared s)
    (tokens : length t.ring.tokens ≡ 64) (full : t.ring.count ≤ 64) (sized : length t.taken ≡ 63)
    (at : StealOk s i t.ring.count t.taken (S10 k c slot)) where
  handed-ghost : (last : slot + 1 ≡ past c)
      → (handed s i t k c slot h tokens full sized at last).ghost
      ≡ cond (eqb (past c) 63) (with_own s.ghost (backed s c.block (lp c.head.raw) (first c) i)) s.ghost
  unfolding handed ended marking
  handed-ghost last =
      cond-read (λ (line : StealLine). StepKept s i (handing s.queue t (got s i t k c slot h tokens full sized at) k c line)) (λ l k. k.ghost)
      (eqb (past c) 63) _ _ _ _ _ _
      (λ e. refl)
      (λ e. refl)

  pub s10-ghost : (s10-kept s i t k c slot h tokens full sized at).ghost
      ≡ cond (eqb (slot + 1) (past c))
      (cond (eqb (past c) 63) (with_own s.ghost (backed s c.block (lp c.head.raw) (first c) i)) s.ghost)
      s.ghost
  unfolding s10 s10-kept reading
  s10-ghost =
      cond-read (λ (m : Stepped). StepKept s i (record { stepped = m; touch = leaves })) (λ m k. k.ghost) (eqb (slot + 1) (past c)) _ _ _ _ _ _
      (λ e. handed-ghost (eqb-true (slot + 1) (past c) e))
      (λ e. refl)
