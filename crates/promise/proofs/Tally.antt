-- What the notes so far come to, as `Fair` counts it along; and fair notes after fair notes are fair.
use Prim.Native.Nat.{ℕ, ◌+◌}
use mathlib.Core.Path.{◌≡◌, refl}
use mathlib.Core.List.{List, [], ◌∷◌, ◌++◌}
use Rattle.ring.specs.declared.Flavor.{Flavor}
use Rattle.machine.specs.Steal.{enters_from}
use Rattle.history.specs.Log.{Note, pushes, claims, hands, ends}
use Rattle.promise.specs.Promise.{Stage, nothing, claimed, at_stage, given_over, Fair}

-- the tokens of the tickets pushed, how many tickets were claimed, and how far each thread's call has come
pub record Tally : Type 0 where
  pub tokens : List ℕ
  pub done : ℕ
  pub stages : ℕ → Stage

abbrev pub none_yet : Tally
none_yet = record { tokens = []; done = 0; stages = λ n. nothing }

abbrev pub with_stage : Tally → ℕ → Stage → Tally
with_stage c n stage = record { tokens = c.tokens; done = c.done; stages = at_stage c.stages n stage }

abbrev pub tally : Tally → Note → Tally
tally c (pushes p) = record { tokens = c.tokens ++ (p.token ∷ []); done = c.done; stages = c.stages }
tally c (claims k) =
    record {
      tokens = c.tokens;
      done = c.done + k.count;
      stages = at_stage c.stages k.thread (claimed k.first k.count);
    }
tally c (hands h) = with_stage c h.thread (given_over (enters_from h.kind) (c.stages h.thread))
tally c (ends e) = with_stage c e.thread nothing

abbrev pub tallied : Tally → List Note → Tally
tallied c [] = c
tallied c (n ∷ l) = tallied (tally c n) l

abbrev pub FairFrom : List Flavor → Tally → List Note → Type 0
FairFrom flavors c l = Fair flavors c.tokens c.done c.stages l

pub tallied_append : (c : Tally) (l m : List Note) → tallied c (l ++ m) ≡ tallied (tallied c l) m
tallied_append c [] m = refl
tallied_append c (n ∷ l) m = tallied_append (tally c n) l m

pub fair_append : (flavors : List Flavor) (c : Tally) (l m : List Note) → FairFrom flavors c l → FairFrom flavors (tallied c l) m
    → FairFrom flavors c (l ++ m)
fair_append flavors c [] m f g = g
fair_append flavors c (pushes p ∷ l) m f g = (f.0, fair_append flavors (tally c (pushes p)) l m f.1 g)
fair_append flavors c (claims k ∷ l) m f g =
    (f.0, f.1, f.2, f.3, fair_append flavors (tally c (claims k)) l m f.4 g)
fair_append flavors c (hands h ∷ l) m f g = (f.0, fair_append flavors (tally c (hands h)) l m f.1 g)
fair_append flavors c (ends e ∷ l) m f g = (f.0, fair_append flavors (tally c (ends e)) l m f.1 g)
