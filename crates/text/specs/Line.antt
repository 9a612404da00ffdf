-- A line of the replay text, as the bytes before its line feed, and the command that it is.
use Rattle.std.specs.Prelude.{ℕ, ◌+◌, Bool, true, false, cond, List, [], ◌∷◌, length, drop, leb, eqb, Option, Some, None}
use Rattle.text.specs.Ascii.{ascii}
use Rattle.text.specs.Number.{worth, bounded, number}
use Rattle.text.specs.declared.Command.{Command}
use Rattle.text.specs.declared.Command.TheVariants.{Queue, Push, Steal, Batch, Take, Len, Empty, Pop, Step, Run}

-- ---- fields

abbrev pub prepend : ℕ → List (List ℕ) → List (List ℕ)
prepend c [] = (c ∷ []) ∷ []
prepend c (f ∷ fs) = (c ∷ f) ∷ fs

-- what the tabs of a line part: one field more than there are tabs
unfoldable pub fields : List ℕ → List (List ℕ)
fields [] = [] ∷ []
fields (c ∷ cs) = cond (eqb c 9) ([] ∷ fields cs) (prepend c (fields cs))

-- the first field alone
unfoldable pub first : List ℕ → List ℕ
first [] = []
first (c ∷ cs) = cond (eqb c 9) [] (c ∷ first cs)

-- ---- words

unfoldable pub same : List ℕ → List ℕ → Bool
same [] [] = true
same [] (y ∷ ys) = false
same (x ∷ xs) [] = false
same (x ∷ xs) (y ∷ ys) = cond (eqb x y) (same xs ys) false

-- ---- commands: by the word, and by how many numbers follow it

unfoldable pub with_one : List ℕ → ℕ → Option Command
with_one w a =
    cond (same w (ascii "step")) (Some (Step a))
    (cond (same w (ascii "steal")) (Some (Steal a))
    (cond (same w (ascii "pop")) (Some (Pop a))
    (cond (same w (ascii "len")) (Some (Len a))
    (cond (same w (ascii "empty")) (Some (Empty a)) None))))

unfoldable pub with_two : List ℕ → ℕ → ℕ → Option Command
with_two w a b =
    cond (same w (ascii "push")) (Some (Push a b))
    (cond (same w (ascii "run")) (Some (Run a b))
    (cond (same w (ascii "batch")) (Some (Batch a b))
    (cond (same w (ascii "take")) (Some (Take a b)) None)))

unfoldable pub with_three : List ℕ → ℕ → ℕ → ℕ → Option Command
with_three w a b c = cond (same w (ascii "queue")) (Some (Queue a b c)) None

abbrev pub one : List ℕ → Option ℕ → Option Command
one w (Some a) = with_one w a
one w None = None

abbrev pub two : List ℕ → Option ℕ → Option ℕ → Option Command
two w (Some a) (Some b) = with_two w a b
two w (Some a) None = None
two w None b = None

abbrev pub three : List ℕ → Option ℕ → Option ℕ → Option ℕ → Option Command
three w (Some a) (Some b) (Some c) = with_three w a b c
three w (Some a) (Some b) None = None
three w (Some a) None c = None
three w None b c = None

abbrev pub command : List (List ℕ) → Option Command
command [] = None
command (w ∷ []) = None
command (w ∷ (a ∷ [])) = one w (number a)
command (w ∷ (a ∷ (b ∷ []))) = two w (number a) (number b)
command (w ∷ (a ∷ (b ∷ (c ∷ [])))) = three w (number a) (number b) (number c)
command (w ∷ (a ∷ (b ∷ (c ∷ (d ∷ more))))) = None

-- a line is at most 80 bytes long
unfoldable pub parsed : List ℕ → Option Command
parsed line = cond (leb (length line) 80) (command (fields line)) None

-- ---- a number in its line: with the place behind its field

abbrev pub placed : ℕ → Option ℕ → Option (ℕ × ℕ)
placed at (Some v) = Some (v, at)
placed at None = None

-- where the field ends that starts at a place
abbrev pub behind : List ℕ → ℕ → ℕ
behind line at = at + length (first (drop at line))

abbrev pub number_at : List ℕ → ℕ → Option (ℕ × ℕ)
number_at line at = placed (behind line at) (number (first (drop at line)))

-- the same of a field that has a digit other than 0 in front
abbrev pub row_at : List ℕ → ℕ → Option (ℕ × ℕ)
row_at line at = placed (behind line at) (bounded (worth 0 (first (drop at line))))
