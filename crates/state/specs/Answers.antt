-- document 01, "Numbers given back", and the values that the words of its replay text carry
use Rattle.std.specs.Prelude.{ℕ, List, [], ◌∷◌}
use Rattle.state.specs.declared.Refusal.{Refusal}
use Rattle.state.specs.declared.Refusal.TheVariants.{BadSetup, BadState, NoThread, Busy, NoLimit, NoRoom, Idle, NoBlock, Spent}
use Rattle.state.specs.declared.Won.{Won}
use Rattle.state.specs.declared.Answer.{Answer}
use Rattle.state.specs.declared.Answer.TheVariants.{Open, Pushed, Task, Moved, Empty, Retry, Len, Yes, No, Refused}

abbrev pub number : Refusal → ℕ
number BadSetup = 1
number BadState = 2
number NoThread = 3
number Busy = 4
number NoLimit = 5
number NoRoom = 6
number Idle = 7
number NoBlock = 8
number Spent = 9

-- the answer of a call that has won
abbrev pub answered : Won → Answer
answered (Won.Task token) = Answer.Task token
answered Won.Moved = Answer.Moved

-- the numbers that an answer carries: of a refusal its number
abbrev pub values : Answer → List ℕ
values Open = []
values Pushed = []
values (Task token) = token ∷ []
values Moved = []
values Empty = []
values Retry = []
values (Len n) = n ∷ []
values Yes = []
values No = []
values (Refused r) = number r ∷ []
