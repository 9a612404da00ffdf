-- The lines of the replay's output, as bytes.
use Rattle.std.specs.Prelude.{ℕ, ◌+◌, ◌≡◌, List, [], ◌∷◌, ◌++◌, length}
use Rattle.std.proofs.lemmas.List.Edits.{sets}
use Rattle.text.specs.Ascii.{ascii}
use Rattle.text.specs.Number.{digits}
use Rattle.text.specs.declared.Word.{Word}
use Rattle.text.specs.declared.Word.TheVariants.{Pushed, Task, Moved, Empty, Retry, Len, Yes, No, Open, Nothing, Refused, Bad, End, Queue}

unfoldable pub word_bytes : Word → List ℕ
word_bytes Pushed = ascii "pushed"
word_bytes Task = ascii "task"
word_bytes Moved = ascii "moved"
word_bytes Empty = ascii "empty"
word_bytes Retry = ascii "retry"
word_bytes Len = ascii "len"
word_bytes Yes = ascii "yes"
word_bytes No = ascii "no"
word_bytes Open = ascii "open"
word_bytes Nothing = ascii "none"
word_bytes Refused = ascii "refused"
word_bytes Bad = ascii "bad"
word_bytes End = ascii "end"
word_bytes Queue = ascii "queue"

-- a field with its tab, and the last field with the line feed
abbrev pub field : List ℕ → List ℕ
field f = f ++ (9 ∷ [])

abbrev pub last : List ℕ → List ℕ
last f = f ++ (10 ∷ [])

-- line number, thread, word
unfoldable pub line_bytes : ℕ → ℕ → Word → List ℕ
line_bytes l t w = field (digits l) ++ field (digits t) ++ last (word_bytes w)

-- line number, thread, word, number
unfoldable pub line_number_bytes : ℕ → ℕ → Word → ℕ → List ℕ
line_number_bytes l t w n = field (digits l) ++ field (digits t) ++ field (word_bytes w) ++ last (digits n)

unfoldable pub bad_bytes : ℕ → List ℕ
bad_bytes l = field (digits l) ++ last (word_bytes Bad)

unfoldable pub refused_bytes : ℕ → ℕ → List ℕ
refused_bytes l n = field (digits l) ++ field (word_bytes Refused) ++ last (digits n)

unfoldable pub end_bytes : ℕ → List ℕ
end_bytes steps = field (word_bytes End) ++ last (digits steps)

-- the queue line, without its line feed
unfoldable pub queue_bytes : ℕ → ℕ → ℕ → List ℕ
queue_bytes threads blocks ceiling = field (word_bytes Queue) ++ field (digits threads) ++ field (digits blocks) ++ digits ceiling

-- `bytes` stand in the buffer from place `at` on, nothing else has changed, and `next` is the place behind them
pub record Wrote (before : List ℕ) (at : ℕ) (bytes after : List ℕ) (next : ℕ) : Type 0 where
  pub buffer : after ≡ sets before at bytes
  pub place : next ≡ at + length bytes
