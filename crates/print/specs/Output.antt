-- What a method of `Output` does.
use Rattle.std.specs.Prelude.{ℕ, ◌≡◌, ◌+◌, List, length}
use Rattle.std.proofs.lemmas.List.Edits.{sets}
use Rattle.print.specs.declared.output.Output.{Output}

-- with `text` written behind what stands there, into the same lent buffer
abbrev pub added : Output → List ℕ → Output
added o text = record { bytes = record o.bytes { now = sets o.bytes.now o.written text }; written = o.written + length text }

-- the same as an equation, and what follows of it for the room that is left
pub record Adds (before : Output) (text : List ℕ) (after : Output) : Type 0 where
  pub value : after ≡ added before text
  pub place : after.written ≡ before.written + length text
  pub same_len : length after.bytes.now ≡ length before.bytes.now
