-- What one byte makes fits the room that is kept free for it.
use mathlib.Core.Path.{◌≡◌, refl}
use lib.ListN.{length}
use Rattle.text.specs.Number.{digits_in, digits}
use Rattle.text.specs.Print.{word_bytes, refused_bytes}

pub refused-first : length (refused_bytes 1 1) ≡ 12
unfolding refused_bytes word_bytes digits digits_in
refused-first = refl
