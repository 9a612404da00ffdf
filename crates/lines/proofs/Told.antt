-- What was added to the output, by the buffer and the place in it; and one text behind another.
use Rattle.std.proofs.Common.{◌≡◌, List, ℕ, ◌+◌, ◌++◌, length, ap, ◌∙◌, arith, add_assoc, length-append}
use Rattle.text.specs.Print.{Wrote}
use Rattle.text.proofs.Writing.{sets_append}
use Rattle.print.specs.declared.output.Output.{Output}
use Rattle.print.specs.Output.{Adds}

pub wrote : {o o2 : Output} {text : List ℕ} → Adds o text o2 → Wrote o.bytes.now o.written text o2.bytes.now o2.written
wrote a = record { buffer = ap (λ (x : Output). x.bytes.now) a.value; place = a.place }

pub then : {a b c : Output} {x y : List ℕ} → Adds a x b → Adds b y c → Adds a (x ++ y) c
then {a} {b} {c} {x} {y} p q =
    record {
      value = q.value ∙ (let e : length (x ++ y) ≡ length x + length y = length-append x y in rw (p.value, sets_append, e) (simp add_assoc));
      place = omega (arith, length-append x y, p.place, q.place);
      same_len = omega (arith, p.same_len, q.same_len);
    }
