-- What `enter` makes of a ring: the batch's tokens, in the order in which they enter, over the cells behind those in use.
use Rattle.std.specs.Prelude.{ℕ, ◌+◌, ◌-◌, ◌≤◌, ◌≡◌, refl, List, length}
use Rattle.std.proofs.Common.{arith}
use Rattle.std.proofs.lemmas.Slice.{between_is, put_mid-paste}
use Rattle.std.proofs.Math.Seq.{slice}
use Rattle.std.specs.List.{between}
use borrow.Rule.Slice.PartMut.{put_mid}
use Rattle.ring.specs.declared.Ring.{Ring}
use Rattle.ring.specs.Ring.{in_order, entered}
use Rattle.ring.specs.Laws.{length_arriving, sets-paste}

pub enters : (r : Ring) (batch : List ℕ) (first end : ℕ) (written : List ℕ)
    → written ≡ in_order r.flavor (between first end batch) → end ≤ length batch → r.count + (end - first) ≤ length r.tokens
    → record {
      tokens = put_mid r.count (r.count + (end - first) - r.count) r.tokens written;
      count = r.count + (end - first);
      flavor = r.flavor;
    } ≡ entered r batch first end
unfolding entered
enters r batch first end written e fits room =
    let vs : List ℕ = in_order r.flavor (slice first end batch) in
    let n : length vs ≡ end - first = length_arriving r.flavor batch first end fits in
    let k : length vs ≡ r.count + (end - first) - r.count = omega arith in
    let copied = put_mid-paste r.count _ r.tokens written vs (length vs) (rw between_is at e) k refl in
    rw (copied, sets-paste r.tokens r.count vs (omega arith))
