-- What a loop keeps, or how it ends, is said here: the check finds no such thing by itself.
use Rattle.std.proofs.Common.{◌≡◌, ◌-◌, ◌≤◌}
use Rattle.memory.specs.Pool.{freed}
use Rattle.supply.proofs.reset.Given as goal

abbrev pub invariant-loop-block : goal.invariant-loop-block
invariant-loop-block l = (l.block - 1 ≤ l.blocks - 1) × (l.pool ≡ freed l.initial.pool (l.block - 1))
