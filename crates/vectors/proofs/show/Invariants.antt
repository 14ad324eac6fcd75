-- A sponge stays within its block.
use Rattle.std.proofs.Common.{◌<◌}
use Rattle.vectors.proofs.show.Given as goal

abbrev pub invariant-loop : goal.invariant-loop
invariant-loop g l = l.sponge.at < 168
