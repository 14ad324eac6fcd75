-- A sponge stays within its block.
use Rattle.std.proofs.Common.{◌<◌}
use Rattle.vectors.proofs.absorb_pattern.Given as goal

abbrev pub invariant-loop : goal.invariant-loop
invariant-loop l = l.sponge.at < 168
