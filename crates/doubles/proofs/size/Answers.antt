-- `doubles::size` meets its contract. Assumes nothing.
use Rattle.std.proofs.Common.{Bool, cond, sym, ap}
use lib.Ieee.{neg, of_bits}
use Rattle.doubles.specs.Steps.{size_of}
use Rattle.doubles.proofs.size.Goals as goal

pub returns-then-x : goal.returns-then-x
unfolding size_of of_bits
returns-then-x c = sym (ap (λ (t : Bool). cond t (neg c.args.x) c.args.x) c.if-x.true)

pub returns-else-x : goal.returns-else-x
unfolding size_of of_bits
returns-else-x c = sym (ap (λ (t : Bool). cond t (neg c.args.x) c.args.x) c.if-x.false)
