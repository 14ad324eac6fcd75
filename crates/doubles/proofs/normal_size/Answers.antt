-- `doubles::normal_size` meets its contract. The two numbers that it compares with, by their bit patterns in MIR, are 2 ^ -1022 and the infinity. Assumes nothing.
use Rattle.std.proofs.Common.{Bool, false, not, ◌&&◌, sym, ap}
use lib.Ieee.{inf, lt, of_bits, div}
use Rattle.doubles.specs.Steps.{normal_size}
use Rattle.doubles.proofs.normal_size.Goals as goal

pub returns-then-a : goal.returns-then-a
unfolding normal_size of_bits
returns-then-a c = sym (ap (λ (t : Bool). not t && lt c.args.a (inf false)) c.if-a.true)

pub returns-else-a : goal.returns-else-a
unfolding normal_size of_bits div
returns-else-a c = sym (ap (λ (t : Bool). not t && lt c.args.a (inf false)) c.if-a.false)
