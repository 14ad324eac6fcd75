-- `turboshake::put` meets its contract. Assumes nothing.
use mathlib.Core.Path.{ap}
use Prim.Native.Nat.{ℕ, ◌/◌}
use lib.ListN.{get_or, set}
use lib.Bits.{bit_xor}
use Rattle.turboshake.proofs.Moved.{shifted_byte}
use Rattle.turboshake.proofs.put.Goals as goal

pub returns : goal.returns
returns c =
    ap (λ (n : ℕ). set c.args.lanes.now (c.args.at / 8) (bit_xor (get_or c.args.lanes.now (c.args.at / 8) 0) n)) (shifted_byte c.args.b c.args.at c.ranges.b.fits)
