-- `pine::record::wr_test_exponent` meets its contract: a byte holds it. Assumes nothing.
use native.Mathlib.Omega.{arith}
use Rattle.pine.proofs.Exponent.{exponent_room}
use Rattle.pine.proofs.record.wr_test_exponent.Goals as goal

pub overflow_cast-result : goal.overflow_cast-result
overflow_cast-result c =
    omega (arith, c.bits.ensures, exponent_room c.args.numerator c.args.denominator c.args.norm_bound (omega arith) c.requires.0 (omega (arith, c.requires.1)))
