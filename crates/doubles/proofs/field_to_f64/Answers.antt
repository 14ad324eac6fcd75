-- `doubles::field_to_f64` meets its contract: the rules in the order of `decoded_of`. Assumes nothing.
use Rattle.std.proofs.Common.{lit≤, le-ltb, lt-ltb, le-leb}
use borrow.Author.Tests.{lt-leb}
use lib.Ieee.{of_bits}
use Rattle.field64.specs.Field.{p64}
use Rattle.doubles.specs.Doubles.{size_limit64, decoded_of}
use Rattle.doubles.proofs.Sense.{size_met}
use Rattle.doubles.proofs.field_to_f64.Goals as goal

pub returns-then-frac_bits-gt-MAX_FRAC_BITS : goal.returns-then-frac_bits-gt-MAX_FRAC_BITS
unfolding decoded_of of_bits
returns-then-frac_bits-gt-MAX_FRAC_BITS c = simp (lt-ltb _ _ c.if-frac_bits-gt-MAX_FRAC_BITS.true)

pub returns-then-y-ge-P : goal.returns-then-y-ge-P
unfolding decoded_of of_bits
returns-then-y-ge-P c = simp (le-ltb _ _ c.if-frac_bits-gt-MAX_FRAC_BITS.false, le-leb _ _ c.if-y-ge-P.true)

pub returns : goal.returns
unfolding decoded_of
returns c =
    simp (c.accepted.ensures, c.decode.ensures, le-ltb _ _ c.if-frac_bits-gt-MAX_FRAC_BITS.false, lt-leb _ _ c.if-y-ge-P.false, size_met p64 size_limit64 _ (lit≤ tt) c.if-y-ge-P.false)
