-- `doubles128::f64_to_field` meets its contract: rule 4, and then `encode`. Assumes nothing.
use Rattle.std.proofs.Common.{◌∙◌, lt-ltb}
use Rattle.field128.specs.Field128.{p128}
use Rattle.doubles.specs.Doubles.{coordinate_of}
use Rattle.doubles128.specs.Doubles128.{floor_limit128}
use Rattle.doubles.proofs.Accept.{small_frac_bits}
use Rattle.doubles128.proofs.f64_to_field.Goals as goal

pub returns-then-frac_bits-gt-MAX_FRAC_BITS : goal.returns-then-frac_bits-gt-MAX_FRAC_BITS
unfolding coordinate_of
returns-then-frac_bits-gt-MAX_FRAC_BITS c = simp (lt-ltb _ _ c.if-frac_bits-gt-MAX_FRAC_BITS.true)

pub returns : goal.returns
returns c =
    c.encode.ensures ∙ small_frac_bits p128 floor_limit128 c.args.x c.args.frac_bits c.if-frac_bits-gt-MAX_FRAC_BITS.false
