-- `doubles::f64_to_field` meets its contract: rule 4, and then `encode`. Assumes nothing.
use Rattle.std.proofs.Common.{◌∙◌, lt-ltb}
use Rattle.field64.specs.Field.{p64}
use Rattle.doubles.specs.Doubles.{floor_limit64, coordinate_of}
use Rattle.doubles.proofs.Accept.{small_frac_bits}
use Rattle.doubles.proofs.f64_to_field.Goals as goal

pub returns-then-frac_bits-gt-MAX_FRAC_BITS : goal.returns-then-frac_bits-gt-MAX_FRAC_BITS
unfolding coordinate_of
returns-then-frac_bits-gt-MAX_FRAC_BITS c = simp (lt-ltb _ _ c.if-frac_bits-gt-MAX_FRAC_BITS.true)

pub returns : goal.returns
returns c =
    c.encode.ensures ∙ small_frac_bits p64 floor_limit64 c.args.x c.args.frac_bits c.if-frac_bits-gt-MAX_FRAC_BITS.false
