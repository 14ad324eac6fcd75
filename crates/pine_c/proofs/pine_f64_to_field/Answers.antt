-- `pine_c::pine_f64_to_field` meets its contract. Assumes nothing.
use Rattle.std.proofs.Common.{ap, ◌∙◌}
use Rattle.field64.specs.Field.{p64}
use Rattle.rules.specs.declared.Answer.{Answer}
use Rattle.doubles.specs.Doubles.{floor_limit64}
use Rattle.pine_c.proofs.Coordinates.{accepted_coordinate}
use Rattle.pine_c.proofs.pine_f64_to_field.Goals as goal

pub returns-then-refused-eq0 : goal.returns-then-refused-eq0
returns-then-refused-eq0 c =
    ap (λ (a : Answer). record { answer = a; element = c.element_of.result }) c.accepted.ensures
    ∙ accepted_coordinate p64 floor_limit64 c.args.x c.args.frac_bits c.element_of.result c.if-frac_bits-le-MAX_FRAC_BITS.true (c.refused.ensures.1 c.if-refused-eq0.true) c.element_of.ensures
