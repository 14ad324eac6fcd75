-- `pine_c::wide::pine128_f64_to_field` meets its contract. Assumes nothing.
use Rattle.std.proofs.Common.{ap, ◌∙◌}
use Rattle.rules.specs.declared.Answer.{Answer}
use Rattle.field128.specs.Field128.{p128, number_of}
use Rattle.doubles128.specs.Doubles128.{floor_limit128}
use Rattle.pine_c.proofs.Coordinates.{accepted_coordinate}
use Rattle.pine_c.proofs.wide.pine128_f64_to_field.Goals as goal

pub returns-then-refused-eq0 : goal.returns-then-refused-eq0
returns-then-refused-eq0 c =
    ap (λ (a : Answer). record { answer = a; element = number_of c.element_of.result }) c.accepted.ensures
    ∙ accepted_coordinate p128 floor_limit128 c.args.x c.args.frac_bits (number_of c.element_of.result) c.if-frac_bits-le-MAX_FRAC_BITS.true (c.refused.ensures.1 c.if-refused-eq0.true) c.element_of.ensures
