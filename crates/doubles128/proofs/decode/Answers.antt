-- `doubles128::decode` meets its contract. Assumes nothing.
use Rattle.std.proofs.Common.{ap, ◌∙◌}
use lib.Ieee.{Float, binary64, div}
use Rattle.field128.specs.Field128.{p128, number_of}
use Rattle.doubles.specs.Doubles.{centred, decoded}
use Rattle.doubles128.proofs.decode.Goals as goal

pub returns : goal.returns
unfolding decoded
returns c =
    ap (λ (x : Float). div binary64 x c.args.scale) c.centred_of.ensures ∙ ap (λ (x : Float). div binary64 (centred p128 (number_of c.args.y)) x) c.requires.fact_3
