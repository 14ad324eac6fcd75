-- `doubles::decode` meets its contract. Assumes nothing.
use Rattle.std.proofs.Common.{ap, ◌∙◌}
use lib.Ieee.{Float, binary64, div}
use Rattle.field64.specs.Field.{p64}
use Rattle.doubles.specs.Doubles.{centred, decoded}
use Rattle.doubles.proofs.decode.Goals as goal

pub returns : goal.returns
unfolding decoded
returns c =
    ap (λ (x : Float). div binary64 x c.args.scale) c.centred_of.ensures ∙ ap (λ (x : Float). div binary64 (centred p64 c.args.y) x) c.requires.fact_2
