-- `parts::results_part` meets its contract. Assumes nothing.
use mathlib.Core.Path.{refl}
use Rattle.pine.specs.declared.record.Pine.{Pine}
use Rattle.pine.specs.Record.{pine_of}
use Rattle.flp.specs.Circuits.{results_part_of, results_part}
use Rattle.parts.proofs.Cuts.{results_ends}
use Rattle.parts.proofs.Places.{cut_is, inside}
use Rattle.parts.proofs.results_part.Goals as goal

pub results-requires : goal.results-requires
unfolding pine_of
results-requires c =
    let a = c.args in
    inside a.param a.full.now (λ (r : Pine). r.encoded_input_len) (λ (r : Pine). r.num_wr_tests) refl refl _ c.check_into-pine.ensures (results_ends a.param)

pub returns : goal.returns
unfolding results_part_of results_part pine_of
returns c =
    let a = c.args in
    cut_is a.param a.full.now (λ (r : Pine). r.encoded_input_len) (λ (r : Pine). r.num_wr_tests) refl refl _ c.check_into-pine.ensures _ c.results.ensures
