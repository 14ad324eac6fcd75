-- `parts::locate_results` meets its contract. Assumes nothing.
use mathlib.Core.Path.{refl}
use Rattle.pine.specs.declared.record.Pine.{Pine}
use Rattle.pine.specs.Record.{pine_of}
use Rattle.flp.specs.Circuits.{results_part_of, results_part}
use Rattle.parts.proofs.Places.{located}
use Rattle.parts.proofs.locate_results.Goals as goal

pub returns : goal.returns
unfolding results_part_of results_part pine_of
returns c =
    let a = c.args in
    let both = located a.param a.full.now (λ (r : Pine). r.encoded_input_len) (λ (r : Pine). r.num_wr_tests) refl refl _ c.check_part-verdict.ensures in
    record {
      value = both.0;
      full_value = both.1;
    }
