-- `encode128::finish` meets its contract. Assumes nothing.
use mathlib.Core.Path.{sym, subst, ◌∙◌}
use Prim.Native.Nat.{ℕ}
use native.Mathlib.Omega.{arith}
use lib.ListN.{length}
use Rattle.sums.specs.Unreduced.{words_of}
use Rattle.pine.proofs.Sizes.{scale_is}
use Rattle.field128.specs.Field128.{number_of, elements_of}
use Rattle.doubles128.specs.Doubles128.{floor_limit128}
use Rattle.measurement.specs.Parts.{Usable}
use Rattle.encode.proofs.Encoding.{fraction_is}
use Rattle.encode128.proofs.Narrowed.{bound_small, positive, refused, asked, done}
use Rattle.encode128.proofs.Rows.{found_long}
use Rattle.encode128.proofs.finish.Goals as goal

pub narrow_results-requires : goal.narrow_results-requires
narrow_results-requires c =
    record {
      results_len = found_long c.args.found.now (length c.args.small.now) c.requires.below.1 (c.requires.rooms.0.1.0 ∙ sym c.requires.rooms.1);
      below = (c.requires.below.0, (positive c.args.param c.requires.pine_value.1 c.args.pine c.requires.pine_value.0 _ c.wr_test_bound-bound.ensures, bound_small c.args.param c.requires.pine_value.1 c.args.pine c.requires.pine_value.0 _ c.wr_test_bound-bound.ensures));
    }

pub check_norm_and_tests-late-requires : goal.check_norm_and_tests-late-requires
check_norm_and_tests-late-requires c =
    omega (arith, bound_small c.args.param c.requires.pine_value.1 c.args.pine c.requires.pine_value.0 _ c.wr_test_bound-bound.ensures)

pub returns-then-late-ne0 : goal.returns-then-late-ne0
returns-then-late-ne0 c =
    refused c.args.param c.requires.pine_value.1 c.args.pine c.requires.pine_value.0 _ c.wr_test_bound-bound.ensures (elements_of c.args.found.now) c.requires.below.0 _ c.narrow_results.ensures c.args.gradient.now c.args.measurement.now c.args.results.now c.requires.rooms.0 (words_of c.args.norm) (number_of c.reduced.result) _ _ c.requires.usable.1 c.reduced.ensures c.narrow_norm-v.ensures c.check_norm_and_tests-late.ensures c.if-late-ne0.true

pub write_measurement-requires : goal.write_measurement-requires
write_measurement-requires c =
    let written = asked c.args.param c.requires.pine_value.1 c.args.pine c.requires.pine_value.0 _ c.wr_test_bound-bound.ensures (elements_of c.args.found.now) c.requires.below.0 _ c.narrow_results.ensures c.args.gradient.now c.args.measurement.now c.args.results.now c.requires.rooms.0 (words_of c.args.norm) (number_of c.reduced.result) _ _ c.requires.usable.1 c.reduced.ensures c.narrow_norm-v.ensures c.check_norm_and_tests-late.ensures c.if-late-ne0.false in
    record {
      usable = subst (λ (f : ℕ). Usable floor_limit128 f c.args.gradient.now) (sym (fraction_is c.args.param _ c.requires.pine_value.0)) c.requires.usable.0;
      scale_value = scale_is c.args.param _ c.requires.pine_value.0;
      measurement_len = written.0;
      below = written.1.0;
      v_lt_p64 = written.1.1;
    }

pub copy_row-requires : goal.copy_row-requires
copy_row-requires c =
    c.requires.rooms.0.1.1.1 ∙ sym (found_long c.args.found.now c.args.param.num_wr_tests c.requires.below.1 c.requires.rooms.0.1.0)

pub returns : goal.returns
returns c =
    done c.args.param c.requires.pine_value.1 c.args.pine c.requires.pine_value.0 _ c.wr_test_bound-bound.ensures (elements_of c.args.found.now) c.requires.below.0 _ c.narrow_results.ensures c.args.gradient.now c.args.measurement.now c.args.results.now c.requires.rooms.0 (words_of c.args.norm) (number_of c.reduced.result) _ _ c.requires.usable.1 c.reduced.ensures c.narrow_norm-v.ensures c.check_norm_and_tests-late.ensures c.if-late-ne0.false _ _ c.write_measurement.ensures (c.copy_row.ensures ∙ c.requires.below.1)
