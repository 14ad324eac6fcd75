-- `encode::finish` meets its contract. Assumes nothing.
use native.Mathlib.Omega.{arith}
use native.Mathlib.Nat.{mod-lt}
use mathlib.Core.Path.{sym, subst}
use Prim.Native.Nat.{ℕ}
use lib.Dec.{lit<}
use Rattle.sums.specs.Unreduced.{words_of}
use Rattle.doubles.specs.Doubles.{floor_limit64}
use Rattle.pine.specs.Param.{Field64}
use Rattle.pine.proofs.Sizes.{scale_is, derivable_64}
use Rattle.measurement.specs.Parts.{Usable}
use Rattle.encode.proofs.Encoding.{fraction_is, bound_is, bounds_fit, rest_long, late_refused, late_accepted}
use Rattle.encode.proofs.finish.Goals as goal

pub check_norm_and_tests-late-requires : goal.check_norm_and_tests-late-requires
check_norm_and_tests-late-requires c =
    omega (arith, (bounds_fit c.args.param _ c.requires.pine_value.0 (derivable_64 c.requires.pine_value.1)).0, c.wr_test_bound.ensures)

pub returns-then-late-ne0 : goal.returns-then-late-ne0
returns-then-late-ne0 c =
    let e = c.requires.pine_value.0 in
    late_refused Field64 c.args.param c.args.gradient.now c.args.found.now c.args.measurement.now c.args.results.now c.requires.below.1 _ e (bound_is c.args.param _ e (derivable_64 c.requires.pine_value.1)) (lit< tt) (words_of c.args.norm) _ _ _ c.wr_test_bound.ensures c.requires.usable.1 c.reduced-v.ensures c.check_norm_and_tests-late.ensures c.if-late-ne0.true

pub write_measurement-requires : goal.write_measurement-requires
write_measurement-requires c =
    let e = c.requires.pine_value.0 in
    let b = bounds_fit c.args.param _ e (derivable_64 c.requires.pine_value.1) in
    record {
      usable = subst (λ (f : ℕ). Usable floor_limit64 f c.args.gradient.now) (sym (fraction_is c.args.param _ e)) c.requires.usable.0;
      scale_value = scale_is c.args.param _ e;
      measurement_len = rest_long Field64 c.args.param c.args.gradient.now c.args.found.now c.args.measurement.now c.args.results.now c.requires.below.1 _ e;
      below = (c.requires.below.0, (b.1.0, b.0));
      v_lt_p64 = (rw c.reduced-v.ensures (mod-lt (words_of c.args.norm) (lit< tt)), b.1.1);
    }

pub returns : goal.returns
returns c =
    let e = c.requires.pine_value.0 in
    late_accepted Field64 c.args.param c.args.gradient.now c.args.found.now c.args.measurement.now c.args.results.now c.requires.below.1 _ e (bound_is c.args.param _ e (derivable_64 c.requires.pine_value.1)) (lit< tt) (words_of c.args.norm) _ _ _ c.wr_test_bound.ensures c.requires.usable.1 c.reduced-v.ensures c.check_norm_and_tests-late.ensures _ c.write_measurement.ensures _ c.if-late-ne0.false c.copy_row.ensures
