-- `measurement::write_tests` meets its contract: after t turns the row holds the bits of t tests, and is as it was from there. Assumes nothing.
use mathlib.Core.Path.{refl}
use Prim.Native.Nat.{◌<◌}
use native.Mathlib.Omega.{arith}
use borrow.Author.Rules.{rules}
use lib.ListN.{length}
use Rattle.field64.specs.Field.{p64}
use Rattle.rows.proofs.Elements.{below_at}
use Rattle.measurement.proofs.Written.{number_written, bit_given, left_given, next_start, tests_start, tests_written}
use Rattle.measurement.proofs.write_tests.Goals as goal

pub loop-r-init : goal.loop-r-init
loop-r-init c =
    (omega arith, refl, tests_start p64 c.args.w c.args.bound c.args.successes c.args.results.now c.args.row.now, refl)

pub number_of-value-requires : goal.number_of-value-requires
number_of-value-requires c =
    (below_at p64 c.args.results.now c.requires.below.0 c.loop-r.r-index (omega arith), c.requires.below.1)

pub loop-r-preserved : goal.loop-r-preserved
loop-r-preserved c =
    let rs = c.args.results.now in
    let h : c.loop-r.r-index < length rs = omega arith in
    let is = c.in_range-hit.ensures in
    let n = number_written p64 c.args.bound c.args.successes c.loop-r.r-index rs _ is c.number_of-value.result c.number_of-value.ensures in
    let b = bit_given p64 c.args.bound c.args.successes c.loop-r.r-index rs _ is c.loop-r.left c.success_bit-success.result c.loop-r.invariant.3 c.success_bit-success.ensures in
    let f = left_given p64 c.args.bound c.args.successes c.loop-r.r-index rs _ is c.loop-r.left c.success_bit-success.result c.loop-r.invariant.3 c.success_bit-success.ensures h in
    (next_start c.args.w c.loop-r.r-index c.loop-r.start c.loop-r.invariant.0, search rules, tests_written p64 c.args.w c.args.bound c.args.successes rs c.args.row.now c.loop-r.row _ c.loop-r.r-index c.loop-r.start c.number_of-value.result c.success_bit-success.result h c.loop-r.invariant.0 c.loop-r.invariant.2 n b c.write_test.ensures, f)
