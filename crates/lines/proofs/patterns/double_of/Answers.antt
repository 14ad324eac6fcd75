-- With the sign's bit taken off, a NaN's pattern is a number above the infinity's (`nan_bits_above`), and `of_bits` has one
-- NaN for all of them. Assumes nothing.
use Rattle.std.proofs.Common.{◌≡◌, refl, sym, ◌∙◌}
use Rattle.std.specs.Float.{binary64}
use Rattle.std.specs.Float.Ieee.{of_bits}
use borrow.Author.Tests.{lt-ltb, le-ltb}
use mathlib.Core.Bool.{true}
use lib.Ieee.{Float, nan, inf, fin, is_nan, div}
use lib.Ieee.Bits.{nan_bits_is, nan_bits_above}
use Rattle.lines.proofs.patterns.double_of.Goals as goal

only_nan : (x : Float) → is_nan x ≡ true → x ≡ nan
unfolding is_nan
only_nan nan h = refl
only_nan (inf s) h = cc
only_nan (fin s m e) h = cc

pub float_from_bits-result : goal.float_from_bits-result
float_from_bits-result c =
    rw (nan_bits_above, le-ltb _ _ c.if-pattern-gt9218868437227405312.false) tt

pub returns-then-pattern-gt9218868437227405312 : goal.returns-then-pattern-gt9218868437227405312
unfolding div of_bits
returns-then-pattern-gt9218868437227405312 c =
    let n = c.args.pattern in
    sym (only_nan (of_bits binary64 n)
    (sym (nan_bits_is binary64 n) ∙ nan_bits_above binary64 n ∙ lt-ltb _ _ c.if-pattern-gt9218868437227405312.true))
