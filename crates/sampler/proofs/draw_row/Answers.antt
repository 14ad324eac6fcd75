-- `sampler::draw_row` meets its contract. Assumes nothing.
use native.Mathlib.Omega.{arith}
use lib.Dec.{lit<}
use Rattle.field64.specs.Field.{p64}
use Rattle.sampler.proofs.Keeping.{row_full, row_zero}
use Rattle.sampler.proofs.draw_row.Goals as goal

pub returns-then-drew-row : goal.returns-then-drew-row
returns-then-drew-row c =
    let s = c.args in
    let d = c.draw-drew in
    row_zero p64 s.stream s.left d.result d.new.row d.ensures (lit< tt) (omega (arith, c.if-drew-row.true)) c.zero_row.new.row c.zero_row.ensures

pub returns : goal.returns
returns c =
    let s = c.args in
    let d = c.draw-drew in
    row_full p64 s.stream s.left d.result d.new.row d.ensures (omega (arith, c.if-drew-row.false))
