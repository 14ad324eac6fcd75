-- `rows128::scan::search` meets its contract. Assumes nothing.
use Rattle.std.proofs.Common.{◌≡◌, [], drop, sym, ◌∙◌, arith, drop_of_length-le, leb-false, leb-true}
use Rattle.rows.proofs.Elements.{bad_next, bad_here}
use Rattle.field128.specs.Field128.{p128, elements_of}
use Rattle.field128.proofs.Pairs.{elements_length}
use Rattle.rows128.proofs.scan.search.Goals as goal

pub returns-then-is_bad : goal.returns-then-is_bad
returns-then-is_bad c =
    let row = c.args.row.now in
    bad_here p128 (elements_of row) c.loop-i.i (omega (arith, elements_length row)) (rw (← c.element.ensures) (leb-true _ _ (sym c.is_bad.ensures ∙ c.if-is_bad.true))) c.loop-i.invariant

pub loop-i-preserved : goal.loop-i-preserved
loop-i-preserved c =
    let row = c.args.row.now in
    bad_next p128 (elements_of row) c.loop-i.i (omega (arith, elements_length row)) (rw (← c.element.ensures) (leb-false _ _ (sym c.is_bad.ensures ∙ c.if-is_bad.false))) c.loop-i.invariant

pub returns : goal.returns
returns c =
    let row = c.args.row.now in
    let e : drop c.loop-i.i (elements_of row) ≡ [] = drop_of_length-le (elements_of row) {i = c.loop-i.i} (omega (arith, elements_length row)) in
    omega (arith, rw e at c.loop-i.invariant)
