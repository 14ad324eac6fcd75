-- `file_add::place_of` meets its contract. Assumes nothing.
use native.Mathlib.Omega.{arith}
use Rattle.file_add.proofs.Places.{place_held, place_other, place_past}
use Rattle.file_add.proofs.place_of.Goals as goal

pub returns-then-there-key : goal.returns-then-there-key
returns-then-there-key c =
    (place_held c.args.count c.args.key c.args.contents.now _ c.find-index.ensures c.if-index-count.true _ _ c.key_at-there.ensures c.if-there-key.true c.reports_at-reports.ensures.0, c.reports_at-reports.ensures.1)

pub returns-else-there-key : goal.returns-else-there-key
returns-else-there-key c =
    (place_other c.args.count c.args.key c.args.contents.now _ c.find-index.ensures c.if-index-count.true _ c.key_at-there.ensures c.if-there-key.false, omega arith)

pub returns-else-index-count : goal.returns-else-index-count
returns-else-index-count c =
    (place_past c.args.count c.args.key c.args.contents.now _ c.find-index.ensures c.if-index-count.false, omega arith)
