-- `day_file::is_rows` meets its contract. Assumes nothing.
use Rattle.field64.specs.Field.{p64}
use Rattle.layout.proofs.Tests.{rows_many, rows_rise, rows_fall, none_carries}
use Rattle.day_file.proofs.is_rows.Goals as goal

pub returns-then-count-gt1024 : goal.returns-then-count-gt1024
returns-then-count-gt1024 c =
    rows_many p64 c.args.count c.args.contents.now c.args.bodies.now c.if-count-gt1024.true

pub returns-then-keys_rise : goal.returns-then-keys_rise
returns-then-keys_rise c =
    let e = c.carries.ensures in
    rows_rise p64 c.args.count c.args.contents.now c.args.bodies.now c.if-count-gt1024.false _ c.keys_rise.ensures c.if-keys_rise.true _ (none_carries _ c.args.bodies.now e.below e.upper_bound)

pub returns-else-keys_rise : goal.returns-else-keys_rise
returns-else-keys_rise c =
    rows_fall p64 c.args.count c.args.contents.now c.args.bodies.now c.if-count-gt1024.false _ c.keys_rise.ensures c.if-keys_rise.false
