-- `layout::is_rows_in` meets its contract. Assumes nothing.
use Rattle.field64.specs.Field.{p64}
use Rattle.octets.specs.Octets.{elements_in}
use Rattle.layout.proofs.Tests.{rows_many, rows_rise, rows_fall}
use Rattle.layout.proofs.is_rows_in.Goals as goal

pub returns-then-count-gt1024 : goal.returns-then-count-gt1024
returns-then-count-gt1024 c =
    rows_many p64 c.args.count c.args.contents.now (elements_in c.args.elements c.args.bodies.now) c.if-count-gt1024.true

pub returns-then-keys_rise : goal.returns-then-keys_rise
returns-then-keys_rise c =
    rows_rise p64 c.args.count c.args.contents.now (elements_in c.args.elements c.args.bodies.now) c.if-count-gt1024.false _ c.keys_rise.ensures c.if-keys_rise.true _ c.elements_below.ensures

pub returns-else-keys_rise : goal.returns-else-keys_rise
returns-else-keys_rise c =
    rows_fall p64 c.args.count c.args.contents.now (elements_in c.args.elements c.args.bodies.now) c.if-count-gt1024.false _ c.keys_rise.ensures c.if-keys_rise.false
