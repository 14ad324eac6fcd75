-- `tables::less_group` meets its contract: a row whose elements are replaced from the front. Assumes nothing.
use native.Mathlib.Omega.{arith}
use Rattle.field64.specs.Field.{p64}
use Rattle.tables.specs.Tables.{less_entries}
use Rattle.groups.proofs.Each.{small, bytes_long, each_next, each_end}
use Rattle.tables.proofs.less_group.Goals as goal

pub less_bytes-requires : goal.less_bytes-requires
less_bytes-requires c =
    let e = bytes_long (less_entries p64 c.args.tables.now) c.args.per c.args.j c.args.n c.args.stream.now c.args.results.now c.loop-t.results c.loop-t.t c.loop-t.invariant (omega arith) c.requires.per_in_bounds.0 c.requires.per_in_bounds.1.0 in
    (small (less_entries p64 c.args.tables.now) c.args.per c.args.j c.args.n c.args.stream.now c.args.results.now c.loop-t.results c.loop-t.t c.loop-t.invariant (omega arith) p64 c.requires.below, rw e c.requires.per_in_bounds.1.1)

pub loop-t-preserved : goal.loop-t-preserved
loop-t-preserved c =
    each_next (less_entries p64 c.args.tables.now) c.args.per c.args.j c.args.n c.args.stream.now c.args.results.now c.loop-t.results c.loop-t.t c.loop-t.invariant (omega arith) c.less_bytes.result c.less_bytes.ensures

pub returns : goal.returns
returns c =
    each_end (less_entries p64 c.args.tables.now) c.args.per c.args.j c.args.n c.args.stream.now c.args.results.now c.loop-t.results c.loop-t.t c.loop-t.invariant (omega arith)
