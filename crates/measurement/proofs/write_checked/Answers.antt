-- `measurement::write_checked` meets its contract. Assumes nothing.
use Rattle.field64.specs.Field.{p64}
use Rattle.measurement.proofs.Written.{checked_written}
use Rattle.measurement.proofs.write_checked.Goals as goal

pub returns : goal.returns
returns c =
    checked_written p64 c.args.q c.args.v c.args.u c.args.w c.args.bound c.args.successes c.args.results.now c.args.rest.now _ _ _ c.requires.rest_len c.write_bits.ensures c.write_bits-2.ensures c.write_tests.ensures
