-- `weights::add_weighed` meets its contract: a row whose elements are replaced from the front. Assumes nothing.
use mathlib.Core.Path.{◌∙◌}
use mathlib.Core.List.{List}
use Prim.Native.Nat.{ℕ}
use native.Mathlib.Omega.{arith}
use Rattle.field64.specs.Field.{p64, add_mod}
use Rattle.flp.specs.Tests.{test_of}
use Rattle.groups.proofs.Each.{small, bytes_long, each_next, each_end}
use Rattle.weights.proofs.Weights.{pairs_table}
use Rattle.weights.proofs.add_weighed.Goals as goal

-- what is made of the bytes of a test
abbrev adds : (xs bytes : List ℕ) (r : ℕ) → ℕ
adds xs bytes r = add_mod p64 r (test_of p64 xs bytes)

pub add_bytes-requires : goal.add_bytes-requires
add_bytes-requires c =
    let e = bytes_long (adds c.args.xs.now) c.args.per c.args.j c.args.n c.args.stream.now c.args.results.now c.loop-t.results c.loop-t.t c.loop-t.invariant.1 (omega arith) c.requires.per_in_bounds.0 c.requires.per_in_bounds.1.0 in
    record {
      r_lt_p64 = (small (adds c.args.xs.now) c.args.per c.args.j c.args.n c.args.stream.now c.args.results.now c.loop-t.results c.loop-t.t c.loop-t.invariant.1 (omega arith) p64 c.requires.below_2, c.plain_sum-plain.ensures);
      below = (c.requires.below.0, (c.requires.below.1.0, rw e c.requires.below.1.1));
      pair_weights = (pairs_table, (omega arith, rw e (c.loop-t.invariant.0 ∙ c.requires.per_in_bounds.1.1)));
    }

pub loop-t-preserved : goal.loop-t-preserved
loop-t-preserved c =
    (c.add_bytes.auto.weights ∙ c.loop-t.invariant.0, each_next (adds c.args.xs.now) c.args.per c.args.j c.args.n c.args.stream.now c.args.results.now c.loop-t.results c.loop-t.t c.loop-t.invariant.1 (omega arith) c.add_bytes.result c.add_bytes.ensures)

pub returns : goal.returns
returns c =
    each_end (adds c.args.xs.now) c.args.per c.args.j c.args.n c.args.stream.now c.args.results.now c.loop-t.results c.loop-t.t c.loop-t.invariant.1 (omega arith)
