-- `weights::add_bytes` meets its contract. Assumes nothing.
use mathlib.Core.Path.{◌∙◌}
use native.Mathlib.Nat.{mod-lt}
use lib.Dec.{lit<}
use Rattle.field64.specs.Field.{p64, sub_mod}
use Rattle.field64.proofs.Sums.{evaluate_below}
use Rattle.weights.proofs.Weights.{part_fits, part_weighed, bytes_weighed}
use Rattle.weights.proofs.add_bytes.Goals as goal

pub weighed_sum-weighed-requires : goal.weighed_sum-weighed-requires
weighed_sum-weighed-requires c =
    (c.requires.below.1.0, part_fits c.args.xs.now c.args.bytes.now _ c.write_weights.ensures c.requires.below.1.1)

pub add-requires : goal.add-requires
add-requires c = (c.requires.r_lt_p64.0, rw c.weighed_sum-weighed.ensures (evaluate_below p64 1 (lit< tt) _))

pub sub-requires : goal.sub-requires
sub-requires c = (rw c.add.ensures (mod-lt _ (lit< tt)), rw c.requires.r_lt_p64.1 (evaluate_below p64 1 (lit< tt) _))

pub returns : goal.returns
returns c =
    let xs = c.args.xs.now in
    c.sub.ensures
    ∙ (λ i. sub_mod p64 (c.add.ensures i) c.args.plain)
    ∙ bytes_weighed p64 (lit< tt) c.args.r c.args.plain c.weighed_sum-weighed.result xs c.args.bytes.now c.requires.below.0 c.requires.below.1.1 c.requires.r_lt_p64.1 (part_weighed xs c.args.bytes.now _ c.write_weights.ensures p64 _ c.weighed_sum-weighed.ensures)
