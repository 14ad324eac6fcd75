-- `encode128::encode_with_wr_joint_rand` meets its contract. Assumes nothing.
use mathlib.Core.Path.{◌∙◌}
use native.Mathlib.Omega.{arith}
use Rattle.encode128.proofs.Rows.{part_long, halves}
use Rattle.encode128.proofs.encode_with_wr_joint_rand.Goals as goal

pub encode_in-requires : goal.encode_in-requires
encode_in-requires c =
    let t = c.at_most-words in
    let e = t.ensures in
    (part_long 512 _ (omega (arith, e)) ∙ e, halves t.result (omega (arith, e)))
