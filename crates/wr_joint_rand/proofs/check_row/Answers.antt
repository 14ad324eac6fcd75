-- `wr_joint_rand::check_row` meets its contract. Assumes nothing.
use mathlib.Core.Path.{◌∙◌, ap, sym}
use mathlib.Core.List.{List}
use Prim.Native.Nat.{ℕ}
use lib.ListN.{length}
use Rattle.rows.specs.Rows.{row_rule}
use Rattle.turboshake.proofs.Shake.{bytes_all}
use Rattle.wr_joint_rand.proofs.Seeds.{rule_is, from_seed}
use Rattle.wr_joint_rand.proofs.check_row.Goals as goal

pub returns-then-seeded : goal.returns-then-seeded
returns-then-seeded c =
    c.check_len.ensures ∙ rule_is c.args.stream_len c.args.row.now c.requires (bytes_all c.args.row.now (λ j h. (c.shared_slice_known-1.given j).fits)) ∙ ap (λ (bytes : List ℕ). row_rule 2 (length bytes) c.args.stream_len) (sym (from_seed c.args.seeded c.args.stream_len c.args.row.now c.if-seeded.true))
