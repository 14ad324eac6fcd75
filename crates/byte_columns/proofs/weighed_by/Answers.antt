-- `byte_columns::weighed_by` meets its contract. Assumes nothing.
use mathlib.Core.Path.{ap, ◌∙◌}
use Prim.Native.Nat.{ℕ, ◌%◌}
use Rattle.field64.specs.Field.{p64}
use Rattle.byte_columns.proofs.Straight.{three_adds, zero_subtracts, others_skip}
use Rattle.byte_columns.proofs.weighed_by.Goals as goal
use Rattle.byte_columns.proofs.weighed_by.Goals.{then-pair-eq0, else-pair-eq0}

pub returns-then-pair-eq3 : goal.returns-then-pair-eq3
returns-then-pair-eq3 c =
    three_adds c.args.pair c.args.x c.if-pair-eq3.true c.requires

pub returns-else-pair-eq3 : goal.returns-else-pair-eq3
returns-else-pair-eq3 c =
    elim c.if-pair-eq0.branch [
      | then-pair-eq0 w ↦ ap (λ (n : ℕ). n % p64) w.subtracted-is ∙ zero_subtracts c.args.pair c.args.x w.if-pair-eq0.true
      | else-pair-eq0 w ↦ ap (λ (n : ℕ). n % p64) w.subtracted-is ∙ others_skip c.args.pair c.args.x w.if-pair-eq0.false c.if-pair-eq3.false
    ]
