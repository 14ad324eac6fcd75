-- `wr_tests::check_rows` meets its contract. Assumes nothing.
use mathlib.Core.Path.{ap, ap₂, ◌∙◌}
use Rattle.rules.specs.Rules.{first}
use Rattle.wr_tests.proofs.check_rows.Goals as goal

pub returns : goal.returns
returns c =
    c.or-3.ensures
    ∙ (λ i. first (c.check_len-row_1.ensures i) ((c.or-2.ensures ∙ ap (first c.args.row_2) (c.or.ensures ∙ ap₂ first c.check_len-row_3.ensures c.check_elements-elements.ensures)) i))
