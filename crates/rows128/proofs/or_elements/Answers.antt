-- `rows128::or_elements` meets its contract. Assumes nothing.
use Rattle.std.proofs.Common.{ℕ, sym, ap, ◌∙◌}
use Rattle.rows.specs.Rows.{elements_from}
use Rattle.rows.proofs.Elements.{elements_after}
use Rattle.field128.specs.Field128.{p128, elements_of}
use Rattle.field128.proofs.Pairs.{elements_length}
use Rattle.rows128.proofs.or_elements.Goals as goal

pub returns : goal.returns
returns c =
    let left = elements_of c.args.left.now in
    let right = elements_of c.args.right.now in
    elements_after p128 left right c.args.so_far _ _ _ c.if-so_far-ne0.false c.check_elements-in_left.ensures (c.check_elements-in_right.ensures ∙ ap (λ (k : ℕ). elements_from p128 k right) (sym (elements_length c.args.left.now))) c.or.ensures
