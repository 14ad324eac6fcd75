-- `parts::check_part` meets its contract. Assumes nothing.
use mathlib.Core.Path.{◌≡◌, sym, ap, ◌∙◌}
use lib.ListN.{length}
use Rattle.rules.specs.declared.Answer.{Answer}
use Rattle.rules.specs.Rules.{in_order}
use Rattle.pine.specs.Param.{Field64, param_answer}
use Rattle.pine.proofs.Limits.{param_accepted}
use Rattle.pine.proofs.Sizes.{derivable_64}
use Rattle.rows.specs.Rows.{row_rule}
use Rattle.flp.specs.Circuits.{part_rules}
use Rattle.parts.proofs.Vectors.{input_is, part_stopped, part_answer}
use Rattle.parts.proofs.Places.{refused_is, accepted_is}
use Rattle.parts.proofs.check_part.Lts as lts
use Rattle.parts.proofs.check_part.Reads as reads
use Rattle.parts.proofs.check_part.Tie as tie
use Rattle.parts.proofs.check_part.Goals as goal

abbrev Else-inputs-ne0 : Type 0
Else-inputs-ne0 = lts.Else1 tie.the-claims reads.Pre reads.Post

abbrev After-or-answer : Type 0
After-or-answer = lts.After-or tie.the-claims reads.Pre reads.Post

-- the inputs are accepted
met : (c : Else-inputs-ne0) → (param_answer Field64 c.args.param).number ≡ 0
met c = ap (λ (a : Answer). a.number) (sym c.check_param-inputs.ensures) ∙ c.if-inputs-ne0.false

pub returns-then-inputs-ne0 : goal.returns-then-inputs-ne0
returns-then-inputs-ne0 c =
    let a = c.args in
    refused_is a.param a.full.now _ _ (part_stopped a.param a.full.now _ c.check_param-inputs.ensures c.if-inputs-ne0.true) c.if-inputs-ne0.true c.refused.ensures

pub new-pine-requires : goal.new-pine-requires
new-pine-requires c = derivable_64 (param_accepted Field64 _ (met c.before))

-- the lengths and the elements give the answer of the rules
ruled : (c : After-or-answer)
    → ◌≡◌ {A = Answer} c.or-answer.result (in_order (part_rules Field64 c.args.param c.args.full.now))
ruled c =
    let a = c.args in
    c.or-answer.ensures
    ∙ part_answer a.param a.full.now _ _ (met c.before.before.before.before.before) (c.check_len-row_1.ensures ∙ ap (row_rule 1 (length a.full.now)) (input_is a.param _ _ c.new-pine.ensures c.input_len.ensures)) c.check_elements.ensures

pub returns-then-answer-ne0 : goal.returns-then-answer-ne0
returns-then-answer-ne0 c =
    let a = c.args in
    refused_is a.param a.full.now _ _ (ruled c.before.before.before.before) c.if-answer-ne0.true c.refused-then-answer-ne0.ensures

pub returns : goal.returns
returns c =
    let a = c.args in
    accepted_is a.param a.full.now _ _ (ruled c.before.before.before) c.if-answer-ne0.false c.new-pine.ensures
