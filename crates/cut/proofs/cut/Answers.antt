-- `cut::cut` meets its contract. Assumes nothing.
use mathlib.Core.Path.{◌≡◌, sym, ap, ◌∙◌}
use Rattle.rules.specs.declared.Answer.{Answer}
use Rattle.rules.specs.Rules.{in_order}
use Rattle.pine.specs.Param.{Field64, param_answer}
use Rattle.pine.proofs.Limits.{param_accepted}
use Rattle.pine.proofs.Sizes.{derivable_64, scale_is}
use lib.ListN.{take}
use Rattle.cut.specs.Cut.{cut_rules}
use Rattle.cut.proofs.Cutting.{inputs_refused, early_is, early_refused, early_met}
use Rattle.cut.proofs.cut.Lts as lts
use Rattle.cut.proofs.cut.Reads as reads
use Rattle.cut.proofs.cut.Tie as tie
use Rattle.cut.proofs.cut.Goals as goal

abbrev Else-inputs-ne0 : Type 0
Else-inputs-ne0 = lts.Else1 tie.the-claims reads.Pre reads.Post tie.handed_clauses

abbrev After-check_rows-early : Type 0
After-check_rows-early = lts.After-check_rows tie.the-claims reads.Pre reads.Post tie.handed_clauses

met : (c : Else-inputs-ne0) → (param_answer Field64 c.args.param).number ≡ 0
met c = ap (λ (a : Answer). a.number) (sym c.check_param-inputs.ensures) ∙ c.if-inputs-ne0.false

early : (c : After-check_rows-early) → c.check_rows-early.result ≡ in_order (take 8 (cut_rules Field64 c.args.param c.args.gradient.now c.args.nonce.now c.args.seeds.now c.args.leader.now c.args.helper.now c.args.given.now))
early c = early_is Field64 c.args.param c.args.gradient.now c.args.nonce.now c.args.seeds.now c.args.leader.now c.args.helper.now c.args.given.now c.new-pine.result c.new-pine.ensures _ (met c.before.before) c.check_rows-early.ensures

pub returns-then-inputs-ne0 : goal.returns-then-inputs-ne0
returns-then-inputs-ne0 c = inputs_refused Field64 c.args.param c.args.gradient.now c.args.nonce.now c.args.seeds.now c.args.leader.now c.args.helper.now c.args.given.now _ c.check_param-inputs.ensures c.if-inputs-ne0.true

pub new-pine-requires : goal.new-pine-requires
new-pine-requires c = derivable_64 (param_accepted Field64 c.args.param (met (c.before)))

pub check_rows-early-requires : goal.check_rows-early-requires
check_rows-early-requires c = scale_is c.args.param _ c.new-pine.ensures

pub returns-then-early-ne0 : goal.returns-then-early-ne0
returns-then-early-ne0 c = early_refused Field64 c.args.param c.args.gradient.now c.args.nonce.now c.args.seeds.now c.args.leader.now c.args.helper.now c.args.given.now _ (early c.before.before.before) c.if-early-ne0.true

pub cut_from_norm-requires : goal.cut_from_norm-requires
cut_from_norm-requires c =
    record {
      pine_value = c.new-pine.ensures;
      met_up_to = early_met Field64 c.args.param c.args.gradient.now c.args.nonce.now c.args.seeds.now c.args.leader.now c.args.helper.now c.args.given.now _ (early c.before.before.before.before.before.before) c.if-early-ne0.false;
    }
