-- `gradient_rules::check_results` meets its contract. Assumes nothing.
use mathlib.Core.Path.{sym, ap, ◌∙◌}
use Rattle.field64.specs.Field.{p64}
use Rattle.pine.specs.declared.WrTestRule.{WrTestRule}
use Rattle.flp.specs.Encode.{range_rule}
use Rattle.gradient_rules.proofs.check_results.Goals as goal

pub returns-in-Every : goal.returns-in-Every
unfolding range_rule
returns-in-Every c =
    c.check_every.ensures ∙ sym (ap (λ (r : WrTestRule). range_rule r p64 c.args.bound c.args.successes c.args.results.now) c.in-Every.is)

pub returns-in-Enough : goal.returns-in-Enough
unfolding range_rule
returns-in-Enough c =
    c.check_enough.ensures ∙ sym (ap (λ (r : WrTestRule). range_rule r p64 c.args.bound c.args.successes c.args.results.now) c.in-Enough.is)
