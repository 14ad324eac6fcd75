-- `gradient_rules::check_every` meets its contract. Assumes nothing.
use mathlib.Core.Path.{sym, ◌∙◌}
use Rattle.field64.specs.Field.{p64}
use Rattle.gradient_rules.proofs.Searches.{every_counted}
use Rattle.gradient_rules.proofs.check_every.Goals as goal

pub returns-then-count_in_range-results : goal.returns-then-count_in_range-results
returns-then-count_in_range-results c =
    c.accepted.ensures ∙ every_counted p64 c.args.bound 0 c.args.results.now (sym c.count_in_range.ensures ∙ c.if-count_in_range-results.true)
