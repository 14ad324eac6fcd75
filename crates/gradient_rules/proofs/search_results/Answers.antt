-- `gradient_rules::search_results` meets its contract: the search is for the first result out of range. Assumes nothing.
use Rattle.std.proofs.Common.{not, rules, tests, ◌∙◌}
use Rattle.std.proofs.lemmas.Iterator.{YieldsList-from_slice}
use Rattle.std.proofs.lemmas.Iterator.Search.{position_from_yields_List}
use Rattle.field64.specs.Field.{p64}
use Rattle.flp.specs.Encode.{in_range}
use Rattle.gradient_rules.proofs.Searches.{every_missed, every_met}
use Rattle.gradient_rules.proofs.search_results.Goals as goal

pub returns-in-Some : goal.returns-in-Some
returns-in-Some c =
    every_missed p64 c.args.bound c.args.results.now _ (position_from_yields_List (λ r. not (in_range p64 c.args.bound r)) _ _ c.position-found.result c.position-found.ensures.ran (YieldsList-from_slice c.args.results.now c.iter.ensures.rest) (λ x b q k. search (rules, tests))) _ c.in-Some.is

pub returns-in-None : goal.returns-in-None
returns-in-None c =
    c.accepted.ensures ∙ every_met p64 c.args.bound c.args.results.now _ (position_from_yields_List (λ r. not (in_range p64 c.args.bound r)) _ _ c.position-found.result c.position-found.ensures.ran (YieldsList-from_slice c.args.results.now c.iter.ensures.rest) (λ x b q k. search (rules, tests))) c.in-None.is
