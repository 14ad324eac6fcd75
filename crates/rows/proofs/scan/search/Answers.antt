-- `rows::scan::search` meets its contract. Assumes nothing.
use Rattle.std.proofs.Common.{rules, tests, leb, ◌∙◌}
use Rattle.std.proofs.lemmas.Iterator.{YieldsList-from_slice}
use Rattle.std.proofs.lemmas.Iterator.Search.{position_from_yields_List}
use Rattle.field64.specs.Field.{p64}
use Rattle.rows.proofs.Elements.{first_bad_found}
use Rattle.rows.proofs.scan.search.Goals as goal

pub returns : goal.returns
returns c = c.unwrap_or.ensures ∙ first_bad_found p64 c.args.row.now _ (position_from_yields_List (leb p64) _ _ c.position.result c.position.ensures.ran (YieldsList-from_slice c.args.row.now c.iter.ensures.rest) (λ x b q k. search (rules, tests)))
