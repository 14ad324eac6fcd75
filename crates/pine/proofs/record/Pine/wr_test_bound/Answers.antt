-- `pine::record::Pine::wr_test_bound` meets its contract: the shift loses nothing. Assumes nothing.
use mathlib.Core.Path.{sym, ◌∙◌}
use Rattle.pine.specs.Record.{bound_in}
use Rattle.pine.proofs.Exponent.{bound_none, bound_shifted}
use Rattle.pine.proofs.record.Pine.wr_test_bound.Goals as goal

pub returns-then-outside : goal.returns-then-outside
unfolding bound_in
returns-then-outside c = bound_none c.args.self.wr_test_exponent (sym c.outside.ensures ∙ c.if-outside.true)

pub returns : goal.returns
unfolding bound_in
returns c = bound_shifted c.args.self.wr_test_exponent (sym c.outside.ensures ∙ c.if-outside.false)
