-- `load_report::write_words_for` meets its contract. Assumes nothing.
use borrow.Author.Rules.{rules}
use mathlib.Core.Path.{◌≡◌, sym, ap, ◌∙◌}
use mathlib.Core.Bool.{Bool}
use mathlib.Core.Option.{some}
use lib.Dec.{lit<}
use lib.ListN.{get_or}
use Rattle.load_text.specs.Text.{load_limits, numbers_of}
use Rattle.load_text.specs.Steps.{numbers_if}
use Rattle.load_report.specs.Report.{words_of, words_for}
use Rattle.load_text.proofs.Lines.{denied, affirmed, within}
use mathlib.Core.Bool.{not}
use Rattle.load_report.proofs.write_words_for.Lts as lts
use Rattle.load_report.proofs.write_words_for.Reads as reads
use Rattle.load_report.proofs.write_words_for.Tie as tie
use Rattle.load_report.proofs.write_words_for.Goals as goal

abbrev Else-not-read_numbers : Type 0
Else-not-read_numbers = lts.Else1 tie.the-claims reads.Pre reads.Post

-- the numbers, where there are any
numbers_are : (c : Else-not-read_numbers) → some c.read_numbers.new.row ≡ numbers_of load_limits c.args.text.now
numbers_are c =
    let r = c.read_numbers in
    ap (λ (t : Bool). numbers_if t r.new.row) (sym (affirmed r.result (ap not c.if-not-read_numbers.false))) ∙ r.ensures

pub returns-then-not-read_numbers : goal.returns-then-not-read_numbers
returns-then-not-read_numbers c =
    let r = c.read_numbers in
    (ap (λ (t : Bool). words_for (numbers_if t r.new.row)) (sym (denied r.result (ap not c.if-not-read_numbers.true))) ∙ ap words_for r.ensures, search rules)

pub param_of-requires : goal.param_of-requires
param_of-requires c =
    let w = within load_limits _ _ (sym (numbers_are c.before)) in
    (w 8 (lit< tt), w 9 (lit< tt))

pub returns : goal.returns
returns c =
    (c.write_words.ensures.0 ∙ ap (words_of (get_or c.read_numbers.new.row 0 0)) c.param_of.ensures ∙ ap words_for (numbers_are c.before.before.before.before.before.before), c.write_words.ensures.1)
