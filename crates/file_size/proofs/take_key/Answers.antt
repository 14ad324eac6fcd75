-- `file_size::take_key` meets its contract. Assumes nothing.
use mathlib.Core.Path.{sym, ◌∙◌}
use native.Mathlib.Omega.{arith}
use lib.ListN.{take}
use lib.Seq.{length-take-le}
use Rattle.file_size.proofs.Steps.{held_inside, index_below, count_fits, stepped_again, stepped_begun}
use Rattle.file_size.proofs.take_key.Goals as goal

pub again-requires : goal.again-requires
again-requires c =
    let t = held_inside c.args.key (take c.args.n c.args.keys.now) _ c.find-i.ensures (sym c.is_at.ensures ∙ c.if-is_at.true) in
    let l = length-take-le c.args.n c.args.keys.now (omega (arith, c.requires)) in
    (omega (arith, t, l, c.requires), count_fits c.args.most c.args.keys.now c.args.counts.now c.args.n c.args.key c.requires _ (omega (arith, t, l)))

pub returns-then-is_at : goal.returns-then-is_at
returns-then-is_at c =
    stepped_again c.args.most c.args.keys.now c.args.counts.now c.args.n c.args.key c.requires _ c.find-i.ensures (sym c.is_at.ensures ∙ c.if-is_at.true) _ _ _ c.again.ensures

pub begin-requires : goal.begin-requires
begin-requires c =
    (index_below c.args.most c.args.keys.now c.args.counts.now c.args.n c.args.key c.requires _ c.find-i.ensures, c.requires.keys_long, c.requires.counts_long, c.requires.few)

pub returns : goal.returns
returns c =
    stepped_begun c.args.most c.args.keys.now c.args.counts.now c.args.n c.args.key c.requires _ c.find-i.ensures (sym c.is_at.ensures ∙ c.if-is_at.false) _ _ _ _ c.begin.ensures
