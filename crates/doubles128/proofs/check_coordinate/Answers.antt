-- `doubles128::check_coordinate` meets its contract: rule 8, then rule 17, by the product with the scale. Assumes nothing.
use Rattle.std.proofs.Common.{T, sym, ◌∙◌, subst, lit<}
use lib.Ieee.{binary64, fits}
use Rattle.doubles128.specs.Doubles128.{floor_limit128}
use Rattle.doubles.proofs.Accept.{usable_is, limit_is, answer_17, answer_none}
use Rattle.std.proofs.Common.{ap}
use mathlib.Core.Bool.{not}
use Rattle.doubles128.proofs.check_coordinate.Lts as lts
use Rattle.doubles128.proofs.check_coordinate.Reads as reads
use Rattle.doubles128.proofs.check_coordinate.Tie as tie
use Rattle.doubles128.proofs.check_coordinate.Goals as goal

abbrev Start : Type 0
Start = lts.Start tie.the-claims reads.Pre reads.Post

held : (c : Start) → T (fits binary64 c.args.x)
held c = subst T (sym c.well_formed.0.1) tt

pub returns-then-not-within_limit : goal.returns-then-not-within_limit
returns-then-not-within_limit c =
    let h = usable_is c.args.x _ c.usable.ensures (ap not c.if-not-usable.false) in
    answer_17 floor_limit128 c.args.x c.args.frac_bits h (sym (limit_is floor_limit128 (lit< tt) c.args.x c.args.scale c.args.frac_bits (held c.before.before.before.before) c.requires h _ c.within_limit.ensures) ∙ (ap not c.if-not-within_limit.true))

pub returns : goal.returns
returns c =
    let h = usable_is c.args.x _ c.usable.ensures (ap not c.if-not-usable.false) in
    c.accepted.ensures ∙ answer_none floor_limit128 c.args.x c.args.frac_bits h (sym (limit_is floor_limit128 (lit< tt) c.args.x c.args.scale c.args.frac_bits (held c.before.before.before.before.before) c.requires h _ c.within_limit.ensures) ∙ (ap not c.if-not-within_limit.false))
