-- `params::derive_beside` meets its contract. Assumes nothing.
use borrow.Author.Tests.{ne_eqb}
use mathlib.Core.Path.{◌≡◌}
use Rattle.rules.specs.Rules.{accepted}
use Rattle.pine.specs.Record.{pine_of, Derivable, FromDerivable}
use Rattle.pine.proofs.Sizes.{answered}
use Rattle.params.proofs.derive_beside.Lts as lts
use Rattle.params.proofs.derive_beside.Reads as reads
use Rattle.params.proofs.derive_beside.Tie as tie
use Rattle.params.proofs.derive_beside.Goals as goal

abbrev Else-answer-ne0 : Type 0
Else-answer-ne0 = lts.Else1 tie.the-claims reads.Pre reads.Post

abbrev After-new-pine : Type 0
After-new-pine = lts.After-new tie.the-claims reads.Pre reads.Post

-- the inputs are accepted, and the record is theirs
passed : (c : Else-answer-ne0) → (c.args.answer ≡ accepted) × Derivable c.args.param
passed c = answered c.requires c.if-answer-ne0.false

made : (c : After-new-pine) → FromDerivable c.new-pine.result
made c = record { param = _; derivable = (passed c.before).1; is = c.new-pine.ensures }

pub returns-then-answer-ne0 : goal.returns-then-answer-ne0
returns-then-answer-ne0 c =
    simp (c.none-then-answer-ne0-2.ensures, c.none-then-answer-ne0.ensures, c.none.ensures, ne_eqb _ _ c.if-answer-ne0.true)

pub new-pine-requires : goal.new-pine-requires
new-pine-requires c = (passed c).1

pub stream_len-requires : goal.stream_len-requires
stream_len-requires c = made c

pub lengths-requires : goal.lengths-requires
lengths-requires c = made c.before

pub lengths_sq_norm_equal-requires : goal.lengths_sq_norm_equal-requires
lengths_sq_norm_equal-requires c = made c.before.before

pub returns : goal.returns
unfolding pine_of
returns c =
    simp
    (c.lengths_sq_norm_equal.ensures, c.lengths.ensures, c.stream_len.ensures, c.new-pine.ensures, (passed c.before.before.before.before).0)
