-- `doubles128::field_to_f64` meets its contract: the rules in the order of `decoded_of`. Assumes nothing.
use Rattle.std.proofs.Common.{◌<◌, sym, ◌∙◌, le-ltb, lt-ltb, leb-false}
use lib.Ieee.{of_bits}
use Rattle.field128.specs.Field128.{p128, number_of}
use Rattle.doubles.specs.Doubles.{decoded_of}
use Rattle.doubles128.proofs.Sizes.{decoded_refused, decoded_accepted}
use Rattle.doubles128.proofs.field_to_f64.Lts as lts
use Rattle.doubles128.proofs.field_to_f64.Reads as reads
use Rattle.doubles128.proofs.field_to_f64.Tie as tie
use Rattle.doubles128.proofs.field_to_f64.Goals as goal

abbrev Else-reaches_p : Type 0
Else-reaches_p = lts.Else2 tie.the-claims reads.Pre reads.Post tie.handed_clauses

below_p : (c : Else-reaches_p) → number_of c.args.y < p128
below_p c = leb-false p128 _ (sym c.reaches_p.ensures ∙ c.if-reaches_p.false)

pub returns-then-frac_bits-gt-MAX_FRAC_BITS : goal.returns-then-frac_bits-gt-MAX_FRAC_BITS
unfolding decoded_of of_bits
returns-then-frac_bits-gt-MAX_FRAC_BITS c = simp (lt-ltb _ _ c.if-frac_bits-gt-MAX_FRAC_BITS.true)

pub returns-then-reaches_p : goal.returns-then-reaches_p
unfolding decoded_of of_bits
returns-then-reaches_p c = simp (le-ltb _ _ c.if-frac_bits-gt-MAX_FRAC_BITS.false, sym c.reaches_p.ensures ∙ c.if-reaches_p.true)

pub returns-then-answer-ne0 : goal.returns-then-answer-ne0
unfolding of_bits
returns-then-answer-ne0 c =
    decoded_refused (number_of c.args.y) c.args.frac_bits c.if-frac_bits-gt-MAX_FRAC_BITS.false (below_p c.before.before.before) c.check_size-answer.result c.check_size-answer.ensures c.if-answer-ne0.true

pub returns : goal.returns
returns c =
    decoded_accepted (number_of c.args.y) c.args.frac_bits c.if-frac_bits-gt-MAX_FRAC_BITS.false (below_p c.before.before.before.before.before) c.check_size-answer.result c.check_size-answer.ensures c.decode.result c.if-answer-ne0.false c.decode.ensures
