-- `measurement128::write_measurement` meets its contract. Assumes nothing.
use mathlib.Core.Path.{sym, ap, ◌∙◌}
use Prim.Native.Nat.{ℕ, ◌*◌}
use lib.ListN.{length}
use Rattle.field64.specs.Field.{p64}
use Rattle.flp.specs.Encode.{elements}
use Rattle.flp.proofs.Gradient.{length_elements}
use Rattle.measurement.specs.Parts.{checked_of}
use Rattle.measurement.proofs.Written.{two_written}
use Rattle.field128.specs.Field128.{p128, words_of}
use Rattle.field128.proofs.Pairs.{words_length, words_append}
use Rattle.measurement128.proofs.write_measurement.Goals as goal

pub returns : goal.returns
returns c =
    let i = c.args.pine in
    let g = c.args.gradient.now in
    let u = c.sub-u.ensures in
    let b = c.wr_test_bound.ensures in
    two_written (words_of (elements p128 i.frac_bits g)) _ c.args.measurement.now _ _ (2 * length g) (words_length (elements p128 i.frac_bits g) ∙ ap (λ (n : ℕ). 2 * n) (length_elements p128 i.frac_bits g)) c.write_elements.ensures
    (c.write_rest.ensures ∙ (λ j. words_of (checked_of p64 i.sq_norm_bits c.args.v (u j) i.wr_test_bits (b j) i.num_wr_successes c.args.results.now)))
    ∙ sym (words_append (elements p128 i.frac_bits g) _)
