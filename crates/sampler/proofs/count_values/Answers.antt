-- `sampler::count_values` meets its contract. The invariant: so many are counted, and those of the bytes that are left are still to come. Assumes nothing.
use mathlib.Core.Path.{◌∙◌}
use native.Mathlib.Omega.{arith}
use Rattle.std.specs.Slice.Iter.{chunks_exact_rest}
use Rattle.field64.specs.Field.{p64}
use Rattle.sampler.proofs.Values.{counting_next, counting_end}
use Rattle.sampler.proofs.count_values.Goals as goal

pub loop-value-preserved : goal.loop-value-preserved
loop-value-preserved c =
    let l = c.loop-value in
    let s = c.in-Some.ensures.steps in
    (omega (arith, s.0, l.invariant.2), tt, s.0 ∙ l.invariant.2, counting_next p64 c.args.bytes.now l.count c.number8.result (chunks_exact_rest l.value-iterator) c.in-Some.value.now _ l.invariant.3 s.1.0 (s.1.1 ∙ l.invariant.2) c.number8.ensures)

pub returns : goal.returns
returns c =
    let l = c.loop-value in
    let s = c.in-None.ensures.steps in
    counting_end p64 c.args.bytes.now l.count (chunks_exact_rest l.value-iterator) l.invariant.3 (omega (arith, s.1.0, l.invariant.2))
