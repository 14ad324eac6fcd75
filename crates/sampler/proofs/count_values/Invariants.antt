-- `sampler::count_values` meets its contract. The invariant: so many are counted, and those of the bytes that are left are still to come. Assumes nothing.
use mathlib.Core.Path.{◌≡◌}
use Rattle.std.specs.Slice.Iter.{chunks_exact_rest, chunks_exact_size}
use Rattle.field64.specs.Field.{p64}
use Rattle.sampler.proofs.Values.{Counting}
use Rattle.sampler.proofs.count_values.Given as goal

abbrev pub invariant-loop-value : goal.invariant-loop-value
invariant-loop-value l = goal.iterator-loop-value.can_next l.value-iterator × goal.iterator-loop-value.is_finite l.value-iterator × (chunks_exact_size l.value-iterator ≡ 8) × Counting p64 l.bytes l.count (chunks_exact_rest l.value-iterator)
