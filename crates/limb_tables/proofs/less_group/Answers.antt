-- `limb_tables::less_group` meets its contract: rows whose elements are replaced from the front. Assumes nothing.
use Rattle.std.proofs.Common.{ℕ, ◌+◌, ◌-◌, ◌*◌, ◌^◌, ◌<◌, ◌≤◌, length, take, drop, mul-le-mul_right, arith, lit<, rules}
use Rattle.tables.specs.Tables.{less_entries}
use Rattle.groups.proofs.Each.{each_next, each_end}
use Rattle.limb_tables.proofs.Entries.{taken_off}
use Rattle.limb_tables.proofs.less_group.Goals as goal

-- the bytes of a test are in the stream
in_stream : (t per j n tests len : ℕ) → t < tests → tests * per ≤ len → j + n ≤ per → t * per + j + n ≤ len
in_stream t per j n tests len h k l =
    let e : (t + 1) * per ≤ tests * per = mul-le-mul_right per (omega arith) in
    omega arith

pub overflow_mul-start : goal.overflow_mul-start
overflow_mul-start c =
    omega (arith, in_stream c.loop-t.t c.args.per c.args.j c.args.n (length c.args.low.now) (length c.args.stream.now) (omega arith) c.requires.per_in_bounds.0 c.requires.per_in_bounds.1.0)

pub overflow_add-start : goal.overflow_add-start
overflow_add-start c =
    omega (arith, in_stream c.loop-t.t c.args.per c.args.j c.args.n (length c.args.low.now) (length c.args.stream.now) (omega arith) c.requires.per_in_bounds.0 c.requires.per_in_bounds.1.0)

pub overflow_add-end : goal.overflow_add-end
overflow_add-end c =
    omega (arith, in_stream c.loop-t.t c.args.per c.args.j c.args.n (length c.args.low.now) (length c.args.stream.now) (omega arith) c.requires.per_in_bounds.0 c.requires.per_in_bounds.1.0)

pub slice_bounds-sums_of-end : goal.slice_bounds-sums_of-end
slice_bounds-sums_of-end c =
    omega (arith, in_stream c.loop-t.t c.args.per c.args.j c.args.n (length c.args.low.now) (length c.args.stream.now) (omega arith) c.requires.per_in_bounds.0 c.requires.per_in_bounds.1.0)

pub loop-t-preserved : goal.loop-t-preserved
loop-t-preserved c =
    let first = c.loop-t.t * c.args.per + c.args.j in
    let bytes = take (first + c.args.n - first) (drop first c.args.stream.now) in (
      each_next (less_entries (2 ^ 64) (drop 0 c.args.tables.now)) c.args.per c.args.j c.args.n c.args.stream.now c.args.low.now c.loop-t.low c.loop-t.t c.loop-t.invariant.0 (omega arith) _ (taken_off (2 ^ 64) (lit< tt) (drop 0 c.args.tables.now) bytes _ c.sums_of-sums.result.low _ (search rules) c.sums_of-sums.ensures.low_value c.wrapping_sub_u64.ensures.value),
      (
        each_next (less_entries (2 ^ 64) (drop 256 c.args.tables.now)) c.args.per c.args.j c.args.n c.args.stream.now c.args.middle.now c.loop-t.middle c.loop-t.t c.loop-t.invariant.1.0 (omega arith) _ (taken_off (2 ^ 64) (lit< tt) (drop 256 c.args.tables.now) bytes _ c.sums_of-sums.result.middle _ (search rules) c.sums_of-sums.ensures.middle_value c.wrapping_sub_u64-in-loop-t.ensures.value),
        each_next (less_entries (2 ^ 64) (drop 512 c.args.tables.now)) c.args.per c.args.j c.args.n c.args.stream.now c.args.high.now c.loop-t.high c.loop-t.t c.loop-t.invariant.1.1 (omega arith) _ (taken_off (2 ^ 64) (lit< tt) (drop 512 c.args.tables.now) bytes _ c.sums_of-sums.result.high _ (search rules) c.sums_of-sums.ensures.high_value c.wrapping_sub_u64-in-loop-t-2.ensures.value),
      ),
    )

pub returns : goal.returns
returns c =
    record {
      low_after = each_end (less_entries (2 ^ 64) (drop 0 c.args.tables.now)) c.args.per c.args.j c.args.n c.args.stream.now c.args.low.now c.loop-t.low c.loop-t.t c.loop-t.invariant.0 (omega arith);
      middle_after = each_end (less_entries (2 ^ 64) (drop 256 c.args.tables.now)) c.args.per c.args.j c.args.n c.args.stream.now c.args.middle.now c.loop-t.middle c.loop-t.t c.loop-t.invariant.1.0 (omega arith);
      high_after = each_end (less_entries (2 ^ 64) (drop 512 c.args.tables.now)) c.args.per c.args.j c.args.n c.args.stream.now c.args.high.now c.loop-t.high c.loop-t.t c.loop-t.invariant.1.1 (omega arith);
    }
