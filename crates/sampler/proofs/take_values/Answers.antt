-- `sampler::take_values` meets its contract. Assumes nothing.
use mathlib.Core.Path.{◌≡◌, refl, ap, ◌∙◌}
use Prim.Native.Nat.{ℕ, ◌+◌, ◌-◌, ◌*◌, ◌/◌, ◌≤◌}
use native.Mathlib.Omega.{arith}
use lib.ListN.{length, take, drop}
use borrow.Rule.Slice.PartMut.{same_len_mid}
use Rattle.field64.specs.Field.{p64}
use Rattle.groups.proofs.Swapped.{part_long}
use Rattle.sampler.specs.Sampler.{values_of}
use Rattle.sampler.proofs.Values.{values_length}
use Rattle.sampler.proofs.Keeping.{begins_none, begins_next, begins_all}
use Rattle.sampler.proofs.take_values.Lts as lts
use Rattle.sampler.proofs.take_values.Reads as reads
use Rattle.sampler.proofs.take_values.Tie as tie
use Rattle.sampler.proofs.take_values.Goals as goal

abbrev After-at_most-n : Type 0
After-at_most-n = lts.After-at_most tie.the-claims reads.Pre reads.Post goal.the-invariant-loop-count goal.the-decreases-loop-count

abbrev After-read_and_keep-count : Type 0
After-read_and_keep-count = lts.After-read_and_keep tie.the-claims reads.Pre reads.Post goal.the-invariant-loop-count goal.the-decreases-loop-count

-- the part of the row that is lent is as long as it says
mid_of : (c : After-at_most-n) → let l = c.loop-count in length (take (l.count + c.at_most-n.result - l.count) (drop l.count l.row)) ≡ c.at_most-n.result
mid_of c =
    let l = c.loop-count in
    part_long l.count (l.count + c.at_most-n.result) l.row (omega arith) (omega (arith, l.invariant.0, c.at_most-n.ensures)) ∙ omega arith

-- no more are kept than there are
few : (c : After-read_and_keep-count) → c.read_and_keep-count.result ≤ c.at_most-n.result
few c = omega (arith, c.read_and_keep-count.ensures.1, mid_of c.before.before.before, values_length p64 (length (take (c.loop-count.count + c.at_most-n.result - c.loop-count.count) (drop c.loop-count.count c.loop-count.row))) (take (8 * c.loop-count.used + 8 * c.at_most-n.result - 8 * c.loop-count.used) (drop (8 * c.loop-count.used) c.args.bytes.now)))

pub loop-count-init : goal.loop-count-init
loop-count-init c = ((refl, (omega arith, omega arith)), begins_none p64 c.args.bytes.now c.args.row.now)

pub loop-count-preserved : goal.loop-count-preserved
loop-count-preserved c =
    let l = c.loop-count in
    let r = c.read_and_keep-count in
    let m = c.at_most-n.result in (
      (same_len_mid l.count (l.count + m - l.count) l.row r.new.row r.auto.row ∙ l.invariant.0.0, (omega (arith, l.invariant.0, c.at_most-n.ensures), omega (arith, few c.before.before.before, same_len_mid l.count (l.count + m - l.count) l.row r.new.row r.auto.row, l.invariant.0, c.at_most-n.ensures))),
      begins_next p64 c.args.bytes.now l.used m _ l.count r.result l.row r.new.row _ l.invariant.0.1.1 (r.auto.row ∙ mid_of c.before.before.before.before.before.before) (mid_of c.before.before.before.before.before.before) l.invariant.1 r.ensures,
    )

pub returns : goal.returns
returns c =
    let l = c.loop-count in
    begins_all p64 c.args.bytes.now (length c.args.bytes.now / 8) l.used l.count l.row l.invariant.1 l.invariant.0.1.0 (omega (arith, l.invariant.0, c.loop-count-test.false)) ∙ ap (λ (n : ℕ). take n (values_of p64 (length c.args.bytes.now / 8) c.args.bytes.now)) l.invariant.0.0
