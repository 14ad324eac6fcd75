-- `day_file::file_read` meets its contract. Assumes nothing.
use Prim.Native.Nat.{◌+◌, ◌≤◌}
use native.Mathlib.Omega.{arith}
use lib.ListN.{length}
use Rattle.day_file.proofs.Effects.{read_refused, read_fits, read_rest, read_done}
use Rattle.day_file.proofs.file_read.Lts as lts
use Rattle.day_file.proofs.file_read.Reads as reads
use Rattle.day_file.proofs.file_read.Tie as tie
use Rattle.day_file.proofs.file_read.Goals as goal

abbrev Else-answer-ne0 : Type 0
Else-answer-ne0 = lts.Else1 tie.the-claims reads.Pre reads.Post

fits : (c : Else-answer-ne0) → 6 + length c.args.contents.now ≤ length c.args.file.now
fits c =
    read_fits c.args.param c.args.file.now c.args.contents.now c.args.bodies.now _ c.check_read-answer.ensures c.if-answer-ne0.false

pub returns-then-answer-ne0 : goal.returns-then-answer-ne0
returns-then-answer-ne0 c =
    read_refused c.args.param c.args.file.now c.args.contents.now c.args.bodies.now _ c.check_read-answer.ensures c.if-answer-ne0.true

pub slice_bounds-copy_bytes-end : goal.slice_bounds-copy_bytes-end
slice_bounds-copy_bytes-end c = omega (arith, fits c.before)

pub slice_bounds-read_elements-count : goal.slice_bounds-read_elements-count
slice_bounds-read_elements-count c = fits c.before.before.before.before.before.before

pub slice_bounds-read_elements-start : goal.slice_bounds-read_elements-start
slice_bounds-read_elements-start c = omega (arith, fits c.before.before.before.before.before.before)

pub read_elements-requires : goal.read_elements-requires
read_elements-requires c =
    read_rest c.args.param c.args.file.now c.args.contents.now c.args.bodies.now _ c.check_read-answer.ensures c.if-answer-ne0.false

pub returns : goal.returns
returns c =
    read_done c.args.param c.args.file.now c.args.contents.now c.args.bodies.now _ c.check_read-answer.ensures c.if-answer-ne0.false _ _ c.copy_bytes.ensures c.read_elements.ensures
