-- `narrow::write_classes` meets its contract. Assumes nothing.
use Rattle.std.proofs.Common.{◌<◌, length, ◌∙◌, arith}
use Rattle.rows.proofs.Elements.{below_at}
use Rattle.rows.proofs.Walk.{walked_end}
use Rattle.field128.specs.Field128.{p128, elements_of}
use Rattle.narrow.specs.Narrow.{class_of}
use Rattle.narrow.proofs.Each.{many, long, turn}
use Rattle.narrow.proofs.write_classes.Lts as lts
use Rattle.narrow.proofs.write_classes.Reads as reads
use Rattle.narrow.proofs.write_classes.Tie as tie
use Rattle.narrow.proofs.write_classes.Goals as goal

abbrev In-loop-t : Type 0
In-loop-t = lts.In-loop tie.the-claims reads.Pre reads.Post goal.the-invariant-loop-t goal.the-decreases-loop-t tie.handed_clauses

-- a result stands at t
inside : (c : In-loop-t) → c.loop-t.t < length (elements_of c.args.results.now)
inside c = omega (arith, many (class_of c.args.bound) c.args.results.now c.args.row.now c.requires.results_len, c.loop-t.invariant.1)

pub element-requires : goal.element-requires
element-requires c = inside c.before

pub class_of-requires : goal.class_of-requires
class_of-requires c =
    (rw c.element.ensures (below_at p128 (elements_of c.args.results.now) c.requires.below.0 c.loop-t.t (inside c.before.before)), c.requires.below.1)

pub loop-t-preserved : goal.loop-t-preserved
loop-t-preserved c =
    turn (class_of c.args.bound) c.args.results.now c.args.row.now c.requires.results_len c.loop-t.row c.loop-t.t _ _ c.loop-t.invariant (omega arith) c.element.ensures c.class_of.ensures

pub returns : goal.returns
returns c =
    c.loop-t.invariant.2 ∙ walked_end _ _ c.loop-t.t (long (class_of c.args.bound) c.args.results.now c.args.row.now c.requires.results_len) (omega arith)
