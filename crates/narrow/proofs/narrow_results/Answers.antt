-- `narrow::narrow_results` meets its contract. Assumes nothing.
use Rattle.std.proofs.Common.{◌≡◌, ◌<◌, length, get_or, sym, ap, ◌∙◌, arith, length-set}
use Rattle.rows.proofs.Elements.{below_at}
use Rattle.field128.specs.Field128.{p128, number_of, elements_of}
use Rattle.narrow.specs.Narrow.{class_of, narrowed}
use Rattle.narrow.proofs.Numbers.{sorted_by, narrowed_by}
use Rattle.narrow.proofs.Each.{over_inside, over_at, over_turn}
use Rattle.narrow.proofs.narrow_results.Lts as lts
use Rattle.narrow.proofs.narrow_results.Reads as reads
use Rattle.narrow.proofs.narrow_results.Tie as tie
use Rattle.narrow.proofs.narrow_results.Goals as goal

abbrev In-loop-t : Type 0
In-loop-t = lts.In-loop tie.the-claims reads.Pre reads.Post goal.the-invariant-loop-t goal.the-decreases-loop-t tie.handed_clauses

abbrev After-element : Type 0
After-element = lts.After-element tie.the-claims reads.Pre reads.Post goal.the-invariant-loop-t goal.the-decreases-loop-t tie.handed_clauses

-- a result stands at t
inside : (l : In-loop-t) → l.loop-t.t < length (elements_of l.args.results.now)
inside l =
    over_inside (narrowed l.args.bound) (class_of l.args.bound) l.args.results.now l.args.row.now l.requires.results_len l.loop-t.row l.loop-t.t l.loop-t.invariant.1 (omega arith)

-- an element, and where it lies
here : (c : After-element) → (number_of c.element.result < p128) × (get_or c.loop-t.row c.loop-t.t 0 ≡ class_of c.args.bound (number_of c.element.result))
here c = (
  rw c.element.ensures (below_at p128 (elements_of c.args.results.now) c.requires.below.0 c.loop-t.t (inside c.before.before)),
  over_at (narrowed c.args.bound) (class_of c.args.bound) c.args.results.now c.args.row.now c.requires.results_len c.loop-t.row c.loop-t.t c.loop-t.invariant.1 (omega arith) ∙ ap (class_of c.args.bound) (sym c.element.ensures),
)

pub narrow_result-requires : goal.narrow_result-requires
narrow_result-requires c =
    let h = here c.before in
    (h.0, sorted_by c.args.bound _ _ c.requires.below.1.0 c.requires.below.1.1 h.0 h.1)

pub loop-t-preserved : goal.loop-t-preserved
loop-t-preserved c =
    let h = here c.before.before in
    (length-set c.loop-t.row c.loop-t.t _ ∙ c.loop-t.invariant.0, over_turn (narrowed c.args.bound) (class_of c.args.bound) c.args.results.now c.args.row.now c.requires.results_len c.loop-t.row c.loop-t.t _ _ c.loop-t.invariant.1 (omega arith) c.element.ensures (c.narrow_result.ensures ∙ narrowed_by c.args.bound _ _ c.requires.below.1.0 c.requires.below.1.1 h.0 h.1))
