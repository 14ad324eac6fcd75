-- `rows128::adding::join_rows` meets its contract. Assumes nothing.
use Rattle.std.proofs.Common.{◌≡◌, ◌+◌, ◌*◌, ◌^◌, take, drop}
use Rattle.rows.specs.Rows.{first_bad, Below}
use Rattle.field128.specs.Field128.{p128, elements_of}
use Rattle.field128.specs.Joined.{joined}
use Rattle.rows128.proofs.ByPairs.{Pairing}
use Rattle.rows128.proofs.OneRun.{Counted}
use Rattle.rows128.proofs.adding.join_rows.Given as goal

-- the invariant: the elements are joined up to i, and as they were from there; none of agg's is bad so far, and below of share's are below p
abbrev pub invariant-loop-i : goal.invariant-loop-i
invariant-loop-i l = Pairing joined l.initial.agg l.share l.agg l.i × ((first_bad p128 (elements_of l.initial.agg) ≡ l.i + first_bad p128 (drop l.i (elements_of l.initial.agg))) × ((Below (2 ^ 64) (take (2 * l.i) l.initial.agg) × Below (2 ^ 128) (take l.i (elements_of l.share))) × Counted p128 (elements_of l.share) l.below l.i))
