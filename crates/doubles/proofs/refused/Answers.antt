-- `doubles::refused` meets its contract. Assumes nothing.
use Rattle.std.proofs.Common.{T, sym, ◌∙◌, subst, lit<}
use lib.Ieee.{binary64, fits}
use Rattle.doubles.specs.Doubles.{floor_limit64}
use Rattle.doubles.proofs.Accept.{not_refused}
use Rattle.doubles.proofs.refused.Lts as lts
use Rattle.doubles.proofs.refused.Reads as reads
use Rattle.doubles.proofs.refused.Tie as tie
use Rattle.doubles.proofs.refused.Goals as goal

abbrev Start : Type 0
Start = lts.Start tie.the-claims reads.Pre reads.Post

-- what owning an `f64` tells: the format holds it
held : (c : Start) → T (fits binary64 c.args.x)
held c = subst T (sym c.well_formed.0.1) tt

pub returns-then-within_limit : goal.returns-then-within_limit
returns-then-within_limit c =
    let q = c.small_flag-small.ensures in
    (q.0, λ z. not_refused floor_limit64 c.args.x c.args.frac_bits (lit< tt) c.args.scale (held c.before.before.before) c.requires (q.1 z) (sym c.within_limit.ensures ∙ c.if-within_limit.true))
