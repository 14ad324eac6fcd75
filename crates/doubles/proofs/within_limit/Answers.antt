-- `doubles::within_limit` meets its contract. The limit is given in MIR by its bit pattern. Assumes nothing.
use Rattle.std.proofs.Common.{Bool, ◌&&◌, T, sym, ap, ◌∙◌, subst}
use lib.Ieee.{binary64, fits, of_bits, neg}
use Rattle.doubles.proofs.Floor.{below_end, within_tests}
use Rattle.doubles.proofs.within_limit.Lts as lts
use Rattle.doubles.proofs.within_limit.Reads as reads
use Rattle.doubles.proofs.within_limit.Goals as goal

abbrev Start : Type 0
Start = lts.Start reads.Pre reads.Post

held : (c : Start) → T (fits binary64 c.args.w)
held c = subst T (sym c.well_formed.0.1) tt

pub returns-then-w : goal.returns-then-w
unfolding of_bits neg
returns-then-w c = sym (ap (λ (t : Bool). t && below_end c.args.w) c.if-w.true) ∙ within_tests c.args.w (held c.before)

pub returns-else-w : goal.returns-else-w
unfolding of_bits neg
returns-else-w c = sym (ap (λ (t : Bool). t && below_end c.args.w) c.if-w.false) ∙ within_tests c.args.w (held c.before)
