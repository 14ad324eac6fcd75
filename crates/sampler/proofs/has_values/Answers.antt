-- `sampler::has_values` meets its contract. Assumes nothing.
use mathlib.Core.Path.{◌≡◌, sym, ap, ◌∙◌}
use Prim.Native.Nat.{ℕ, ◌-◌, ◌*◌}
use native.Mathlib.Omega.{arith}
use lib.ListN.{length}
use lib.Seq.{length-take-le, length_front}
use lib.Dec.{leb}
use Rattle.field64.specs.Field.{p64}
use Rattle.turboshake.specs.Stream.{drawn}
use Rattle.sampler.specs.Sampler.{values_of}
use Rattle.sampler.proofs.Keeping.{wanted_less}
use Rattle.sampler.proofs.has_values.Lts as lts
use Rattle.sampler.proofs.has_values.Reads as reads
use Rattle.sampler.proofs.has_values.Tie as tie
use Rattle.sampler.proofs.has_values.Goals as goal

abbrev After-draw-drew : Type 0
After-draw-drew = lts.After-draw tie.the-claims reads.Pre reads.Post goal.the-invariant-loop-rest goal.the-decreases-loop-rest

-- the part that is lent is as long as it says
long : (c : After-draw-drew) → length c.draw-drew.new.row ≡ c.at_most-n.result
long c = c.draw-drew.auto.row ∙ length-take-le _ _ (omega (arith, c.loop-rest.invariant.0.0, c.at_most-n.ensures))

pub loop-rest-preserved : goal.loop-rest-preserved
loop-rest-preserved c =
    let l = c.loop-rest in
    let d = c.draw-drew in
    let k : d.result.count ≡ c.at_most-n.result = omega (arith, long c.before.before.before.before, d.ensures.drawing.within, c.if-drew-n.false) in (
      (length_front l.spare d.new.row c.at_most-n.result d.auto.row ∙ l.invariant.0.0, d.ensures.drawing.place),
      ap (λ (j : ℕ). leb (l.rest - j) (length (values_of p64 d.result.left (drawn (8 * d.result.left) d.result.stream)))) (sym k) ∙ wanted_less p64 l.state l.draws _ _ d.ensures l.rest (omega (arith, k, c.at_most-n.ensures)) ∙ l.invariant.1,
    )
