-- `turboshake::turbo_shake128` meets its contract. Assumes nothing.
use mathlib.Core.Path.{ap, ◌∙◌}
use lib.ListN.{length}
use Rattle.turboshake.specs.Stream.{absorb_all, finished, drawn}
use Rattle.turboshake.proofs.Shake.{stream_is, bytes_all}
use Rattle.turboshake.proofs.turbo_shake128.Goals as goal

pub returns : goal.returns
returns c =
    let n = length c.args.out.now in
    let message = c.args.message.now in
    c.fill.ensures.0
    ∙ ap (drawn n) (c.finish.ensures.0 ∙ ap (finished c.args.d) (c.absorb.ensures.0 ∙ ap (absorb_all message) c.new.ensures.0))
    ∙ stream_is message c.args.d n c.ranges.d.fits (bytes_all message (λ j h. (c.shared_slice_known-1.given j).fits))
