-- `shares::helper_stream` meets its contract. Assumes nothing.
use Rattle.turboshake.proofs.Shake.{bytes_all}
use Rattle.shares.proofs.Seeds.{stream_is}
use Rattle.shares.proofs.helper_stream.Goals as goal

pub returns : goal.returns
returns c =
    let seeds = c.args.seeds.now in
    (stream_is seeds c.seed_at.result _ (bytes_all seeds (λ j h. (c.shared_slice_known-1.given j).fits)) c.seed_at.ensures c.seed_stream.ensures.0, c.seed_stream.ensures.1)
