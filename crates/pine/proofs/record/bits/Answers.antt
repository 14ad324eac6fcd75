-- `pine::record::bits` meets its contract. Assumes nothing.
use Rattle.pine.proofs.Digits.{digits_leading}
use Rattle.pine.proofs.record.bits.Goals as goal

pub returns : goal.returns
returns c = digits_leading 64 c.args.n c.ranges.n.fits
