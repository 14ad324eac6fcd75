-- `theorems128::false_reports` meets its contract. Assumes nothing.
use Rattle.params128.specs.Field128.{Field128}
use Rattle.params128.proofs.Limits.{words_128}
use Rattle.field128.proofs.Instances.{prime_128}
use Rattle.soundness.proofs.Soundness.{soundness}
use Rattle.theorems128.proofs.false_reports.Goals as goal

pub returns : goal.returns
returns c = soundness Field128 words_128 prime_128
