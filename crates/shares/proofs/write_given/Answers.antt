-- `shares::write_given` meets its contract. Assumes nothing.
use borrow.Author.Rules.{rules}
use mathlib.Core.Path.{◌≡◌}
use lib.ListN.{length}
use Rattle.shares.proofs.Seeds.{two_halves}
use Rattle.shares.proofs.write_given.Goals as goal

pub returns : goal.returns
returns c =
    let m : length c.args.wr ≡ 16 = search rules in
    let n : length c.args.vf ≡ 16 = search rules in
    two_halves c.args.given.now c.args.wr c.args.vf c.copy_from_slice.new.self c.copy_from_slice-2.new.self c.requires m n c.copy_from_slice.ensures.after c.copy_from_slice-2.ensures.after
