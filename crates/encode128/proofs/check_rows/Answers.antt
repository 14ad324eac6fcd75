-- `encode128::check_rows` meets its contract. Assumes nothing.
use Rattle.pine.proofs.Sizes.{scale_is}
use Rattle.encode128.proofs.Rows.{words_fit}
use Rattle.encode128.proofs.check_rows.Goals as goal

pub overflow_mul-pine : goal.overflow_mul-pine
overflow_mul-pine c =
    record { fits = (words_fit c.args.pine c.requires).0 }

pub overflow_mul-pine-2 : goal.overflow_mul-pine-2
overflow_mul-pine-2 c =
    record { fits = (words_fit c.args.pine c.requires).1 }

pub check_coordinates-coordinates-requires : goal.check_coordinates-coordinates-requires
check_coordinates-coordinates-requires c =
    let d = c.requires in
    scale_is d.param _ d.is
