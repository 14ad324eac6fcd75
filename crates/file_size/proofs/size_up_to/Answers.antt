-- `file_size::size_up_to` meets its contract. Assumes nothing.
use native.Mathlib.Omega.{arith}
use Rattle.file_size.proofs.Sizes.{size_refused, size_dimension, size_stops, size_done}
use Rattle.file_size.proofs.size_up_to.Goals as goal

pub returns-then-inputs-ne0 : goal.returns-then-inputs-ne0
returns-then-inputs-ne0 c =
    size_refused c.args.most c.args.param c.args.keys.now _ c.check_list-inputs.ensures c.if-inputs-ne0.true

pub returns-then-counted-ne0 : goal.returns-then-counted-ne0
returns-then-counted-ne0 c =
    size_stops c.args.most c.args.param c.args.keys.now _ c.check_list-inputs.ensures c.if-inputs-ne0.false _ _ c.count_keys-counted.ensures.0 c.if-counted-ne0.true

pub file_len-requires : goal.file_len-requires
file_len-requires c =
    (size_dimension c.args.most c.args.param c.args.keys.now _ c.check_list-inputs.ensures c.if-inputs-ne0.false _ _ c.count_keys-counted.ensures.0, omega (arith, c.count_keys-counted.ensures.1))

pub returns : goal.returns
returns c =
    size_done c.args.most c.args.param c.args.keys.now _ c.check_list-inputs.ensures c.if-inputs-ne0.false _ _ c.count_keys-counted.ensures.0 c.if-counted-ne0.false _ c.file_len.ensures
