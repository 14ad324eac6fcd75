-- `day_file::file_write` meets its contract. Assumes nothing.
use Rattle.day_file.proofs.Effects.{write_refused, write_fits, write_done}
use Rattle.day_file.proofs.file_write.Goals as goal

pub returns-then-answer-ne0 : goal.returns-then-answer-ne0
returns-then-answer-ne0 c =
    write_refused c.args.param c.args.count c.args.contents.now c.args.bodies.now c.args.file.now _ c.check_write-answer.ensures c.if-answer-ne0.true

pub write_file-requires : goal.write_file-requires
write_file-requires c =
    write_fits c.args.param c.args.count c.args.contents.now c.args.bodies.now c.args.file.now _ c.check_write-answer.ensures c.if-answer-ne0.false

pub returns : goal.returns
returns c =
    write_done c.args.param c.args.count c.args.contents.now c.args.bodies.now c.args.file.now _ c.check_write-answer.ensures c.if-answer-ne0.false _ c.write_file.ensures
