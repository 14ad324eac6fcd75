-- `file_add::file_add` meets its contract. Assumes nothing.
use Rattle.file_add.proofs.Ready.{add_refused, add_ready, add_done}
use borrow.Author.Rules.{rules}
use Rattle.file_add.proofs.file_add.Goals as goal

pub returns-then-answer-ne0 : goal.returns-then-answer-ne0
returns-then-answer-ne0 c =
    add_refused c.args.param c.args.key c.args.old.now c.args.share.now c.args.second.now _ c.check_add-answer.ensures c.if-answer-ne0.true

pub write_added-len-requires : goal.write_added-len-requires
write_added-len-requires c =
    add_ready c.args.param c.args.key c.args.old.now c.args.share.now c.args.second.now _ c.check_add-answer.ensures c.if-answer-ne0.false (search rules)

pub returns : goal.returns
returns c =
    add_done c.args.param c.args.key c.args.old.now c.args.share.now c.args.second.now _ c.check_add-answer.ensures c.if-answer-ne0.false _ _ c.write_added-len.ensures.0 c.write_added-len.ensures.1
