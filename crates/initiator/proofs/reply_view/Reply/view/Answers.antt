use Rattle.std.proofs.Common.{◌∙◌}
use Rattle.initiator.proofs.RepliesRead.{replies_are_read}
use Rattle.initiator.proofs.reply_view.Reply.view.Goals as goal

pub returns-clause-only : goal.returns-clause-only
returns-clause-only c = λ r h. c.read.ensures ∙ replies_are_read c.args.bytes.now r h
