use Rattle.initiator.proofs.RepliesWritten.{one_reply}
use Rattle.initiator.proofs.laws.reply_is_unique.Goals as goal

pub returns : goal.returns
returns c = one_reply
