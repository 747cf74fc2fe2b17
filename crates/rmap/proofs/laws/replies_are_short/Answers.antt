use Rattle.rmap.proofs.Replies.{length-reply_of}
use Rattle.rmap.proofs.laws.replies_are_short.Goals as goal

pub returns : goal.returns
returns c = length-reply_of
