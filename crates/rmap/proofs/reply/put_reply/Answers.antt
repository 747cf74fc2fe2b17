use Rattle.std.proofs.Common.{rules}
use Rattle.rmap.proofs.Replies.{has_remainders}
use Rattle.rmap.proofs.reply.put_reply.Goals as goal

pub returns-then-not-writes-clause-remainders : goal.returns-then-not-writes-clause-remainders
returns-then-not-writes-clause-remainders c = λ wanted.
    has_remainders _ c.args.status _ _ wanted (search rules) c.push_checked_header.ensures.remainder (λ _. c.push_checked.ensures.remainder)
