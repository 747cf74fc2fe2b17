use Rattle.node_parts.proofs.Reasons.{refusals_say_why}
use Rattle.node_parts.proofs.laws.refusals_say_why.Goals as goal

pub returns : goal.returns
returns c = refusals_say_why c.first_faults.ensures.known
