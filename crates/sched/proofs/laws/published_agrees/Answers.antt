use Rattle.sched.proofs.Agreements.{published_agrees}
use Rattle.sched.proofs.laws.published_agrees.Goals as goal

pub returns : goal.returns
returns c = published_agrees c.published_programs.ensures.next
