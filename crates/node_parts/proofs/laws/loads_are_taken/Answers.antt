use Rattle.node_parts.proofs.Takings.{loads_are_taken}
use Rattle.node_parts.proofs.laws.loads_are_taken.Goals as goal

pub returns : goal.returns
returns c = loads_are_taken c.published_programs.ensures.later
