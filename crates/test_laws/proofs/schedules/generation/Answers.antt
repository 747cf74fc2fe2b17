use Rattle.test_laws.proofs.Laws.{generation_reported}
use Rattle.test_laws.proofs.schedules.generation.Goals as goal

pub returns : goal.returns
returns c = generation_reported c.published_agrees.ensures c.args.world.now c.args.slot _ c.generation.ensures
