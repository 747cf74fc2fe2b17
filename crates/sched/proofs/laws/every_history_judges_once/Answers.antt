use Rattle.sched.proofs.Headlines.{every_history_judges_once}
use Rattle.sched.proofs.laws.every_history_judges_once.Goals as goal

pub returns : goal.returns
returns c = every_history_judges_once c.image_laws.ensures.read c.justified_programs.ensures.safe c.turns_are_paths.ensures
