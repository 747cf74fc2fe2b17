use Rattle.scrub.proofs.Mending.{unlent}
use Rattle.scrub.proofs.made.lent_program.Goals as goal

pub returns-in-Err-clause-fault : goal.returns-in-Err-clause-fault
returns-in-Err-clause-fault c = unlent c.args.sizes.now c.args.image.now c.args.kept.now c.in-Err.fault c.in-Err.ensures.fault
