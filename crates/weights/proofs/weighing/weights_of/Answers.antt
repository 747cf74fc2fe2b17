use Rattle.weights.proofs.Bounded.{are_together}
use Rattle.weights.proofs.weighing.weights_of.Goals as goal

pub returns : goal.returns
returns c = record {
  division = c.share-division.ensures;
  call = c.share-call.ensures;
  jump = c.share-jump.ensures;
  rest = c.share-rest.ensures;
  all = rw (c.share-division.ensures, c.share-call.ensures, c.share-jump.ensures, c.share-rest.ensures) (are_together c.args.program.now.program);
}
