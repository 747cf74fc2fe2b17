use Rattle.spw.proofs.CutLines.{few_lines}
use Rattle.spw.proofs.text.lines_of.Goals as goal

pub returns-clause-few : goal.returns-clause-few
returns-clause-few c = few_lines c.args.text.now
