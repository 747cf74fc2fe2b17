use Rattle.std.proofs.Common.{Some, refl, rules}
use Rattle.job_live.proofs.Taken.{none_taken}
use Rattle.job_live.proofs.answering.take_line.Goals as goal

pub returns-in-Err : goal.returns-in-Err
returns-in-Err c = λ number words.
    record {
      fault = Some c.in-Err.fault;
      between = c.args.text.now.items;
      taken = (c.in-Err.ensures.refused, c.in-Err.ensures.kept, refl);
      reported = c.put_fault.ensures number words;
      bad = refl;
    }

pub returns-in-Ok-None : goal.returns-in-Ok-None
returns-in-Ok-None c = λ number words.
    none_taken c.args.at_once c.args.line.now number c.args.node.now c.take_line.new.self c.args.text.now.items (search rules)
