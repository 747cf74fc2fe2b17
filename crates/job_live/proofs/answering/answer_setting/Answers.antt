use Rattle.std.proofs.Common.{None, Some, refl}
use Rattle.job_live.proofs.SameNode.{inside_of_same, unset_of_same}
use Rattle.job_live.proofs.answering.answer_setting.Goals as goal

pub returns-in_ok-set_bytes-in-Ok-clause-answers : goal.returns-in_ok-set_bytes-in-Ok-clause-answers
returns-in_ok-set_bytes-in-Ok-clause-answers g c = record {
  fault = None;
  between = g.W.Write.contents c.set_bytes.new.out;
  done = (c.in-Ok.setting, inside_of_same _ _ _ c.in-Ok.setting c.single.ensures c.in-Ok.ensures.ok, c.in_ok-set_bytes-in-Ok.ensures.reports);
  reported = refl;
  bad = refl;
}

pub returns-in_ok-print_fault-in-Err-clause-answers : goal.returns-in_ok-print_fault-in-Err-clause-answers
returns-in_ok-print_fault-in-Err-clause-answers g c = record {
  fault = Some c.in-Err.fault;
  between = g.W.Write.contents c.args.out.now;
  done = (unset_of_same _ _ _ c.in-Err.fault c.single.ensures c.in-Err.ensures.err, refl, refl);
  reported = c.in_ok-print_fault-in-Err.ensures;
  bad = refl;
}
