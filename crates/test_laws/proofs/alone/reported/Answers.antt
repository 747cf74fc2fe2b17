use Rattle.test_laws.proofs.alone.reported.Goals as goal

pub returns : goal.returns
returns c = record {
  serves = c.serve-served.ensures.serves;
  reports = λ holder left j status refused load. c.refusals_say_why.ensures _ _ _ _ refused.refusal load;
}
