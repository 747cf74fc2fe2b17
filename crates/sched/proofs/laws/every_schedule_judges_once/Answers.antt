use Rattle.sched.proofs.laws.every_schedule_judges_once.Goals as goal

pub returns : goal.returns
returns c = λ n h event status reply loaded node bytes lawful. c.every_history_judges_once.ensures n h event status reply loaded node bytes lawful.except_answers
