use Rattle.std.proofs.Common.{rules}
use Rattle.commands.specs.Driven.{talk_words}
use Rattle.job_config.specs.Configured.{numbers_in}
use Rattle.commands.proofs.Driving.{read_placed, read_refused}
use Rattle.commands.proofs.driver.do_placed.Goals as goal

pub returns-in-Some : goal.returns-in-Some
returns-in-Some g c =
    read_refused g.D.Desk.words g.row.D-Errors.Denot (talk_words g.D.Talk.Talk.received g.D.Talk.Talk.sent g.D.Talk.Talk.unsent g.D.Talk.Talk.missed) g.D.Server.Serves.serves
    c.refuse_output.result c.args.node.now c.args.job (numbers_in c.args.configuration.now) c.args.files.desk c.into_desk.result
    c.in-Some.name.now c.into_desk.ensures (search rules) c.refuse_output.ensures

pub returns : goal.returns
returns g c =
    read_placed g.D.Desk.words g.row.D-Errors.Denot (talk_words g.D.Talk.Talk.received g.D.Talk.Talk.sent g.D.Talk.Talk.unsent g.D.Talk.Talk.missed) g.D.Server.Serves.serves
    c.do_once.result c.args.node.now c.args.job (numbers_in c.args.configuration.now) c.args.files.desk c.into_desk-2.result c.placed.result
    c.into_desk-2.ensures c.placed.ensures c.do_once.ensures
