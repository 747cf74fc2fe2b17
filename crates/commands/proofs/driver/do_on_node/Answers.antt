use Rattle.std.proofs.Common.{rules}
use Rattle.commands.specs.Driven.{talk_words}
use Rattle.commands.proofs.Driving.{on_fault, on_placed}
use Rattle.commands.proofs.driver.do_on_node.Goals as goal

pub returns-in-Ok : goal.returns-in-Ok
returns-in-Ok g c =
    on_placed g.D.Desk.words g.row.D-Errors.Denot (talk_words g.D.Talk.Talk.received g.D.Talk.Talk.sent g.D.Talk.Talk.unsent g.D.Talk.Talk.missed) g.D.Server.Serves.serves
    c.do_placed.result c.args.own c.args.desk c.new-files.result c.configuration_in.new.files c.in-Ok.configuration c.as_str-name.result.now
    c.as_str-name.ensures.value (search rules) c.new-files.ensures.desk c.new-files.ensures.dump c.new-files.ensures.maps
    c.in-Ok.ensures.says c.do_placed.ensures

pub returns-in-Err : goal.returns-in-Err
returns-in-Err g c =
    on_fault g.D.Desk.words g.row.D-Errors.Denot (talk_words g.D.Talk.Talk.received g.D.Talk.Talk.sent g.D.Talk.Talk.unsent g.D.Talk.Talk.missed) g.D.Server.Serves.serves
    c.refuse_node.result c.args.own c.args.desk c.new-files.result c.configuration_in.new.files _ c.as_str-name.result.now
    c.as_str-name.ensures.value (search rules) c.new-files.ensures.desk c.new-files.ensures.dump c.new-files.ensures.maps
    c.in-Err.ensures.none c.refuse_node.ensures
