use Rattle.commands.specs.Driven.{talk_words}
use Rattle.commands.proofs.Driving.{held_lines}
use Rattle.commands.proofs.driver.talk_lines.Goals as goal

pub returns : goal.returns
returns g c =
    held_lines g.D.Desk.words g.row.D-Errors.Denot (talk_words g.D.Talk.Talk.received g.D.Talk.Talk.sent g.D.Talk.Talk.unsent g.D.Talk.Talk.missed)
    c.end_talk.result c.live-done.result c.args.words.now c.args.desk c.into_desk-desk.result c.end_talk-sent.new.self c.in_ok-talk.field-0
    c.into_talk.result c.of_node-files.result c.live-done.new.files c.new-talk.result c.live-done.new.talk c.of_node-files.ensures.desk
    c.of_node-files.ensures.dump c.of_node-files.ensures.maps c.in_ok-talk.ensures c.new-talk.ensures c.live-done.ensures.lives
    c.live-done.ensures.unsent c.into_desk-desk.ensures c.into_talk.ensures c.end_talk-sent.ensures c.end_talk.ensures.ended
    c.end_talk.ensures.desk
