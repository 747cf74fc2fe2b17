use Rattle.commands.specs.Driven.{talk_words}
use Rattle.commands.proofs.Driving.{showed}
use Rattle.commands.proofs.driver.show_input.Goals as goal

pub returns : goal.returns
returns g c =
    showed g.D.Desk.words g.row.D-Errors.Denot (talk_words g.D.Talk.Talk.received g.D.Talk.Talk.sent g.D.Talk.Talk.unsent g.D.Talk.Talk.missed)
    c.end_talk.result c.show_talk-done.result c.args.is_dump c.args.desk c.end_talk-sent.new.self c.in_ok-talk.field-0 c.into_talk-2.result
    c.new-lines.result c.into_talk.result c.new-talk.result c.show_talk-done.new.talk c.in_ok-talk.ensures c.new-lines.ensures.talk
    c.new-lines.ensures.dump c.new-talk.ensures c.show_talk-done.ensures.shows c.show_talk-done.ensures.unsent c.into_talk.ensures
    c.into_talk-2.ensures c.end_talk-sent.ensures c.end_talk.ensures.ended c.end_talk.ensures.desk
