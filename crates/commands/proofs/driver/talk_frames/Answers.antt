use Rattle.commands.specs.Driven.{link_words, talk_words}
use Rattle.commands.proofs.Driving.{held_link}
use Rattle.commands.proofs.driver.talk_frames.Goals as goal

pub returns : goal.returns
returns g c =
    held_link g.D.Desk.words g.row.D-Errors.Denot (talk_words g.D.Talk.Talk.received g.D.Talk.Talk.sent g.D.Talk.Talk.unsent g.D.Talk.Talk.missed) g.D.Server.Serves.serves
    (link_words g.D.Link.Link.received g.D.Link.Link.sent g.D.Link.Link.reported g.D.Link.Link.unread g.D.Link.Link.unsent g.D.Link.Link.unreported g.D.Link.Link.lost)
    c.end_talk.result c.live_frames-done.result c.args.words.now c.args.desk c.into_desk-desk.result c.end_link-sent.new.self
    c.of_node-files.result c.live_frames-done.new.files c.args.link c.live_frames-done.new.link c.of_node-files.ensures.desk
    c.of_node-files.ensures.dump c.of_node-files.ensures.maps c.requires c.live_frames-done.ensures.lives c.live_frames-done.ensures.unsent
    c.into_desk-desk.ensures c.end_link-sent.ensures c.end_talk.ensures.ended c.end_talk.ensures.desk
