use Rattle.clap.specs.Walk.{texts}
use Rattle.commands.specs.Driven.{link_words, talk_words}
use Rattle.commands.specs.Given.{words_given}
use Rattle.commands.proofs.Driving.{given_none, given_work}
use Rattle.commands.proofs.driver.do_words.Goals as goal

pub returns-after-wait_report : goal.returns-after-wait_report
returns-after-wait_report g c =
    given_work g.D.Desk.words g.row.D-Errors.Denot (talk_words g.D.Talk.Talk.received g.D.Talk.Talk.sent g.D.Talk.Talk.unsent g.D.Talk.Talk.missed) g.D.Server.Serves.serves
    (link_words g.D.Link.Link.received g.D.Link.Link.sent g.D.Link.Link.reported g.D.Link.Link.unread g.D.Link.Link.unsent g.D.Link.Link.unreported g.D.Link.Link.lost)
    c.do_work.result (texts c.words_or_judge-words.result.now) (words_given (texts c.args.given.now)) c.in-Ok.work c.args.desk
    c.words_or_judge-words.ensures c.in-Ok.ensures.ok c.do_work.ensures

pub returns-in-Err : goal.returns-in-Err
returns-in-Err g c =
    given_none g.D.Desk.words g.row.D-Errors.Denot (talk_words g.D.Talk.Talk.received g.D.Talk.Talk.sent g.D.Talk.Talk.unsent g.D.Talk.Talk.missed) g.D.Server.Serves.serves
    (link_words g.D.Link.Link.received g.D.Link.Link.sent g.D.Link.Link.reported g.D.Link.Link.unread g.D.Link.Link.unsent g.D.Link.Link.unreported g.D.Link.Link.lost)
    c.refuse.result (texts c.words_or_judge-words.result.now) (words_given (texts c.args.given.now)) c.in-Err.fault c.args.desk
    c.words_or_judge-words.ensures c.in-Err.ensures.err c.refuse.ensures
