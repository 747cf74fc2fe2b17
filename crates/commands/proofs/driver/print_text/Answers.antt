use Rattle.std.proofs.Common.{rules}
use Rattle.commands.proofs.Driving.{printed}
use Rattle.commands.proofs.driver.print_text.Goals as goal

pub returns : goal.returns
returns g c =
    printed g.D.Desk.words c.end_output.result c.write_all-written.result c.args.text.now c.args.status c.args.desk _ _ c.in_ok-out.ensures
    (search rules) c.end_output.ensures
