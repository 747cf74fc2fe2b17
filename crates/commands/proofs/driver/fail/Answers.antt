use Rattle.std.proofs.Common.{rules}
use Rattle.job_parts.specs.Printed.{job_fault_line}
use Rattle.job_parts.specs.declared.status.ExitStatus.TheVariants.{Failed}
use Rattle.commands.proofs.Driving.{printed}
use Rattle.commands.proofs.driver.fail.Goals as goal

pub returns : goal.returns
returns g c =
    printed g.D.Desk.words c.end_output.result c.writeln-written.result (job_fault_line c.args.fault.now) Failed c.args.desk _ _ c.in_ok-out.ensures
    (search rules) c.end_output.ensures
