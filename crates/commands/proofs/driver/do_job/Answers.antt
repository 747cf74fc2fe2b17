use Rattle.commands.proofs.Driving.{did_job}
use Rattle.commands.proofs.driver.do_job.Goals as goal

pub returns : goal.returns
returns g c =
    did_job g.D.Desk.words c.end_job.result c.perform_with-done.result c.close-closed.result c.args.job.now c.args.desk c.of_job-files.result
    c.perform_with-done.new.files c.close-closed.new.self _ _ c.of_job-files.ensures.desk c.of_job-files.ensures.dump c.of_job-files.ensures.maps
    c.in_ok-out.ensures c.perform_with-done.ensures c.close-closed.ensures.closed c.end_job.ensures
