use Rattle.job_config.proofs.Chains.{some_read}
use Rattle.job_config.proofs.reading.node_with.Goals as goal

pub returns-in_err-program-clause-read : goal.returns-in_err-program-clause-read
returns-in_err-program-clause-read g c =
    some_read g.F.Files.reads _ _ _ c.in_ok-contents.ensures.read c.in_err-program.ensures.read

pub returns-in_err-publishes-clause-read : goal.returns-in_err-publishes-clause-read
returns-in_err-publishes-clause-read g c =
    some_read g.F.Files.reads _ _ _ (some_read g.F.Files.reads _ _ _ c.in_ok-contents.ensures.read c.in_ok-program.ensures.read)
    c.in_err-publishes.ensures.read

pub returns-clause-read : goal.returns-clause-read
returns-clause-read g c =
    some_read g.F.Files.reads _ _ _ (some_read g.F.Files.reads _ _ _ c.in_ok-contents.ensures.read c.in_ok-program.ensures.read)
    c.in_ok-publishes.ensures.read
