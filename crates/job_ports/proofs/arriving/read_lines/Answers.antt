use Rattle.std.proofs.lemmas.Result.{err_from_is_err_and}
use Rattle.job_ports.proofs.TakenIn.{all_arrive, halts}
use Rattle.job_ports.proofs.arriving.read_lines.Goals as goal

pub returns-clause-arrive : goal.returns-clause-arrive
returns-clause-arrive c =
    all_arrive _ _ _ _ _ _ c.in_ok-take_lines.ensures.taken c.in_ok-feeds.ensures c.in_ok-arrivals.ensures

pub returns-in_err-take_lines-clause-refused : goal.returns-in_err-take_lines-clause-refused
returns-in_err-take_lines-clause-refused c =
    let gone = err_from_is_err_and c.from_residual-in_err-take_lines.result c.from_residual-in_err-take_lines.ensures.1 in
    rw (gone.1, gone.2) (halts _ _ _ _ _ _ _ c.in_err-take_lines.ensures.stops c.in_ok-feeds.ensures c.in_ok-arrivals.ensures)
