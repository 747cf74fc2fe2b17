use Rattle.std.proofs.Common.{inl}
use Rattle.std.proofs.lemmas.Result.{err_from_is_err_and}
use Rattle.job_ports.proofs.arriving.ArrivingTakesLines.take.Goals as goal

pub returns-in_err-port-clause-stops : goal.returns-in_err-port-clause-stops
returns-in_err-port-clause-stops g c =
    let gone = err_from_is_err_and c.from_residual.result c.from_residual.ensures.1 in
    rw (gone.1, gone.2) (inl (record { left = c.take_line.new.self; unfed = c.in_err-port.ensures.refused }))
