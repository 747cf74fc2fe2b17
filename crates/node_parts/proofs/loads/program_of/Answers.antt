use Rattle.node_parts.proofs.Refusals.{unverified_reported}
use Rattle.node_parts.proofs.loads.program_of.Goals as goal

pub returns-in_err-verify-clause-refused : goal.returns-in_err-verify-clause-refused
returns-in_err-verify-clause-refused c =
    unverified_reported c.first_faults.ensures.known _ c.args.maps.now _ c.in_err-verify.field-0.0 _ c.from_residual-in_err-verify.ensures.1 c.in_ok-image.ensures.spelled.0 c.in_ok-image.ensures.spelled.1 c.in_err-verify.ensures.refused c.in_err-verify.ensures.unjustified
