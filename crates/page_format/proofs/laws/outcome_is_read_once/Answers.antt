use Rattle.page_format.proofs.Cutting.{reported_once}
use Rattle.page_format.proofs.laws.outcome_is_read_once.Goals as goal

pub returns : goal.returns
returns c = reported_once
