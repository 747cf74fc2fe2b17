use Rattle.page_format.proofs.Cutting.{given_once}
use Rattle.page_format.proofs.laws.given_is_read_once.Goals as goal

pub returns : goal.returns
returns c = given_once
