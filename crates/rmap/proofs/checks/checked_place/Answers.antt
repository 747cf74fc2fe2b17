use Rattle.rmap.proofs.BankPlaces.{lies_in_bank}
use Rattle.rmap.proofs.checks.checked_place.Goals as goal

pub returns-in-Ok-clause-inside : goal.returns-in-Ok-clause-inside
returns-in-Ok-clause-inside c = lies_in_bank _ _ _ c.in-Ok.ensures.1
