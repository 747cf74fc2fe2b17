use Rattle.annals.proofs.Publishings.{entries_no_loads, loads_listed, loads_no_entries}
use Rattle.annals.proofs.laws.loads_are_apart.Goals as goal

pub returns : goal.returns
returns c = record { loads = loads_no_entries; entries = entries_no_loads; listed = loads_listed }
