use Rattle.absdom.proofs.FitsEntry as entries
use Rattle.absdom.proofs.laws.entry_fits.Goals as goal

pub returns : goal.returns
returns c = entries.entry_fits
