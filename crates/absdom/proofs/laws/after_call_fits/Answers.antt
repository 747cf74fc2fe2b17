use Rattle.absdom.proofs.FitsEntry as entries
use Rattle.absdom.proofs.laws.after_call_fits.Goals as goal

pub returns : goal.returns
returns c = entries.after_call_fits
