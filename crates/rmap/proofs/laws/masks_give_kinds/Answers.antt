use Rattle.rmap.proofs.Masks.{masks_give}
use Rattle.rmap.proofs.laws.masks_give_kinds.Goals as goal

pub returns : goal.returns
returns c = masks_give
