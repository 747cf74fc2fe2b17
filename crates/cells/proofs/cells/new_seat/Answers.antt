use Rattle.cells.proofs.Places.{splits_at}
use Rattle.cells.proofs.cells.new_seat.Goals as goal

pub split_seat-place-requires : goal.split_seat-place-requires
split_seat-place-requires c = rw c.deref.ensures (splits_at _ _ _ c.args.rest.now c.requires.placed c.requires.fresh c.requires.part)
