use Rattle.spw.proofs.DigitBlocks.{for_ok}
use Rattle.commands.proofs.InPlace.{in_place_by}
use Rattle.commands.proofs.in_place.bytes_in_place.Goals as goal

pub returns-in-Some : goal.returns-in-Some
returns-in-Some c =
    for_ok c.write.result (λ given is. in_place_by c.args.sizes.now c.args.bytes.items c.as_slice.result.now given.items c.in_ok-image.field-0 c.in-Some.image c.as_slice.ensures.value c.in_ok-image.ensures c.in-Some.is is) c.write.ensures
