use Rattle.std.proofs.lemmas.Int.{to_z-of_z}
use Rattle.std.specs.Int.{w32}
use Rattle.basm.proofs.Addresses.{address_again, address_is}
use Rattle.basm.proofs.instructions.known_address.Goals as goal

pub returns-clause-writes : goal.returns-clause-writes
returns-clause-writes c =
    let first = to_z-of_z w32 c.args.first c.ranges.first in
    let second = to_z-of_z w32 c.args.second c.ranges.second in
    rw (c.from_parts.ensures, first, second) (address_is c.args.subtype c.args.first c.args.second)

pub returns-clause-exact : goal.returns-clause-exact
returns-clause-exact c = λ found subtype first second.
    let one = to_z-of_z w32 c.args.first c.ranges.first in
    let two = to_z-of_z w32 c.args.second c.ranges.second in
    rw (c.from_parts.ensures, one, two, ← subtype, ← first, ← second) (address_again found)
