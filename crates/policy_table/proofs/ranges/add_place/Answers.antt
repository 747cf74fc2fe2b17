use Rattle.std.proofs.Common.{sym}
use Rattle.policy_table.specs.Ranges.{place_in}
use Rattle.policy_table.proofs.RangePlaces.{known_keeps, new_gets}
use Rattle.policy_table.proofs.ranges.add_place.Goals as goal

pub returns-then-contains_key-clause-added : goal.returns-then-contains_key-clause-added
returns-then-contains_key-clause-added c = λ other.
    known_keeps (λ name. place_in c.args.places.now.entries name) c.args.name.now c.args.place other (sym c.if-contains_key.ensures)

pub returns-in-Ok-clause-added : goal.returns-in-Ok-clause-added
returns-in-Ok-clause-added c = λ other.
    new_gets c.args.places.now c.insert.new.self c.args.name.now c.args.place c.if-contains_key.ensures c.in-Ok.ensures.updates other
