use Rattle.std.proofs.Common.{rules, ◌≡◌, Some, None, refl}
use Rattle.std.specs.Prelude.{slice_index_or}
use Rattle.std.proofs.Math.ListN.{length-set}
use Rattle.bver_pass.specs.Justified.{IsCoveredIfAny}
use Rattle.bver_pass.specs.StateTable.{TableValue, entry_place_of, knowledge_in}
use Rattle.bver_pass.proofs.Keeping.{entries_same, found_covers, found_there, set_elsewhere, set_grown}
use Rattle.bver_pass.proofs.Carried.{carried_here}
use Rattle.bver_pass.proofs.table.StateTable.go_on.Goals as goal

pub invariant_of-self : goal.invariant_of-self
invariant_of-self c =
    let t : TableValue = record { program = c.self.inside.image.now; places = c.self.inside.places.items; entries = c.self.inside.entries.items } in
    entries_same t _ (length-set t.entries c.in-Some.place c.include.new.self) c.self.invariant

pub returns-in-Some-clause-grown : goal.returns-in-Some-clause-grown
returns-in-Some-clause-grown c =
    let t : TableValue = record { program = c.self.inside.image.now; places = c.self.inside.places.items; entries = c.self.inside.entries.items } in
    let view : c.args.self.now ≡ t = search rules in
    let is : Some c.in-Some.place ≡ entry_place_of t c.args.slot = search rules in
    let there : slice_index_or t.entries c.in-Some.place None ≡ c.index_mut.result.now = found_there t c.args.slot c.in-Some.place c.index_mut.result.now is c.index_mut.ensures.value in
    let covers : IsCoveredIfAny (knowledge_in t c.args.slot) c.include.new.self = found_covers t c.args.slot c.in-Some.place c.index_mut.result.now c.include.new.self is there c.include.ensures.known in
    rw view (set_grown c.order_of_states.ensures.reflexive t c.args.slot c.in-Some.place c.include.new.self c.self.invariant is covers)

pub returns-in-Some-clause-others : goal.returns-in-Some-clause-others
returns-in-Some-clause-others c =
    let t : TableValue = record { program = c.self.inside.image.now; places = c.self.inside.places.items; entries = c.self.inside.entries.items } in
    let view : c.args.self.now ≡ t = search rules in
    let is : Some c.in-Some.place ≡ entry_place_of t c.args.slot = search rules in
    rw view (λ k apart. set_elsewhere t c.args.slot c.in-Some.place k c.include.new.self c.self.invariant is apart)

pub returns-in-None-clause-covered : goal.returns-in-None-clause-covered
returns-in-None-clause-covered c =
    rw (carried_here c.args.self.now c.args.slot c.args.state.now c.args.slot refl) (c.order_of_states.ensures.reflexive c.args.state.now)
