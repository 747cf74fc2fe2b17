use Rattle.std.proofs.Common.{rules, ◌≡◌, Some, None}
use Rattle.std.specs.Prelude.{slice_index_or}
use Rattle.std.proofs.Math.ListN.{length-set}
use Rattle.bver_pass.specs.Justified.{IsCoveredIfAny}
use Rattle.bver_pass.specs.StateTable.{TableValue, entry_place_of, knowledge_in}
use Rattle.bver_pass.proofs.Keeping.{entries_same, found_covers, found_there, set_elsewhere, set_grown}
use Rattle.bver_pass.proofs.table.StateTable.follow.Goals as goal

pub invariant_of-self : goal.invariant_of-self
invariant_of-self c =
    let t : TableValue = record { program = c.self.inside.image.now; places = c.self.inside.places.items; entries = c.self.inside.entries.items } in
    entries_same t _ (length-set t.entries c.in-Some.place c.include.new.self) c.self.invariant

pub returns-clause-grown : goal.returns-clause-grown
returns-clause-grown c =
    let t : TableValue = record { program = c.self.inside.image.now; places = c.self.inside.places.items; entries = c.self.inside.entries.items } in
    let view : c.args.self.now ≡ t = search rules in
    let is : Some c.in-Some.place ≡ entry_place_of t c.args.slot = search rules in
    let there : slice_index_or t.entries c.in-Some.place None ≡ c.index_mut.result.now = found_there t c.args.slot c.in-Some.place c.index_mut.result.now is c.index_mut.ensures.value in
    let covers : IsCoveredIfAny (knowledge_in t c.args.slot) c.include.new.self = found_covers t c.args.slot c.in-Some.place c.index_mut.result.now c.include.new.self is there c.include.ensures.known in
    rw view (set_grown c.order_of_states.ensures.reflexive t c.args.slot c.in-Some.place c.include.new.self c.self.invariant is covers)

pub returns-clause-others : goal.returns-clause-others
returns-clause-others c =
    let t : TableValue = record { program = c.self.inside.image.now; places = c.self.inside.places.items; entries = c.self.inside.entries.items } in
    let view : c.args.self.now ≡ t = search rules in
    let is : Some c.in-Some.place ≡ entry_place_of t c.args.slot = search rules in
    rw view (λ k apart. set_elsewhere t c.args.slot c.in-Some.place k c.include.new.self c.self.invariant is apart)
