use Rattle.std.proofs.Common.{◌≡◌, ◌∙◌, ap, sym}
use Rattle.std.specs.Arc.{arc_value}
use Rattle.node_programs.specs.Published.{sizes_of}
use Rattle.publish.specs.Reached.{Reached}
use Rattle.publish.proofs.Shelves.{table_next}
use Rattle.publish.proofs.table.Table.put.Goals as goal

pub invariant_of-self : goal.invariant_of-self
invariant_of-self c =
    let sizes : (arc_value c.args.program).sizes ≡ sizes_of c.self.inside.front.programs
    = c.requires.sizes ∙ ap (λ (t : Reached). sizes_of t.programs) (sym c.self.view_is) in
    rw (c.requires.front, ← c.self.view_is, c.from.ensures, c.new.ensures) (table_next c.published_programs.ensures.next c.self.inside.slots c.self.inside.front.programs c.args.slot (arc_value c.args.program, c.len-generation.result) c.requires.slot c.self.invariant c.len-generation.ensures sizes)
