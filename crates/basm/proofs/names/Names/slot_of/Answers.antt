use Rattle.std.proofs.Common.{sym, ◌∙◌}
use Rattle.std.specs.Ordering.{nat_cmp, is_eq}
use Rattle.std.specs.Cmp.Lexicographic.{slice_cmp}
use Rattle.basm.proofs.Lookups.{lookup_map}
use Rattle.basm.proofs.names.Names.slot_of.Goals as goal

pub returns-in-Some : goal.returns-in-Some
returns-in-Some c =
    let name = c.args.name.now in
    let found = lookup_map (λ key. key.now) (λ key. is_eq (slice_cmp nat_cmp name key)) c.self.inside.slots.entries in
    rw (sym c.self.view_is) (c.in-Some.ensures.value ∙ sym found)

pub returns-in-None : goal.returns-in-None
returns-in-None c =
    let name = c.args.name.now in
    let found = lookup_map (λ key. key.now) (λ key. is_eq (slice_cmp nat_cmp name key)) c.self.inside.slots.entries in
    rw (sym c.self.view_is) (c.in-None.ensures.value ∙ sym found)
