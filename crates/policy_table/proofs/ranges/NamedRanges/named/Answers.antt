use Rattle.std.proofs.Common.{sym, subst, ap, ◌∙◌}
use Rattle.std.specs.Prelude.{option_map, slice_get, List, ◌≡◌}
use Rattle.policy_table.specs.Ranges.{RangeText, range_named, range_text, range_texts}
use Rattle.policy_table.proofs.RangePlaces.{found_nowhere, found_there}
use Rattle.policy_table.proofs.ranges.NamedRanges.named.Goals as goal

pub returns-in-Some : goal.returns-in-Some
returns-in-Some c =
    let inside = c.self.inside in let name = c.args.name.now in
    ap (λ o. option_map range_text o) c.range_at.ensures
    ∙ subst (λ items. option_map range_text (slice_get items c.in-Some.place.now) ≡ range_named (range_texts inside.ranges.items) name) (sym c.as_slice.ensures.value)
    (found_there inside.ranges.items inside.places.entries name c.in-Some.place.now c.self.invariant c.in-Some.ensures.value)
    ∙ ap (λ (ranges : List RangeText). range_named ranges name) c.self.view_is

pub returns-in-None : goal.returns-in-None
returns-in-None c =
    let inside = c.self.inside in let name = c.args.name.now in
    found_nowhere inside.ranges.items inside.places.entries name c.self.invariant c.in-None.ensures.value
    ∙ ap (λ (ranges : List RangeText). range_named ranges name) c.self.view_is
