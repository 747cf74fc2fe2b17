use Rattle.std.proofs.Common.{◌≡◌, ◌++◌, ◌∷◌, [], List, ap, cond, length, ◌∙◌}
use Rattle.policy_table.specs.declared.ranges.NamedRange.{NamedRange}
use Rattle.policy_table.proofs.RangePlaces.{places_push}
use Rattle.policy_table.proofs.ranges.NamedRanges.push.Goals as goal

pub invariant_of-self-2 : goal.invariant_of-self-2
invariant_of-self-2 c =
    let inside = c.self.inside in
    let range : List NamedRange = c.args.range ∷ [] in
    let stayed = c.in_ok-reserve.ensures.items in
    let counted = ap (λ (rs : List NamedRange). length rs) (c.as_slice-place.ensures.value ∙ stayed) in
    let pushed : c.push.new.self.items ≡ inside.ranges.items ++ range =
    c.push.ensures.items ∙ ap (λ t. cond t (c.reserve.new.self.items ++ range) c.reserve.new.self.items) c.if-is_err.ensures.negation ∙ ap (λ (rs : List NamedRange). rs ++ range) stayed in
    places_push inside.ranges.items c.push.new.self.items c.args.range inside.places.entries c.add_place.new.places.entries (length c.as_slice-place.result.now)
    c.self.invariant counted pushed c.in_ok-add_place.ensures.added
