use Rattle.std.proofs.Common.{◌≡◌, ◌+◌, ◌-◌, ◌*◌, ◌/◌, ◌≤◌, ◌<◌, ℕ, List, length, true, arith, ◌∙◌, ap, sym, subst}
use Rattle.std.specs.Prelude.{map}
use Rattle.std.specs.List.{concat}
use Rattle.std.specs.Vec.{vec_items}
use Rattle.std.specs.Global.{Vec}
use Rattle.std.proofs.lemmas.List.{length-map, length-set}
use Rattle.rmap.specs.Windows.{lies_inside}
use Rattle.bank.specs.Effect.{memory_at, effect}
use Rattle.bank.proofs.Paging.{in_page, one_is_changed, two_are_changed, paged, within_all, page_some}
use Rattle.bank.proofs.pages.Pages.change_pages.Goals as goal

pub change_page-requires-clause-below : goal.change_page-requires-clause-below
change_page-requires-clause-below c =
    let items = c.self.inside.pages.items in
    let ps = map vec_items items in
    let command = c.args.command.now in
    let inside = subst (λ (l : List ℕ). lies_inside c.args.first (length l) command ≡ true) (sym c.self.view_is) c.requires.inside in
    let place = in_page c.args.first ps command c.address.result c.address.ensures c.self.invariant.0 inside c.requires.admitted in
    omega (arith, place.below, length-map items vec_items)

pub overflow_add-address-then-k-count : goal.overflow_add-address-then-k-count
overflow_add-address-then-k-count c =
    let items = c.self.inside.pages.items in
    let ps = map vec_items items in
    let k = (c.address.result - c.args.first) / 4096 in
    let long = length-map items vec_items in
    let range = subst (λ (l : List ℕ). c.args.first + length l ≤ 4294967296) (sym c.self.view_is) c.requires.range in
    let below : k + 1 < length ps = omega (arith, c.if-k-count.true, long, ap (λ (l : List (Vec ℕ)). length l) c.as_slice-count.ensures.value) in
    let some = within_all ps (k + 1) 1 c.self.invariant.0 below (page_some ps (k + 1) c.self.invariant.0 below) in
    omega (arith, some, range)

pub invariant_of-self : goal.invariant_of-self
invariant_of-self c =
    let items = c.self.inside.pages.items in
    let ps = map vec_items items in
    let k = (c.address.result - c.args.first) / 4096 in
    let command = c.args.command.now in
    let inside = subst (λ (l : List ℕ). lies_inside c.args.first (length l) command ≡ true) (sym c.self.view_is) c.requires.inside in
    let place = in_page c.args.first ps command c.address.result c.address.ensures c.self.invariant.0 inside c.requires.admitted in
    let mid = map vec_items c.change_page.new.pages.items in
    let qs = map vec_items c.change_page-then-k-count.new.pages.items in
    let below : k + 1 < length ps = omega (arith, c.if-k-count.true, ap (λ (l : List (Vec ℕ)). length l) c.as_slice-count.ensures.value, length-map items vec_items) in
    let next : c.args.first + k * 4096 + 4096 ≡ c.args.first + (k + 1) * 4096 = omega arith in
    let new = two_are_changed c.args.first (c.args.first + k * 4096 + 4096) ps mid qs command k place.start next c.change_page.ensures c.change_page-then-k-count.ensures c.self.invariant.0 below place.begins in
    (new.are, new.size ∙ c.self.invariant.1)

pub invariant_of-self-else-k-count : goal.invariant_of-self-else-k-count
invariant_of-self-else-k-count c =
    let items = c.self.inside.pages.items in
    let ps = map vec_items items in
    let k = (c.address.result - c.args.first) / 4096 in
    let command = c.args.command.now in
    let inside = subst (λ (l : List ℕ). lies_inside c.args.first (length l) command ≡ true) (sym c.self.view_is) c.requires.inside in
    let place = in_page c.args.first ps command c.address.result c.address.ensures c.self.invariant.0 inside c.requires.admitted in
    let qs = map vec_items c.change_page.new.pages.items in
    let last : length ps ≤ k + 1 = omega (arith, c.if-k-count.false, ap (λ (l : List (Vec ℕ)). length l) c.as_slice-count.ensures.value, length-map items vec_items) in
    let new = one_is_changed c.args.first ps qs command k place.start c.change_page.ensures c.self.invariant.0 place.below place.begins last in
    (new.are, new.size ∙ c.self.invariant.1)

pub returns-then-k-count : goal.returns-then-k-count
returns-then-k-count c =
    let items = c.self.inside.pages.items in
    let ps = map vec_items items in
    let k = (c.address.result - c.args.first) / 4096 in
    let command = c.args.command.now in
    let inside = subst (λ (l : List ℕ). lies_inside c.args.first (length l) command ≡ true) (sym c.self.view_is) c.requires.inside in
    let place = in_page c.args.first ps command c.address.result c.address.ensures c.self.invariant.0 inside c.requires.admitted in
    let mid = map vec_items c.change_page.new.pages.items in
    let qs = map vec_items c.change_page-then-k-count.new.pages.items in
    let below : k + 1 < length ps = omega (arith, c.if-k-count.true, ap (λ (l : List (Vec ℕ)). length l) c.as_slice-count.ensures.value, length-map items vec_items) in
    let next : c.args.first + k * 4096 + 4096 ≡ c.args.first + (k + 1) * 4096 = omega arith in
    let new = two_are_changed c.args.first (c.args.first + k * 4096 + 4096) ps mid qs command k place.start next c.change_page.ensures c.change_page-then-k-count.ensures c.self.invariant.0 below place.begins in
    subst (λ (l : List ℕ). memory_at c.args.first (concat qs) ≡ (effect (memory_at c.args.first l) command).memory) c.self.view_is (paged c.args.first ps qs command c.self.invariant.0 new)

pub returns-else-k-count : goal.returns-else-k-count
returns-else-k-count c =
    let items = c.self.inside.pages.items in
    let ps = map vec_items items in
    let k = (c.address.result - c.args.first) / 4096 in
    let command = c.args.command.now in
    let inside = subst (λ (l : List ℕ). lies_inside c.args.first (length l) command ≡ true) (sym c.self.view_is) c.requires.inside in
    let place = in_page c.args.first ps command c.address.result c.address.ensures c.self.invariant.0 inside c.requires.admitted in
    let qs = map vec_items c.change_page.new.pages.items in
    let last : length ps ≤ k + 1 = omega (arith, c.if-k-count.false, ap (λ (l : List (Vec ℕ)). length l) c.as_slice-count.ensures.value, length-map items vec_items) in
    let new = one_is_changed c.args.first ps qs command k place.start c.change_page.ensures c.self.invariant.0 place.below place.begins last in
    subst (λ (l : List ℕ). memory_at c.args.first (concat qs) ≡ (effect (memory_at c.args.first l) command).memory) c.self.view_is (paged c.args.first ps qs command c.self.invariant.0 new)

pub change_page-requires-then-k-count-clause-below : goal.change_page-requires-then-k-count-clause-below
change_page-requires-then-k-count-clause-below c =
    let items = c.self.inside.pages.items in
    let ps = map vec_items items in
    let k = (c.address.result - c.args.first) / 4096 in
    let new = c.change_page.new.pages.items in
    let count = ap (λ (l : List (Vec ℕ)). length l) c.as_slice-count.ensures.value in
    let as_many : length (map vec_items new) ≡ length ps = ap (λ (l : List (List ℕ)). length l) c.change_page.ensures ∙ length-set ps k _ in
    omega (arith, c.if-k-count.true, count, as_many, length-map new vec_items, length-map items vec_items)
