use Rattle.std.proofs.Common.{◌≡◌, ◌<◌, ◌-◌, ◌/◌, ◌%◌, ℕ, List, [], length, take, drop, arith, ◌∙◌, ap, sym, subst, get_or}
use Rattle.std.specs.Prelude.{map}
use Rattle.std.specs.Vec.{vec_items}
use Rattle.std.specs.Global.{Vec}
use Rattle.std.proofs.lemmas.Nat.{div-add-mod'}
use Rattle.std.proofs.lemmas.List.{length-map, get_or-map}
use Rattle.bank.proofs.Paging.{page, found, rest_of_page}
use Rattle.bank.proofs.pages.Pages.from.Goals as goal

pub bounds-pages-offset : goal.bounds-pages-offset
bounds-pages-offset c =
    let items = c.self.inside.pages.items in
    let there = found (map vec_items items) c.args.offset c.self.invariant.0 (subst (λ (l : List ℕ). c.args.offset < length l) (sym c.self.view_is) c.requires) in
    omega (arith, there.below, length-map items vec_items, ap (λ (l : List (Vec ℕ)). length l) c.as_slice-pages.ensures.value)

pub from_byte-requires : goal.from_byte-requires
from_byte-requires c =
    let items = c.self.inside.pages.items in
    let k = c.args.offset / 4096 in
    let there = found (map vec_items items) c.args.offset c.self.invariant.0 (subst (λ (l : List ℕ). c.args.offset < length l) (sym c.self.view_is) c.requires) in
    let below : k < length items = omega (arith, there.below, length-map items vec_items) in
    let same : c.index-pages-offset.result.items ≡ page (map vec_items items) k =
    ap vec_items (c.index-pages-offset.is ∙ ap (λ (l : List (Vec ℕ)). get_or l k c.index-pages-offset.result) c.as_slice-pages.ensures.value)
    ∙ sym (get_or-map vec_items items k c.index-pages-offset.result [] below) in
    omega (arith, there.inside, ap (λ (l : List ℕ). length l) same)

pub returns : goal.returns
returns c =
    let items = c.self.inside.pages.items in
    let ps = map vec_items items in
    let offset = c.args.offset in
    let k = offset / 4096 in
    let j = offset % 4096 in
    let there = found ps offset c.self.invariant.0 (subst (λ (l : List ℕ). offset < length l) (sym c.self.view_is) c.requires) in
    let below : k < length items = omega (arith, there.below, length-map items vec_items) in
    let same : c.index-pages-offset.result.items ≡ page ps k =
    ap vec_items (c.index-pages-offset.is ∙ ap (λ (l : List (Vec ℕ)). get_or l k c.index-pages-offset.result) c.as_slice-pages.ensures.value)
    ∙ sym (get_or-map vec_items items k c.index-pages-offset.result [] below) in
    c.from_byte.ensures
    ∙ ap (λ (l : List ℕ). take (length l - j) (drop j l)) same
    ∙ rest_of_page ps k j offset c.self.invariant.0 there (sym (div-add-mod' offset 4096))
    ∙ ap (λ (l : List ℕ). take (4096 - j) (drop offset l)) c.self.view_is
