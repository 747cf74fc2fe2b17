use Rattle.std.proofs.Common.{◌≡◌, ◌<◌, ◌/◌, ◌%◌, ℕ, List, [], length, set, ap, sym, subst, arith, ◌∙◌}
use Rattle.std.specs.Prelude.{map}
use Rattle.std.specs.List.{concat}
use Rattle.std.specs.Vec.{vec_items}
use Rattle.std.proofs.lemmas.List.{map-set, get_or-map, length-map}
use Rattle.bank.specs.Pages.{ArePages}
use Rattle.bank.proofs.Paging.{page, found}
use Rattle.bank.proofs.Setting.{is_put}
use Rattle.bank.proofs.pages.put_byte.Goals as goal

pub index_mut-requires : goal.index_mut-requires
index_mut-requires c =
    let items = c.args.pages.now.items in
    let at = found (map vec_items items) c.args.offset c.requires.pages c.requires.inside in
    omega (arith, at.below, length-map items vec_items)

pub set_byte-requires : goal.set_byte-requires
set_byte-requires c =
    let items = c.args.pages.now.items in
    let at = found (map vec_items items) c.args.offset c.requires.pages c.requires.inside in
    let below : c.args.offset / 4096 < length items = omega (arith, at.below, length-map items vec_items) in
    let mine : c.index_mut.result.now.items ≡ page (map vec_items items) (c.args.offset / 4096) = ap vec_items c.index_mut.ensures.value ∙ sym (get_or-map vec_items items (c.args.offset / 4096) c.index_mut.result.now [] below) in
    omega (arith, at.inside, ap (λ (l : List ℕ). length l) mine)

pub returns-clause-pages : goal.returns-clause-pages
returns-clause-pages c =
    let items = c.args.pages.now.items in
    let ps = map vec_items items in
    let k = c.args.offset / 4096 in
    let at = found ps c.args.offset c.requires.pages c.requires.inside in
    let below : k < length items = omega (arith, at.below, length-map items vec_items) in
    let mine : c.index_mut.result.now.items ≡ page ps k = ap vec_items c.index_mut.ensures.value ∙ sym (get_or-map vec_items items k c.index_mut.result.now [] below) in
    let new : map vec_items (set items k c.set_byte.new.page) ≡ set ps k (set (page ps k) (c.args.offset % 4096) c.args.byte) =
    map-set vec_items items k c.set_byte.new.page ∙ ap (λ (l : List ℕ). set ps k l) (c.set_byte.ensures ∙ ap (λ (l : List ℕ). set l (c.args.offset % 4096) c.args.byte) mine) in
    subst ArePages (sym new) (is_put ps c.args.offset c.args.byte c.requires.pages c.requires.inside).are

pub returns-clause-value : goal.returns-clause-value
returns-clause-value c =
    let items = c.args.pages.now.items in
    let ps = map vec_items items in
    let k = c.args.offset / 4096 in
    let at = found ps c.args.offset c.requires.pages c.requires.inside in
    let below : k < length items = omega (arith, at.below, length-map items vec_items) in
    let mine : c.index_mut.result.now.items ≡ page ps k = ap vec_items c.index_mut.ensures.value ∙ sym (get_or-map vec_items items k c.index_mut.result.now [] below) in
    let new : map vec_items (set items k c.set_byte.new.page) ≡ set ps k (set (page ps k) (c.args.offset % 4096) c.args.byte) =
    map-set vec_items items k c.set_byte.new.page ∙ ap (λ (l : List ℕ). set ps k l) (c.set_byte.ensures ∙ ap (λ (l : List ℕ). set l (c.args.offset % 4096) c.args.byte) mine) in
    ap concat new ∙ (is_put ps c.args.offset c.args.byte c.requires.pages c.requires.inside).value
