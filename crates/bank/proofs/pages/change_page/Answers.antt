use Rattle.std.proofs.Common.{◌≡◌, ℕ, List, [], get_or, set, ap, sym, ◌∙◌}
use Rattle.std.specs.Prelude.{map}
use Rattle.std.specs.Vec.{vec_items}
use Rattle.std.proofs.lemmas.List.{map-set, get_or-map}
use Rattle.bank.specs.Effect.{Memory, memory_at, effect}
use Rattle.bank.proofs.pages.change_page.Goals as goal

pub returns : goal.returns
returns c =
    let pages = c.args.pages.now.items in
    let command = c.args.command.now in
    let old : c.index_mut.result.now.items ≡ get_or (map vec_items pages) c.args.k [] =
    ap vec_items c.index_mut.ensures.value ∙ sym (get_or-map vec_items pages c.args.k c.index_mut.result.now [] c.requires.below) in
    let new : c.change_bytes.new.page.items ≡ (effect (memory_at c.args.address (get_or (map vec_items pages) c.args.k [])) command).memory.bytes =
    ap (λ (m : Memory). m.bytes) c.change_bytes.ensures ∙ ap (λ (l : List ℕ). (effect (memory_at c.args.address l) command).memory.bytes) old in
    map-set vec_items pages c.args.k c.change_bytes.new.page ∙ ap (λ (l : List ℕ). set (map vec_items pages) c.args.k l) new
