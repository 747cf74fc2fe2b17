use Rattle.std.proofs.Common.{◌<◌, ◌≤◌, ℕ, List, length, ap, arith}
use Rattle.std.specs.Prelude.{map}
use Rattle.std.specs.Vec.{vec_items}
use Rattle.std.specs.Global.{Vec}
use Rattle.std.proofs.lemmas.List.{length-map}
use Rattle.bank.proofs.Paging.{one_copied, all_copied, as_many}
use Rattle.bank.proofs.pages.copy_pages.Goals as goal

pub loop-k-preserved : goal.loop-k-preserved
loop-k-preserved c =
    let others = c.args.others.now.items in
    let qs = map vec_items others in
    let ps = map vec_items c.loop-k.pages.items in
    let many = as_many ps qs c.loop-k.invariant.alike in
    let below : c.loop-k.k < length ps = omega (arith, c.loop-k-test.true, c.loop-k.auto.k-end, ap (λ (l : List (Vec ℕ)). length l) c.as_slice-count.ensures.value, many, length-map others vec_items) in
    rw c.copy_page.ensures (one_copied ps qs c.loop-k.k c.loop-k.invariant below)

pub returns : goal.returns
returns c =
    let others = c.args.others.now.items in
    let qs = map vec_items others in
    let ps = map vec_items c.loop-k.pages.items in
    let enough : length qs ≤ c.loop-k.k = omega (arith, c.loop-k-test.false, c.loop-k.auto.k-end, ap (λ (l : List (Vec ℕ)). length l) c.as_slice-count.ensures.value, length-map others vec_items) in
    all_copied ps qs c.loop-k.k c.loop-k.invariant enough
