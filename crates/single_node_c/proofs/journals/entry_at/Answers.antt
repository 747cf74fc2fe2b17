use Rattle.std.proofs.Common.{rules, ◌≡◌, ◌∙◌, ◌<◌, false, length, nat_le, sym}
use Rattle.single_node_c.proofs.Found.{found_damaged, found_whole, item_at}
use Rattle.single_node_c.proofs.journals.entry_at.Goals as goal

pub returns-then-not-is_whole-clause-found : goal.returns-then-not-is_whole-clause-found
returns-then-not-is_whole-clause-found c =
    let inside : nat_le (length c.args.node.now.banks) c.args.bank ≡ false = search rules in
    let low : c.args.place < length c.entries.result.now = search rules in
    let at = item_at c.entries.result.now c.args.place c.in-Some.entry.now low c.in-Some.ensures.lookup.1 in
    found_damaged c.args.node.now c.args.bank c.args.place c.bank.result.now c.entries.result.now c.in-Some.entry.now inside c.bank.ensures c.entries.ensures at (sym c.is_whole.ensures ∙ c.if-not-is_whole.true)

pub returns-clause-found : goal.returns-clause-found
returns-clause-found c =
    let inside : nat_le (length c.args.node.now.banks) c.args.bank ≡ false = search rules in
    let low : c.args.place < length c.entries.result.now = search rules in
    let at = item_at c.entries.result.now c.args.place c.in-Some.entry.now low c.in-Some.ensures.lookup.1 in
    found_whole c.args.node.now c.args.bank c.args.place c.bank.result.now c.entries.result.now c.in-Some.entry.now inside c.bank.ensures c.entries.ensures at (sym c.is_whole.ensures ∙ c.if-not-is_whole.false)
