use Rattle.bver_form.proofs.Kept.{marked_at, unmarked_at, numbering_next, numbering_skip}
use Rattle.bver_form.proofs.targets.number_slot.Goals as goal

pub returns-then-index : goal.returns-then-index
returns-then-index c =
    numbering_next c.args.kept.now.items c.args.places.now.items c.args.count c.args.slot c.requires.inside c.requires.few (marked_at c.args.kept.now.items c.args.slot c.index.result.now c.requires.inside c.index.ensures c.if-index.true) c.requires.numbered

pub returns : goal.returns
returns c =
    numbering_skip c.args.kept.now.items c.args.places.now.items c.args.count c.args.slot (unmarked_at c.args.kept.now.items c.args.slot c.index.result.now c.requires.inside c.index.ensures c.if-index.false) c.requires.numbered
