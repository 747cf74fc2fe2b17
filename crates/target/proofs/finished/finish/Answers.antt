use Rattle.std.proofs.Common.{◌≡◌, ◌<◌, ℕ, List, arith, ap, length, sym, ◌∙◌, subst, set}
use Rattle.std.proofs.lemmas.List.{length-set}
use mathlib.Core.List.{IsPrefix}
use Rattle.rmap.specs.declared.places.Place.{Place}
use Rattle.rmap.specs.declared.places.Place.TheVariants.{Bank}
use Rattle.node_parts.specs.Passes.{pass_of}
use Rattle.node_parts.specs.Steps.{IsBankBelow}
use Rattle.node_parts.specs.Applied.{share_of}
use Rattle.annals.specs.declared.deed.HistoryEntry.{HistoryEntry}
use Rattle.target.specs.Finished.{AsksForEntry, IsFinishedAt}
use Rattle.target.specs.Passes.{PortPass}
use Rattle.target.proofs.Finishing.{asked_at, done_after, ends_plainly, finished_at, taken_fits}
use Rattle.target.proofs.Lining.{at_its_bank, line_after, same_port}
use Rattle.target.proofs.finished.finish.Goals as goal

-- the number of the bank in a place
same_number : (k n : ℕ) → Bank k ≡ Bank n → k ≡ n
same_number k n e = cc

-- the share that is lent is one of those of the port
lent_below : (place : Place) (k from n : ℕ) → place ≡ Bank k → from ≡ k → IsBankBelow place n → from < n
lent_below place k from n at same below =
    let is : below.0 ≡ k = same_number below.0 k (sym below.1 ∙ at) in
    let low = below.2 in
    omega (arith, same, is, low)

pub finish-applied-requires : goal.finish-applied-requires
finish-applied-requires g c =
    let below = subst (λ (x : PortPass). IsBankBelow c.args.judged.place (length x.pass.shares)) (sym c.pass.view_is) c.requires in
    let within = lent_below c.args.judged.place c.in-Bank.k c.from.result (length c.pass.inside.shares.items) (sym c.place.ensures.value ∙ c.in-Bank.is) c.from.ensures below in
    same_port c.pass.inside.context.port c.from.result c.pass.inside.shares.items c.pass.inside.loader.line c.index_mut.result.now c.pass.invariant.1 within c.index_mut.ensures.value

pub invariant_of-pass : goal.invariant_of-pass
invariant_of-pass g c =
    let inside = c.pass.inside in
    let is = c.pass.invariant in
    let done = c.finish-applied.ensures in
    let at = sym c.place.ensures.value ∙ c.in-Bank.is in
    let below = subst (λ (x : PortPass). IsBankBelow c.args.judged.place (length x.pass.shares)) (sym c.pass.view_is) c.requires in
    let within = lent_below c.args.judged.place c.in-Bank.k c.from.result (length inside.shares.items) at c.from.ensures below in
    let there = at_its_bank c.args.kept.now c.finish-applied.new.self c.index_mut.result.now c.finish-applied.new.share c.args.judged c.finish-applied.result c.finish-applied.new.reply inside.loader.line c.finish-applied.new.line c.from.result (at ∙ ap Bank (sym c.from.ensures)) done.refused done.unasked in (
      record { port = is.0.port; sizes = is.0.sizes; shares = length-set inside.shares.items c.from.result c.finish-applied.new.share ∙ is.0.shares },
      line_after inside.context.port c.from.result c.args.kept.now.chain.number inside.shares.items c.index_mut.result.now c.finish-applied.new.share inside.loader.line c.finish-applied.new.line is.1 within c.index_mut.ensures.value done.counted there,
    )

pub returns-clause-finished : goal.returns-clause-finished
returns-clause-finished g c =
    let inside = c.pass.inside in
    let h = pass_of inside.context inside.loader.reader.programs inside.shares.items inside.staging in
    let done = c.finish-applied.ensures in
    let below = subst (λ (x : PortPass). IsBankBelow c.args.judged.place (length x.pass.shares)) (sym c.pass.view_is) c.requires in
    let reported = subst (λ (l : List HistoryEntry). IsPrefix l c.announce.new.known) c.again-known.ensures c.announce.ensures.old in
    let following = done_after _ _ _ _ _ _ _ _ _ _ _ c.publishes_grow.ensures reported c.announce.ensures.reported c.advance.ensures.some done.done in
    let after = pass_of inside.context inside.loader.reader.programs (set inside.shares.items c.from.result c.finish-applied.new.share) inside.staging in
    let end : IsFinishedAt c.args.kept.now c.finish-applied.new.self c.args.front.now c.advance.new.front h after c.args.judged c.finish-applied.result c.finish-applied.new.reply
    = finished_at _ _ _ _ h c.in-Bank.k c.from.result c.index_mut.result.now c.finish-applied.new.share _ _ _ (sym c.place.ensures.value ∙ c.in-Bank.is) c.from.ensures below c.index_mut.ensures.value done.applied done.refused following c.advance.ensures.none in
    subst (λ (x : PortPass). IsFinishedAt c.args.kept.now c.finish-applied.new.self c.args.front.now c.advance.new.front x.pass after c.args.judged c.finish-applied.result c.finish-applied.new.reply) c.pass.view_is end

pub returns-clause-asked : goal.returns-clause-asked
returns-clause-asked g c =
    let inside = c.pass.inside in
    let h = pass_of inside.context inside.loader.reader.programs inside.shares.items inside.staging in
    let done = c.finish-applied.ensures in
    let below = subst (λ (x : PortPass). IsBankBelow c.args.judged.place (length x.pass.shares)) (sym c.pass.view_is) c.requires in
    let is : AsksForEntry c.args.kept.now.chain.number h c.args.judged c.finish-applied.result inside.loader.line.asked c.finish-applied.new.line.asked
    = asked_at c.args.kept.now.chain.number h c.in-Bank.k c.from.result c.index_mut.result.now c.args.judged c.finish-applied.result inside.loader.line c.finish-applied.new.line (sym c.place.ensures.value ∙ c.in-Bank.is) c.from.ensures below c.index_mut.ensures.value done.asked done.unasked in
    subst (λ (x : PortPass). AsksForEntry c.args.kept.now.chain.number x.pass c.args.judged c.finish-applied.result x.asked c.finish-applied.new.line.asked) c.pass.view_is is

pub returns-clause-agrees : goal.returns-clause-agrees
returns-clause-agrees g c = λ took.
    c.shares_agree.ensures _ _ _ _ _ _ _ c.requires (ends_plainly _ _ _ _ _ _ _ _ _ (returns-clause-finished g c) took) (taken_fits c.args.kept.now (share_of c.args.pass.now.pass c.args.judged.place) c.args.judged took)
