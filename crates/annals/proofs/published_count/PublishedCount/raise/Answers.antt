use Rattle.std.proofs.Common.{◌≤◌, ◌-◌, length, sym, ◌∙◌, ap, arith}
use Rattle.annals.specs.Publishes.{publishes_of}
use Rattle.annals.specs.Shown.{shown_in}
use Rattle.annals.proofs.Listing.{high_enough, shown_grows}
use Rattle.annals.proofs.Showing.{raise_moves}
use Rattle.annals.proofs.published_count.PublishedCount.raise.Goals as goal

pub compare_exchange-found-requires : goal.compare_exchange-found-requires
compare_exchange-found-requires g c =
    let h = c.args.self.now.word_is in
    let offer = c.plain-offer.ensures in
    let pen = c.no_pen-pen.ensures in
    let list : c.args.count ≤ length (publishes_of c.front.inside.seen.log) = rw c.front.view_is c.requires.published in (
      ap (λ w. w.tracked) h,
      c.front.invariant ∙ sym (ap (λ w. w.book) h),
      pen.0 ∙ (c.front.invariant ∙ sym (ap (λ w. w.book) h)),
      offer.0,
      rw (ap (λ w. w.key) h, pen.1, offer.3) (raise_moves c.front.inside.seen.log (c.args.count - 1) c.args.count (omega (arith, c.requires.some)) list),
    )

pub returns-clause-shown : goal.returns-clause-shown
returns-clause-shown g c = λ low.
    let step = c.compare_exchange-found.ensures in
    high_enough c.compare_exchange-found.result c.args.count (shown_in c.args.front.now) (shown_in c.compare_exchange-found.new.seen.log) c.requires.some
    (shown_grows c.args.front.now c.compare_exchange-found.new.seen.log (rw (← c.front.view_is) step.6)) step.7 low
