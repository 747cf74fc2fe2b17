use Rattle.std.proofs.Common.{sym, ◌∙◌, ap}
use Rattle.annals.specs.Rule.{showing}
use Rattle.annals.proofs.Showing.{counts_moves}
use Rattle.annals.proofs.published_count.PublishedCount.count.Goals as goal

pub load-requires : goal.load-requires
load-requires g c =
    let h = c.args.self.now.word_is in
    let offer = c.plain-offer.ensures in (
      ap (λ w. w.tracked) h,
      c.front.invariant ∙ sym (ap (λ w. w.book) h),
      offer.0,
      rw (ap (λ w. w.key) h, offer.3) (counts_moves c.front.inside.seen.log showing),
    )
