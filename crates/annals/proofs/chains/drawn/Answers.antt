use Rattle.std.proofs.Common.{sym, ◌∙◌, ap}
use Rattle.annals.specs.Chains.{blank}
use Rattle.annals.proofs.Turns.{draws_moves}
use Rattle.annals.proofs.chains.drawn.Goals as goal

pub compare_exchange-one-requires : goal.compare_exchange-one-requires
compare_exchange-one-requires c =
    let h = c.requires.word in
    let seen = ap (λ s. s.book) c.again-seen.ensures in
    let offer = c.plain-offer.ensures in
    let pen = c.no_pen-pen.ensures in
    let book = seen ∙ sym (ap (λ w. w.book) h) in (
      ap (λ w. w.tracked) h,
      book,
      pen.0 ∙ book,
      offer.0,
      rw (pen.1, offer.3) (draws_moves c.args.word.now.key c.again-seen.result.log blank c.requires.few),
    )
