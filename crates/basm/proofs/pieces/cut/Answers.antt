use Rattle.basm.proofs.Cuts.{after_feed, line_cut, one_line}
use Rattle.basm.proofs.pieces.cut.Goals as goal

pub range_from-requires : goal.range_from-requires
range_from-requires c = λ some. after_feed c.args.text.now c.as_bytes.result.now c.in-Some.end c.as_bytes.ensures.value c.in-Some.ensures c.utf8.text

pub returns-in-Some : goal.returns-in-Some
returns-in-Some c =
    line_cut c.args.text.now c.as_bytes.result.now c.in-Some.end c.as_bytes.ensures.value c.in-Some.ensures c.range.result.now c.range_from.result.now c.range.ensures.value c.range_from.ensures.value

pub returns-in-None : goal.returns-in-None
returns-in-None c = one_line c.args.text.now c.as_bytes.result.now c.as_bytes.ensures.value c.in-None.ensures
