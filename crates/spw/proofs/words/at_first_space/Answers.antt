use Rattle.spw.proofs.SpaceCuts.{after_space, no_space_before, none_found, space_cut}
use Rattle.spw.proofs.words.at_first_space.Goals as goal

pub range_from-requires : goal.range_from-requires
range_from-requires c = λ some. after_space c.args.text.now c.as_bytes.result.now c.in-Some.place c.as_bytes.ensures.value (c.in-Some.ensures.0.high, c.in-Some.ensures.1) c.utf8.text

pub returns-in-Some : goal.returns-in-Some
returns-in-Some c = (
  space_cut c.args.text.now c.as_bytes.result.now c.in-Some.place c.as_bytes.ensures.value (c.in-Some.ensures.0.high, c.in-Some.ensures.1)
      c.range.result.now c.range_from.result.now c.range.ensures.value c.range_from.ensures.value,
  no_space_before c.args.text.now c.as_bytes.result.now c.in-Some.place c.as_bytes.ensures.value c.in-Some.ensures.0 c.range.result.now c.range.ensures.value,
)

pub returns-in-None : goal.returns-in-None
returns-in-None c = none_found c.args.text.now c.as_bytes.result.now c.as_bytes.ensures.value c.in-None.ensures
