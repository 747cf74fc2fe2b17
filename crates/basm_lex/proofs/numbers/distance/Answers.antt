use Rattle.std.proofs.Common.{Some, None, subst, lit<, arith}
use Rattle.std.proofs.lemmas.Int.{ints}
use Rattle.std.proofs.lemmas.Str.Pattern.{strip_prefix_char}
use Rattle.basm_lex.specs.Numbers.{WritesDistance}
use Rattle.basm_lex.proofs.Readings.{after_plus, refused_minus, signed}
use Rattle.basm_lex.proofs.numbers.distance.Goals as goal

pub returns-in-Some-clause-exact : goal.returns-in-Some-clause-exact
returns-in-Some-clause-exact c = λ value w fits.
    let word = c.args.word.now in
    let rest = c.in-Some.rest in
    let same = strip_prefix_char 43 word (Some rest) c.in-Some.ensures.cases (lit< tt) in
    c.magnitude.ensures.exact value (after_plus rest.now value (subst (λ x. WritesDistance x value) same w)) (omega (arith, ints))

pub returns-in_err-magnitude-in-Some-strip_prefix-clause-exact : goal.returns-in_err-magnitude-in-Some-strip_prefix-clause-exact
returns-in_err-magnitude-in-Some-strip_prefix-clause-exact c = λ value w fits.
    let word = c.args.word.now in
    let rest = c.in-Some-strip_prefix.rest in
    let same = strip_prefix_char 45 word (Some rest) c.in-Some-strip_prefix.ensures.cases (lit< tt) in
    let refused = c.in_err-magnitude-in-Some-strip_prefix in
    absurd (refused_minus rest.now refused.field-0.0 refused.ensures.exact value (subst (λ x. WritesDistance x value) same w) fits)

pub returns-in-None-clause-exact : goal.returns-in-None-clause-exact
returns-in-None-clause-exact c = λ value w fits.
    let word = c.args.word.now in
    absurd (signed word value (strip_prefix_char 43 word None c.in_default.ensures.cases (lit< tt)) (strip_prefix_char 45 word None c.in-None.ensures.cases (lit< tt)) w)
