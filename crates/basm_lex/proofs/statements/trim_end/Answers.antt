use Rattle.std.proofs.Common.{Some, None, sym, ap, ◌∙◌, lit<, rules}
use Rattle.std.proofs.lemmas.Str.Pattern.{strip_suffix_char}
use Rattle.basm_lex.specs.Lines.{without_trailing_spaces}
use Rattle.basm_lex.proofs.Spaces.{drop_one, drop_none}
use Rattle.basm_lex.proofs.statements.trim_end.Goals as goal

pub loop-before-preserved : goal.loop-before-preserved
loop-before-preserved c =
    let one = strip_suffix_char 32 c.loop-before.rest.now (Some c.in-Some.before) c.in-Some.ensures.cases (lit< tt) in
    (search rules, sym (drop_one c.in-Some.before.now) ∙ ap without_trailing_spaces (sym one) ∙ c.loop-before.invariant.1)

pub returns : goal.returns
returns c =
    let text = c.loop-before.rest.now in
    sym (drop_none text (strip_suffix_char 32 text None c.in_default.ensures.cases (lit< tt))) ∙ c.loop-before.invariant.1
