use Rattle.std.proofs.Common.{None, sym, ◌∙◌, lit<}
use Rattle.std.proofs.lemmas.Str.Pattern.{strip_prefix_char}
use Rattle.basm_lex.proofs.Spaces.{skip_none}
use Rattle.basm_lex.proofs.statements.trim_start.Goals as goal

pub returns : goal.returns
returns c =
    let text = c.loop-after.rest.now in
    sym (skip_none text (strip_prefix_char 32 text None c.in_default.ensures.cases (lit< tt))) ∙ c.loop-after.invariant.1
