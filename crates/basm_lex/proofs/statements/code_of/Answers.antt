use Rattle.std.proofs.Common.{sym, ap, ◌∙◌, eqb-true}
use Rattle.std.proofs.lemmas.List.{nil_from_length}
use Rattle.basm_lex.specs.Lines.{code_of, without_trailing_spaces}
use Rattle.basm_lex.proofs.Spaces.{code_before}
use Rattle.basm_lex.proofs.statements.code_of.Goals as goal

pub returns-then-is_bare : goal.returns-then-is_bare
unfolding code_of
returns-then-is_bare c =
    let none = nil_from_length _ (eqb-true _ _ (sym c.is_bare.ensures ∙ c.if-is_bare.true)) in
    sym (ap without_trailing_spaces (code_before c.args.line.now c.trim_start-begun.result.now c.trim_start-begun.ensures ∙ none))

pub returns : goal.returns
unfolding code_of
returns c =
    c.trim_end.ensures ∙ ap without_trailing_spaces (c.before_comment.ensures ∙ sym (code_before c.args.line.now c.trim_start-begun.result.now c.trim_start-begun.ensures))
