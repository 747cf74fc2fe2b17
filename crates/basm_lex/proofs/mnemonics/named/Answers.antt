use Rattle.std.proofs.Common.{◌∙◌}
use Rattle.basm_lex.proofs.Groups.{found_in_group}
use Rattle.basm_lex.proofs.mnemonics.named.Goals as goal

pub returns : goal.returns
returns c =
    c.first_with_word.ensures ∙ found_in_group c.args.word.now c.group_of.result c.candidates.result.now c.group_of.ensures.value c.group_of.ensures.few c.candidates.ensures
