use Rattle.std.proofs.Common.{sym, ◌∙◌}
use Rattle.std.specs.Str.{bytes_eq}
use Rattle.basm_lex.specs.Mnemonics.{mnemonic_word}
use Rattle.basm_lex.proofs.WordSearch.{find_after}
use Rattle.basm_lex.proofs.mnemonics.first_with_word.Goals as goal

pub loop-rest-preserved : goal.loop-rest-preserved
loop-rest-preserved c =
    find_after (λ m. bytes_eq c.args.word.now (mnemonic_word m)) c.loop-rest.rest.now c.args.mnemonics.now _ c.in-len1-up.len_at_least (sym c.has_word.ensures ∙ c.if-has_word.false) c.loop-rest.invariant
