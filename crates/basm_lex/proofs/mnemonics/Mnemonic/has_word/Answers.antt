use Rattle.std.proofs.Common.{◌∙◌}
use Rattle.basm_lex.specs.Mnemonics.{mnemonic_word}
use Rattle.basm_lex.proofs.WordSearch.{pieces_equal}
use Rattle.basm_lex.proofs.mnemonics.Mnemonic.has_word.Goals as goal

pub returns-in-Some : goal.returns-in-Some
returns-in-Some c =
    let front = c.in-Some.ensures.cases in
    c.eq.ensures ∙ pieces_equal c.args.word.now c.in-Some.rest.now c.pieces.result.0.now c.pieces.result.1.now (mnemonic_word c.args.self) front.0 front.1.1 front.2 c.pieces.ensures
