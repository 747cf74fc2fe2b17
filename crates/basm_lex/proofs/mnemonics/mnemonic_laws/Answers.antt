use Rattle.basm_lex.proofs.MnemonicWords.{word_named, word_plain, words_apart}
use Rattle.basm_lex.proofs.mnemonics.mnemonic_laws.Goals as goal

pub returns-clause-named : goal.returns-clause-named
returns-clause-named c = word_named

pub returns-clause-plain : goal.returns-clause-plain
returns-clause-plain c = word_plain

pub returns-clause-apart : goal.returns-clause-apart
returns-clause-apart c = words_apart
