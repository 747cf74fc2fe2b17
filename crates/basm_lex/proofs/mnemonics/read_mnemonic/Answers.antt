use Rattle.basm_lex.proofs.MnemonicWords.{named_exact, named_plain, named_word}
use Rattle.basm_lex.proofs.mnemonics.read_mnemonic.Goals as goal

pub returns-clause-names : goal.returns-clause-names
returns-clause-names c = named_word c.args.word.now c.named.result c.named.ensures

pub returns-clause-exact : goal.returns-clause-exact
returns-clause-exact c = named_exact c.args.word.now c.named.result c.named.ensures

pub returns-clause-plain : goal.returns-clause-plain
returns-clause-plain c = named_plain c.args.word.now c.named.result c.named.ensures
