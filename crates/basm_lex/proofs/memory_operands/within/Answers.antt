use Rattle.std.proofs.Common.{[], ◌∷◌, ◌++◌, Some, None, lit<}
use Rattle.std.proofs.lemmas.Str.Pattern.{strip_prefix_char, strip_suffix_char}
use Rattle.basm_lex.proofs.MemoryOperandReadings.{in_brackets}
use Rattle.basm_lex.proofs.memory_operands.within.Goals as goal

pub returns-in-Some : goal.returns-in-Some
returns-in-Some c =
    let word = c.args.word.now in
    let rest = c.in-Some.rest in
    in_brackets word rest.now c.strip_suffix.result (strip_prefix_char 91 word (Some rest) c.in-Some.ensures.cases (lit< tt))
    (strip_suffix_char 93 rest.now c.strip_suffix.result c.strip_suffix.ensures.cases (lit< tt))

pub returns-in-None : goal.returns-in-None
returns-in-None c = λ inner same. strip_prefix_char 91 c.args.word.now None c.in-None.ensures.cases (lit< tt) (inner ++ 93 ∷ []) same
