use Rattle.std.proofs.Common.{◌≡◌, length}
use Rattle.std.specs.List.{find}
use Rattle.std.specs.Str.{bytes_eq}
use Rattle.basm_lex.specs.Mnemonics.{mnemonic_word}
use Rattle.basm_lex.proofs.mnemonics.first_with_word.Given as goal

abbrev pub invariant-loop-rest : goal.invariant-loop-rest
invariant-loop-rest l =
    find (λ m. bytes_eq l.word (mnemonic_word m)) l.rest ≡ find (λ m. bytes_eq l.word (mnemonic_word m)) l.mnemonics

abbrev pub decreases-loop-rest : goal.decreases-loop-rest
decreases-loop-rest l = length l.rest
