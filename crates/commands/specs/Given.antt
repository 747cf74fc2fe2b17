-- The words of a command line.
use Rattle.std.specs.Prelude.{List, [], ◌∷◌, codes}
use Rattle.clap.specs.Walk.{Text}

-- the words that are done: those that are given, and `judge -` if there is none
abbrev pub words_given : List Text → List Text
words_given [] = codes "judge" ∷ codes "-" ∷ []
words_given (word ∷ words) = word ∷ words
