-- The words of the subcommands are apart.
use Rattle.std.proofs.Common.{◌≡◌, ◌∙◌, ℕ, List, [], ◌∷◌, Option, Some, None, if◌then◌else◌, refl, sym, ap}
use Rattle.std.specs.Str.{bytes_eq}
use Rattle.commands.specs.declared.word.SubcommandWord.{SubcommandWord}
use Rattle.commands.specs.declared.word.SubcommandWord.TheVariants.{Asm, Dis, Verify, Judge, Policy, Serve, Sim, Live, Explain, Why, Weigh, Node, Packet, Show, Decide, Trace, Compare, Map, Rehearse, Suite}
use Rattle.commands.specs.Words.{name_of_word}

-- the first of some words that is written so
word_in : List SubcommandWord → List ℕ → Option SubcommandWord
word_in [] name = None
word_in (word ∷ words) name = if bytes_eq name (name_of_word word) then Some word else word_in words name

-- all words
all_words : List SubcommandWord
all_words = Asm ∷ Dis ∷ Verify ∷ Judge ∷ Policy ∷ Serve ∷ Sim ∷ Live ∷ Explain ∷ Why ∷ Weigh ∷ Node ∷ Packet ∷ Show ∷ Decide ∷ Trace ∷ Compare ∷ Map ∷ Rehearse ∷ Suite ∷ []

-- each word is found by its name
is_found : (word : SubcommandWord) → word_in all_words (name_of_word word) ≡ Some word
unfolding word_in all_words
is_found Asm = refl
is_found Dis = refl
is_found Verify = refl
is_found Judge = refl
is_found Policy = refl
is_found Serve = refl
is_found Sim = refl
is_found Live = refl
is_found Explain = refl
is_found Why = refl
is_found Weigh = refl
is_found Node = refl
is_found Packet = refl
is_found Show = refl
is_found Decide = refl
is_found Trace = refl
is_found Compare = refl
is_found Map = refl
is_found Rehearse = refl
is_found Suite = refl

-- the word that an option has
word_of : Option SubcommandWord → SubcommandWord
word_of None = Asm
word_of (Some word) = word

-- two words with one name are one
pub one_word : (a b : SubcommandWord) → name_of_word a ≡ name_of_word b → a ≡ b
unfolding word_of
one_word a b same = ap word_of (sym (is_found a) ∙ ap (word_in all_words) same ∙ is_found b)
