-- The words of the subcommands.
use Rattle.std.specs.Prelude.{◌≢◌, ℕ, List, codes}
use Rattle.commands.specs.declared.word.SubcommandWord.{SubcommandWord}
use Rattle.commands.specs.declared.word.SubcommandWord.TheVariants.{Asm, Dis, Verify, Judge, Policy, Serve, Sim, Live, Explain, Why, Weigh, Node, Packet, Show, Decide, Trace, Compare, Map, Rehearse, Suite}

-- how a word is written
abbrev pub name_of_word : SubcommandWord → List ℕ
name_of_word Asm = codes "asm"
name_of_word Dis = codes "dis"
name_of_word Verify = codes "verify"
name_of_word Judge = codes "judge"
name_of_word Policy = codes "policy"
name_of_word Serve = codes "serve"
name_of_word Sim = codes "sim"
name_of_word Live = codes "live"
name_of_word Explain = codes "explain"
name_of_word Why = codes "why"
name_of_word Weigh = codes "weigh"
name_of_word Node = codes "node"
name_of_word Packet = codes "packet"
name_of_word Show = codes "show"
name_of_word Decide = codes "decide"
name_of_word Trace = codes "trace"
name_of_word Compare = codes "compare"
name_of_word Map = codes "map"
name_of_word Rehearse = codes "rehearse"
name_of_word Suite = codes "suite"

-- no word is written so
abbrev pub IsNoWord : List ℕ → Type 0
IsNoWord name = (word : SubcommandWord) → name ≢ name_of_word word
