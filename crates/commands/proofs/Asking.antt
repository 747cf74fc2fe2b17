-- What words ask for that name no work.
use Rattle.std.proofs.Common.{◌≡◌, List, Option, Some, None, true, inl, inr}
use Rattle.clap.specs.Walk.{Row, Text}
use Rattle.commands.specs.CommandLine.{AsksFor, AsksNone, Names, NamesNone, NamesWork, ask_help}
use Rattle.commands.specs.declared.work.Work.{Work}
use Rattle.commands.specs.declared.work.Work.TheVariants.{Once, OnNode, Live, Printed}
use Rattle.job_parts.specs.declared.usage.UsageFault.{UsageFault}
use Rattle.job_parts.specs.declared.usage.UsageFault.TheVariants.{Parse, BadOption, Memory}

-- words that begin with `help`, and get no text
pub helps_none : (words : List Text) (fault : UsageFault) → ask_help words ≡ true → AsksNone words fault
helps_none words Memory is = tt
helps_none words BadOption is = inl is
helps_none words (Parse text) is = inl is

-- words that name no work
pub asks_none : (words : List Text) (fault : UsageFault) → NamesNone words fault → AsksNone words fault
asks_none words Memory none = tt
asks_none words BadOption none = inr none
asks_none words (Parse text) none = inr none

-- no subcommand names a text
names_no_text : (found : Option (Text × List Row)) (text : _) → Names found (Printed text) → ⊥
names_no_text None text named = named.0
names_no_text (Some found) text named = named.0

-- words that name a work ask for it
pub asks_for : (words : List Text) (work : Work) → NamesWork words work → AsksFor words work
asks_for words (Once job) named = named
asks_for words (OnNode own) named = named
asks_for words (Live talk) named = named
asks_for words (Printed text) named = absurd (names_no_text _ text named.1)
