-- From what clap found to what the words name.
use Rattle.std.proofs.Common.{◌≡◌, ◌∙◌, inl, inr, ap, subst, sym, List, [], Option, Some, true, refl}
use Rattle.clap.specs.Walk.{Row, Text}
use Rattle.clap.specs.Simple.{is_simple}
use Rattle.clap.specs.Faults.{fault_of, is_simple_and_free}
use Rattle.clap.specs.Kinds.{HasKind, IsAmong, Kinds}
use Rattle.clap.specs.Values.{kind_of}
use Rattle.clap.proofs.OnLiterals.{clap_on_literals}
use Rattle.clap.specs.declared.error.kind.ErrorKind.TheVariants.{OutOfMemory}
use Rattle.clap.specs.declared.error.Error.{Error}
use Rattle.commands.specs.CommandLine.{rmapctl_app, subcommand_in, AreWordsTaken, Names, NamesNone, IsIncomplete, IsSpoiled, LacksWork, RefusesMatches, Spoils, ReportsRefusal}
use Rattle.commands.specs.Words.{IsNoWord, name_of_word}
use Rattle.commands.specs.declared.word.SubcommandWord.{SubcommandWord}
use Rattle.commands.specs.declared.work.Work.{Work}
use Rattle.commands.proofs.Apart.{one_word}
use Rattle.job_parts.specs.declared.usage.UsageFault.{UsageFault}
use Rattle.job_parts.specs.declared.usage.UsageFault.TheVariants.{Parse, BadOption, Memory}

pub is_simple-rmapctl_app : is_simple rmapctl_app ≡ true
unfolding clap_on_literals rmapctl_app
is_simple-rmapctl_app = refl

pub is_free-rmapctl_app : is_simple_and_free rmapctl_app ≡ true
unfolding clap_on_literals rmapctl_app
is_free-rmapctl_app = refl

-- a fault of the matches of words that clap takes is one of the words
pub lacks_work : (words : List Text) (fault : UsageFault) → AreWordsTaken words → LacksWork (subcommand_in words) fault → NamesNone words fault
lacks_work words (Parse text) taken h = absurd h
lacks_work words BadOption taken h = (taken, h)
lacks_work words Memory taken h = h

-- a list of kinds is not empty if an error has one of them and is no want of memory
has_kind : (kinds : Kinds) (e : Error) → (kind_of e ≡ OutOfMemory → ⊥) → HasKind kinds e → kinds ≡ [] → ⊥
has_kind kinds e other (inl h) none = other h
has_kind kinds e other (inr h) none = subst (IsAmong (kind_of e)) none h

-- what is printed of a refusal is a fault of the words
pub refused_words : (words : List Text) (e : Error) (fault : UsageFault) → ReportsRefusal (kind_of e) fault
    → HasKind (fault_of rmapctl_app words) e → NamesNone words fault
refused_words words e (Parse text) reported h = has_kind _ e reported h
refused_words words e BadOption reported h = absurd reported
refused_words words e Memory reported h = reported

-- the subcommand that clap found, of a word that is written as its name
found_by : (found : Option (Text × List Row)) (name : Text) (rows : List Row) (named : SubcommandWord)
    → found ≡ Some (name, rows) → name ≡ name_of_word named → found ≡ Some (name_of_word named, rows)
found_by found name rows named is written = is ∙ ap (λ text. Some (text, rows)) written

-- its matches name the work
pub names_work : (found : Option (Text × List Row)) (name : Text) (rows : List Row) (named : SubcommandWord) (work : Work)
    → found ≡ Some (name, rows) → name ≡ name_of_word named → Names (Some (name_of_word named, rows)) work → Names found work
names_work found name rows named work is written names =
    subst (λ it. Names it work) (sym (found_by found name rows named is written)) names

-- they lack what the subcommand of its word lacks
spoils_one : (rows : List Row) (named : SubcommandWord) → Spoils named rows → IsSpoiled (name_of_word named, rows)
spoils_one rows named spoils other same = subst (λ it. Spoils it rows) (one_word named other same) spoils

-- they name no work
pub lacks_named : (found : Option (Text × List Row)) (name : Text) (rows : List Row) (named : SubcommandWord) (fault : UsageFault)
    → found ≡ Some (name, rows) → name ≡ name_of_word named → RefusesMatches named rows fault → LacksWork found fault
lacks_named found name rows named Memory is written refuses = tt
lacks_named found name rows named BadOption is written refuses =
    subst IsIncomplete (sym (found_by found name rows named is written)) (spoils_one rows named refuses)
lacks_named found name rows named (Parse text) is written refuses = absurd refuses

-- nor does a subcommand of no word
pub lacks_word : (found : Option (Text × List Row)) (name : Text) (rows : List Row)
    → found ≡ Some (name, rows) → IsNoWord name → LacksWork found BadOption
lacks_word found name rows is unknown = subst IsIncomplete (sym is) (λ named written. absurd (unknown named written))
