-- From the job of matches to the work that they name.
use Rattle.std.proofs.Common.{◌≡◌, Bool, true, false, List, Option, None, Some, string_bytes, ap, inl, inr, subst, refl, sym}
use Rattle.std.specs.Prelude.{if◌then◌else◌, is_some, not}
use Rattle.clap.specs.Walk.{Row, Text}
use Rattle.commands.specs.CommandLine.{IsNodeJobOf, Names, NamesPlaced, NamesPlain, RefusesMatches, RefusesNodeFile, RefusesPlaced, RefusesPlain, SpoilsNodeFile}
use Rattle.commands.specs.Jobs.{facts_of}
use Rattle.commands.specs.OnNodes.{are_left, own_file}
use Rattle.commands.specs.OneInput.{reads_input_twice}
use Rattle.commands.specs.Words.{name_of_word}
use Rattle.commands.specs.declared.jobs.Job.{Job}
use Rattle.commands.specs.declared.node_jobs.NodeJob.{NodeJob}
use Rattle.commands.specs.declared.word.SubcommandWord.{SubcommandWord}
use Rattle.commands.specs.declared.work.Work.{Work}
use Rattle.commands.specs.declared.work.Work.TheVariants.{Once, OnNode, Live, Printed}
use Rattle.job_live.specs.declared.words.LiveWords.{LiveWords}
use Rattle.job_parts.specs.declared.usage.UsageFault.{UsageFault}
use Rattle.job_parts.specs.declared.usage.UsageFault.TheVariants.{Parse, BadOption, Memory}

-- the job of matches, for the node of the file that they name, if they name one, is the work that they name
names_placed : (found : Text × List Row) (job : Job) (work : Work) → NamesPlain found (Once job)
    → IsNodeJobOf job found.1 work → NamesPlaced (Some found) work
names_placed found job (Once own) names (same, none) = (
  subst (λ (j : Job). NamesPlain found (Once j)) (sym same) names,
  (refl, subst (λ (j : Job). own_file j found.1 ≡ None) (sym same) none),
)
names_placed found job (OnNode own) names (same, named, left) = (
  subst (λ (j : Job). NamesPlain found (Once j)) (sym same) names,
  (refl, subst (λ (j : Job). own_file j found.1 ≡ Some (string_bytes own.node)) (sym same) named, left),
)
names_placed found job (Live words) names placed = absurd placed
names_placed found job (Printed text) names placed = absurd placed

-- the same of what the subcommand names, which is that job
pub places : (found : Text × List Row) (plain : Work) (job : Job) (work : Work) → plain ≡ Once job → NamesPlain found plain
    → IsNodeJobOf job found.1 work → NamesPlaced (Some found) work
places found plain job work is names placed = names_placed found job work (subst (NamesPlain found) is names) placed

-- a talk is named as it is
pub names_talk : (found : Text × List Row) (plain : Work) (words : LiveWords) → plain ≡ Live words → NamesPlain found plain
    → NamesPlaced (Some found) (Live words)
names_talk found plain words is names = subst (NamesPlain found) is names

-- no subcommand names a job for the node of a file before that file is looked for
pub is_unplaced : (found : Text × List Row) (plain : Work) (own : NodeJob) → plain ≡ OnNode own → NamesPlain found plain → ⊥
is_unplaced found plain own is names = subst (NamesPlain found) is names

-- no subcommand names a text
pub is_no_text : (found : Text × List Row) (plain : Work) (text : _) → plain ≡ Printed text → NamesPlain found plain → ⊥
is_no_text found plain text is names = subst (NamesPlain found) is names

-- what is refused of only the job is refused
pub refuses_plain : (named : SubcommandWord) (rows : List Row) (fault : UsageFault) → RefusesPlain named rows fault
    → RefusesPlaced named rows fault
refuses_plain named rows Memory refuses = refuses
refuses_plain named rows BadOption refuses = inl refuses
refuses_plain named rows (Parse text) refuses = refuses

-- what is refused of the node's file is refused
pub refuses_place : (named : SubcommandWord) (rows : List Row) (fault : UsageFault) → RefusesNodeFile rows fault
    → RefusesPlaced named rows fault
refuses_place named rows Memory refuses = refuses
refuses_place named rows BadOption refuses = inr refuses
refuses_place named rows (Parse text) refuses = refuses

-- a work of which no two files are standard input is named
pub names_apart : (found : Option (Text × List Row)) (work : Work) → NamesPlaced found work → reads_input_twice work ≡ false → Names found work
names_apart found work names apart = (names, apart)

-- what is refused of the job or of the node's file is refused
pub refuses_placed : (named : SubcommandWord) (rows : List Row) (fault : UsageFault) → RefusesPlaced named rows fault → RefusesMatches named rows fault
refuses_placed named rows Memory refuses = refuses
refuses_placed named rows BadOption refuses = inl refuses
refuses_placed named rows (Parse text) refuses = refuses

-- so is a work of which two files are standard input
pub refuses_input : (named : SubcommandWord) (rows : List Row) (work : Work) → NamesPlaced (Some (name_of_word named, rows)) work
    → reads_input_twice work ≡ true → RefusesMatches named rows BadOption
refuses_input named rows work names twice = inr (record { work = work; names = names; twice = twice })

-- the name of a node's file that is beside a job is among its matches
left_to : (takes : Bool) (given : Option Text) (name : Text) → (if takes then given else None) ≡ Some name → given ≡ Some name
left_to true given name h = h
left_to false given name h = absurd (cc h)

-- a node's file beside an option that says what it says
pub spoils_place : (job : Job) (rows : List Row) (name : Text) → own_file job rows ≡ Some name → are_left rows ≡ false
    → SpoilsNodeFile rows
spoils_place job rows name is left =
    (ap (λ (given : Option Text). not (is_some given)) (left_to (facts_of job).takes_file _ name is), left)
