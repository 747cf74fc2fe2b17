-- The command line of rmapctl, as clap reads it, and what its matches name: a job over files, or a talk.
use Rattle.std.specs.Prelude.{◌≡◌, ◌≢◌, ◌⊎◌, List, [], ◌∷◌, Option, Some, None, true, false, bytes_eq, codes, string_bytes, Bool, not, ◌||◌}
use Rattle.clap.specs.Walk.{Row, Text, first_of}
use Rattle.clap.specs.Simple.{App, Shape, new_app, on_top, with_subcommand, subcommand_of}
use Rattle.clap.specs.Faults.{fault_of}
use Rattle.clap.specs.declared.error.kind.ErrorKind.{ErrorKind}
use Rattle.clap.specs.declared.error.kind.ErrorKind.TheVariants.{OutOfMemory}
use Rattle.job_charts.specs.CompareJob.{compare_app, NamesCompare, SpoilsCompare}
use Rattle.job_charts.specs.MapJob.{map_app, NamesMap, SpoilsMap}
use Rattle.job_config.specs.NodeLines.{NamesNodeLines, SpoilsNodeLines}
use Rattle.job_config.specs.Sources.{lacks}
use Rattle.job_decide.specs.DecideJob.{decide_app, NamesDecide, SpoilsDecide}
use Rattle.job_live.specs.Words.{live_app, NamesLive, SpoilsLive}
use Rattle.job_node_file.specs.NodeFileJob.{NamesNodeFile, node_file_app}
use Rattle.job_rehearse.specs.RehearseJob.{rehearse_app, NamesRehearse, SpoilsRehearse}
use Rattle.job_texts.specs.AsmJob.{asm_app, NamesAsm}
use Rattle.job_texts.specs.DisJob.{dis_app, NamesDis}
use Rattle.job_codes.specs.ExplainJob.{explain_app, NamesExplain, SpoilsExplain}
use Rattle.job_texts.specs.Images.{NamesImage, SpoilsImage}
use Rattle.job_packets.specs.PacketJob.{packet_app, NamesPacket, SpoilsPacket}
use Rattle.job_texts.specs.PolicyJob.{policy_app, NamesPolicy, SpoilsPolicy}
use Rattle.job_show.specs.ShowJob.{show_app, NamesShow}
use Rattle.job_suite.specs.SuiteJob.{suite_app, NamesSuite, SpoilsSuite}
use Rattle.job_texts.specs.VerifyJob.{verify_app}
use Rattle.job_codes.specs.WhyJob.{why_app}
use Rattle.job_nodes.specs.JudgeJob.{judge_app}
use Rattle.job_nodes.specs.SimJob.{sim_app}
use Rattle.job_ports.specs.ServeJob.{serve_app}
use Rattle.job_trace.specs.TraceJob.{trace_app}
use Rattle.job_weigh.specs.WeighJob.{weigh_app, NamesWeigh, SpoilsWeigh}
use Rattle.commands.specs.declared.jobs.Job.{Job}
use Rattle.commands.specs.declared.jobs.Job.TheVariants.{Judge, Serve, Simulate, Trace, Assemble, Disassemble}
use Rattle.commands.specs.declared.jobs.Job.TheVariants.{Verify, Policy, Explain, Why, Weigh, Node, Packet, Show}
use Rattle.commands.specs.declared.jobs.Job.TheVariants.{Decide, Compare, Map, Rehearse, Suite}
use Rattle.commands.specs.OnNodes.{are_left, own_file, with_node_option}
use Rattle.commands.specs.OneInput.{reads_input_twice}
use Rattle.commands.specs.Words.{name_of_word}
use Rattle.commands.specs.declared.word.SubcommandWord.{SubcommandWord}
use Rattle.commands.specs.declared.word.SubcommandWord.TheVariants as word
use Rattle.commands.specs.declared.work.Work.{Work}
use Rattle.commands.specs.declared.work.Work.TheVariants.{Once, OnNode, Live, Printed}
use Rattle.job_parts.specs.declared.usage.UsageFault.{UsageFault}
use Rattle.job_parts.specs.declared.usage.UsageFault.TheVariants.{Parse, BadOption, Memory}

-- only subcommands are words of rmapctl itself, beside its help and its version
abbrev pub rmapctl_shape : Shape → Shape
rmapctl_shape s = record s {
  no_binary_name = true;
  disable_help_subcommand = true;
  subcommand_required = true;
  has_version = true;
}

-- a command with the jobs on programs and on packets in order
abbrev pub with_first_jobs : App → App
with_first_jobs app =
    with_subcommand (with_subcommand
    (with_subcommand (with_subcommand (with_subcommand app asm_app.top) dis_app.top) (with_node_option verify_app).top)
    judge_app.top) (with_node_option policy_app).top

-- a command with the jobs that print more of packet lines, and the one on the rules of a table, after others
abbrev pub with_packet_jobs : App → App
with_packet_jobs app =
    with_subcommand (with_subcommand
    (with_subcommand (with_subcommand app (with_node_option packet_app).top) show_app.top) (with_node_option decide_app).top)
    trace_app.top

-- a command with the jobs before a load, and the one that tries a target, after others
abbrev pub with_chart_jobs : App → App
with_chart_jobs app =
    with_subcommand (with_subcommand (with_subcommand
    (with_subcommand app (with_node_option compare_app).top) (with_node_option map_app).top) rehearse_app.top) suite_app.top

-- `rmapctl` with its subcommands
unfoldable pub rmapctl_app : App
rmapctl_app =
    with_chart_jobs
    (with_packet_jobs
    (with_subcommand (with_subcommand (with_subcommand (with_subcommand (with_subcommand
    (with_subcommand (with_subcommand (with_first_jobs (on_top rmapctl_shape (new_app (codes "rmapctl"))))
    serve_app.top) sim_app.top) live_app.top) explain_app.top) (with_node_option why_app).top) (with_node_option weigh_app).top)
    node_file_app.top))

-- the subcommand that clap finds in the words, with its matches
abbrev pub subcommand_in : List Text → Option (Text × List Row)
subcommand_in words = subcommand_of rmapctl_app words

-- the job or the talk is that of the subcommand with its matches, whether they name a node's file or not
abbrev pub NamesPlain : Text × List Row → Work → Type 0
NamesPlain found (Once (Assemble words)) = (found.0 ≡ codes "asm") × NamesAsm found.1 words
NamesPlain found (Once (Disassemble words)) = (found.0 ≡ codes "dis") × NamesDis found.1 words
NamesPlain found (Once (Verify args)) = (found.0 ≡ codes "verify") × NamesImage found.1 args
NamesPlain found (Once (Judge args)) = (found.0 ≡ codes "judge") × NamesNodeLines found.1 args
NamesPlain found (Once (Policy words)) = (found.0 ≡ codes "policy") × NamesPolicy found.1 words
NamesPlain found (Once (Serve args)) = (found.0 ≡ codes "serve") × NamesNodeLines found.1 args
NamesPlain found (Once (Simulate args)) = (found.0 ≡ codes "sim") × NamesNodeLines found.1 args
NamesPlain found (Once (Explain words)) = (found.0 ≡ codes "explain") × NamesExplain found.1 words
NamesPlain found (Once (Why args)) = (found.0 ≡ codes "why") × NamesImage found.1 args
NamesPlain found (Once (Weigh words)) = (found.0 ≡ codes "weigh") × NamesWeigh found.1 words
NamesPlain found (Once (Node words)) = (found.0 ≡ codes "node") × NamesNodeFile found.1 words
NamesPlain found (Once (Packet words)) = (found.0 ≡ codes "packet") × NamesPacket found.1 words
NamesPlain found (Once (Show words)) = (found.0 ≡ codes "show") × NamesShow found.1 words
NamesPlain found (Once (Decide words)) = (found.0 ≡ codes "decide") × NamesDecide found.1 words
NamesPlain found (Once (Trace args)) = (found.0 ≡ codes "trace") × NamesNodeLines found.1 args
NamesPlain found (Once (Compare words)) = (found.0 ≡ codes "compare") × NamesCompare found.1 words
NamesPlain found (Once (Map words)) = (found.0 ≡ codes "map") × NamesMap found.1 words
NamesPlain found (Once (Rehearse words)) = (found.0 ≡ codes "rehearse") × NamesRehearse found.1 words
NamesPlain found (Once (Suite words)) = (found.0 ≡ codes "suite") × NamesSuite found.1 words
NamesPlain found (OnNode own) = ⊥
NamesPlain found (Live words) = (found.0 ≡ codes "live") × NamesLive found.1 words
NamesPlain found (Printed text) = ⊥

-- the work is the job, or the job for the node of the file that its matches name. They leave to that file what it says
abbrev pub IsNodeJobOf : Job → List Row → Work → Type 0
IsNodeJobOf job rows (Once own) = (own ≡ job) × (own_file job rows ≡ None)
IsNodeJobOf job rows (OnNode own) =
    (own.job ≡ job) × (own_file job rows ≡ Some (string_bytes own.node)) × (are_left rows ≡ true)
IsNodeJobOf job rows (Live words) = ⊥
IsNodeJobOf job rows (Printed text) = ⊥

-- the work is that of the subcommand with its matches, whatever of it is standard input
abbrev pub NamesPlaced : Option (Text × List Row) → Work → Type 0
NamesPlaced None work = ⊥
NamesPlaced (Some found) (Once job) = NamesPlain found (Once job) × IsNodeJobOf job found.1 (Once job)
NamesPlaced (Some found) (OnNode own) = NamesPlain found (Once own.job) × IsNodeJobOf own.job found.1 (OnNode own)
NamesPlaced (Some found) (Live words) = NamesPlain found (Live words)
NamesPlaced (Some found) (Printed text) = ⊥

-- the work is that of the subcommand with its matches, and no two of its files are standard input
abbrev pub Names : Option (Text × List Row) → Work → Type 0
Names found work = NamesPlaced found work × (reads_input_twice work ≡ false)

-- what is printed of a refusal by clap of this kind
abbrev pub ReportsRefusal : ErrorKind → UsageFault → Type 0
ReportsRefusal kind Memory = Unit {0}
ReportsRefusal kind BadOption = ⊥
ReportsRefusal kind (Parse text) = kind ≢ OutOfMemory

-- the subcommand of this word lacks a file that must be given, or has words of no packet. Or it has an option or a code
-- with a value that it may not have
abbrev pub SpoilsPlain : SubcommandWord → List Row → Type 0
SpoilsPlain word.Asm rows = (first_of (codes "text") rows ≡ None) ⊎ (first_of (codes "image") rows ≡ None)
SpoilsPlain word.Dis rows = first_of (codes "image") rows ≡ None
SpoilsPlain word.Verify rows = SpoilsImage rows
SpoilsPlain word.Judge rows = SpoilsNodeLines rows
SpoilsPlain word.Policy rows = SpoilsPolicy rows
SpoilsPlain word.Serve rows = SpoilsNodeLines rows
SpoilsPlain word.Sim rows = SpoilsNodeLines rows
SpoilsPlain word.Live rows = SpoilsLive rows
SpoilsPlain word.Explain rows = SpoilsExplain rows
SpoilsPlain word.Why rows = SpoilsImage rows
SpoilsPlain word.Weigh rows = SpoilsWeigh rows
SpoilsPlain word.Node rows = first_of (codes "node") rows ≡ None
SpoilsPlain word.Packet rows = SpoilsPacket rows
SpoilsPlain word.Show rows = first_of (codes "lines") rows ≡ None
SpoilsPlain word.Decide rows = SpoilsDecide rows
SpoilsPlain word.Trace rows = SpoilsNodeLines rows
SpoilsPlain word.Compare rows = SpoilsCompare rows
SpoilsPlain word.Map rows = SpoilsMap rows
SpoilsPlain word.Rehearse rows = SpoilsRehearse rows
SpoilsPlain word.Suite rows = SpoilsSuite rows

-- a node's file is named, beside an option that says what the file says
abbrev pub SpoilsNodeFile : List Row → Type 0
SpoilsNodeFile rows = (lacks (codes "node") rows ≡ false) × (are_left rows ≡ false)

-- the work of the subcommand of this word would read standard input for two of its files
pub record SpoilsInput (named : SubcommandWord) (rows : List Row) : Type 0 where
  pub work : Work
  pub names : NamesPlaced (Some (name_of_word named, rows)) work
  pub twice : reads_input_twice work ≡ true

-- the one or the other
abbrev pub SpoilsPlaced : SubcommandWord → List Row → Type 0
SpoilsPlaced named rows = SpoilsPlain named rows ⊎ SpoilsNodeFile rows

-- the same, or standard input is named for two files
abbrev pub Spoils : SubcommandWord → List Row → Type 0
Spoils named rows = SpoilsPlaced named rows ⊎ SpoilsInput named rows

-- so does the subcommand with its matches
abbrev pub IsSpoiled : Text × List Row → Type 0
IsSpoiled found = (named : SubcommandWord) → found.0 ≡ name_of_word named → Spoils named found.1

-- clap found no subcommand, or one without what it needs
abbrev pub IsIncomplete : Option (Text × List Row) → Type 0
IsIncomplete None = Unit {0}
IsIncomplete (Some found) = IsSpoiled found

-- the matches of the subcommand of this word name no job and no talk, or memory was refused
abbrev pub RefusesPlain : SubcommandWord → List Row → UsageFault → Type 0
RefusesPlain named rows Memory = Unit {0}
RefusesPlain named rows BadOption = SpoilsPlain named rows
RefusesPlain named rows (Parse text) = ⊥

-- the matches name a node's file beside an option that says what the file says, or memory was refused
abbrev pub RefusesNodeFile : List Row → UsageFault → Type 0
RefusesNodeFile rows Memory = Unit {0}
RefusesNodeFile rows BadOption = SpoilsNodeFile rows
RefusesNodeFile rows (Parse text) = ⊥

-- the same of one or the other
abbrev pub RefusesPlaced : SubcommandWord → List Row → UsageFault → Type 0
RefusesPlaced named rows Memory = Unit {0}
RefusesPlaced named rows BadOption = SpoilsPlaced named rows
RefusesPlaced named rows (Parse text) = ⊥

-- the matches of the subcommand of this word name no work, or memory was refused
abbrev pub RefusesMatches : SubcommandWord → List Row → UsageFault → Type 0
RefusesMatches named rows Memory = Unit {0}
RefusesMatches named rows BadOption = Spoils named rows
RefusesMatches named rows (Parse text) = ⊥

-- the matches name no work, or memory was refused
abbrev pub LacksWork : Option (Text × List Row) → UsageFault → Type 0
LacksWork found Memory = Unit {0}
LacksWork found BadOption = IsIncomplete found
LacksWork found (Parse text) = ⊥

-- clap takes the words: its definition finds no fault in them
abbrev pub AreWordsTaken : List Text → Type 0
AreWordsTaken words = fault_of rmapctl_app words ≡ []

-- the words name the work: clap takes them, and the subcommand that it finds names it
abbrev pub NamesWork : List Text → Work → Type 0
NamesWork words work = AreWordsTaken words × Names (subcommand_in words) work

-- the words name no work: clap refuses them, or takes them and what it finds is incomplete, or memory was refused
abbrev pub NamesNone : List Text → UsageFault → Type 0
NamesNone words Memory = Unit {0}
NamesNone words BadOption = AreWordsTaken words × IsIncomplete (subcommand_in words)
NamesNone words (Parse text) = ¬ AreWordsTaken words

-- the words begin with `help`
abbrev pub ask_help : List Text → Bool
ask_help [] = false
ask_help (first ∷ others) = bytes_eq first (codes "help")

-- the words ask for a text, and name no work: they begin with `help`, or clap refuses them
abbrev pub AskText : List Text → Type 0
AskText words = (ask_help words ≡ true) ⊎ (¬ AreWordsTaken words)

-- words ask for the work that they name, or for a text if they name none
abbrev pub AsksFor : List Text → Work → Type 0
AsksFor words (Once job) = NamesWork words (Once job)
AsksFor words (OnNode own) = NamesWork words (OnNode own)
AsksFor words (Live talk) = NamesWork words (Live talk)
AsksFor words (Printed text) = AskText words

-- words ask for nothing: they name no work, or no text
abbrev pub AsksNone : List Text → UsageFault → Type 0
AsksNone words Memory = Unit {0}
AsksNone words BadOption = (ask_help words ≡ true) ⊎ NamesNone words BadOption
AsksNone words (Parse text) = AskText words

-- the words ask for a work that waits for standard input: a talk in lines, or any work if no word was given
abbrev pub waits : Work → (without_words : Bool) → Bool
waits (Live words) without_words = not words.frames || without_words
waits (Once job) without_words = without_words
waits (OnNode own) without_words = without_words
waits (Printed text) without_words = false
