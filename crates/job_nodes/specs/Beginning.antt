-- Where the schedules of a node begin: after no event.
use Rattle.std.specs.Prelude.{◌≡◌, ◌⊎◌, ℕ, List, [], ◌∷◌, ◌++◌, map, Option, None, Some, MatchOption, codes, string_bytes}
use Rattle.std.specs.Io.KnownBytes.{Appends}
use Rattle.std.specs.List.{All}
use Rattle.std.specs.Str.{IsUtf8}
use Rattle.bver.specs.Justified.{AcceptedValue, IsJustified}
use Rattle.bpf.specs.Program.{Program}
use Rattle.machine.specs.Runs.{IsSafe}
use Rattle.sched.specs.Firsts.{slot_with_program}
use Rattle.sched.specs.History.{Start}
use Rattle.sched.specs.Looking.{Node}
use Rattle.sched.specs.Worlds.{IsWorldOf, WorldValue}
use Rattle.job_config.specs.OwnNodes.{OwnNodeValue, own_bank}
use Rattle.job_config.specs.Reads.{ReadsNoNode, ReadsNode}
use Rattle.job_config.specs.declared.own_node.TheConstants.{NODE_ADDRESS}
use Rattle.job_config.specs.declared.node_lines.NodeLines.{NodeLines}
use Rattle.job_config.specs.declared.sources.NodeSource.{NodeSource}
use Rattle.job_config.specs.declared.sources.NodeSource.TheVariants.{File, Words}
use Rattle.job_parts.specs.Files.{ReadsFile}
use Rattle.job_parts.specs.Given.{HoldsProgram}
use Rattle.job_parts.specs.Options.{image_name}
use Rattle.job_parts.specs.Reading.{TextUnread}
use Rattle.job_parts.specs.declared.faults.Fault.{Fault}
use Rattle.job_parts.specs.declared.options.NodeWords.{NodeWords}
use Rattle.job_nodes.specs.Sources.{IsFileUnmade, IsNoPlainNode}

-- the node of these words, with that factory program: logical address FE, and the one bank that the jobs have
abbrev pub node_by : NodeWords → Program → Node
node_by words program = record {
  address = NODE_ADDRESS;
  ports = words.ports;
  banks = own_bank ∷ [];
  sizes = words.sizes;
  factory = program;
  firsts = [];
}

-- the node of that configuration, with that factory program, and with its programs published before the first event
abbrev pub own_schedule : OwnNodeValue → Program → Node
own_schedule own program = record {
  address = own.address;
  ports = own.ports;
  banks = own.banks;
  sizes = own.sizes;
  factory = program;
  firsts = map slot_with_program own.publishes;
}

-- ---- from words or a file

-- each bank begins with zeros, for which no bytes are given
abbrev pub AreEmpty : List (List ℕ) → Type 0
AreEmpty contents = All (λ (bytes : List ℕ). bytes ≡ []) contents

-- the world is that of a node with this property, after no event
pub record IsBegunWorld (begins : Node → Type 0) (world : WorldValue) : Type 0 where
  pub node : Node
  pub begun : begins node
  pub is_world : IsWorldOf node Start world

module _ {S : Type 0} (reads : ReadsFile S) where
  -- the node is that of these words, with the program that its files give, which is justified on it, and so
  -- safe
  pub record IsPlainBeginning (words : NodeWords) (before : S) (n : Node) (after : S) : Type 0 where
    pub program : AcceptedValue
    pub given : HoldsProgram reads before (image_name words) program.program after
    pub justified : IsJustified program.program words.sizes
    pub safe : IsSafe program.program words.sizes
    pub node : n ≡ node_by words program.program

  -- the node is that of the node's file of this name, whose banks begin with zeros, with the programs that the file publishes
  pub record IsFileBeginning (name : List ℕ) (before : S) (n : Node) (after : S) : Type 0 where
    pub own : OwnNodeValue
    pub program : AcceptedValue
    pub read : ReadsNode reads name before own program after
    pub zeros : AreEmpty own.contents
    pub node : n ≡ own_schedule own program.program

  -- the schedules of the words or of the file are those of this node
  abbrev pub BeginsSchedules : NodeSource → (before : S) → Node → (after : S) → Type 0
  BeginsSchedules (Words words) before n after = IsPlainBeginning words before n after
  BeginsSchedules (File name) before n after = IsFileBeginning (string_bytes name) before n after

  -- the world is that of such a node after no event
  abbrev pub HoldsWorld : NodeSource → (before : S) → WorldValue → (after : S) → Type 0
  HoldsWorld source before world after =
      IsBegunWorld (λ (n : Node). BeginsSchedules source before n after) world

  -- a bank of the node of the file begins with bytes
  pub record BeginsWithBytes (name : List ℕ) (before after : S) : Type 0 where
    pub own : OwnNodeValue
    pub program : AcceptedValue
    pub read : ReadsNode reads name before own program after
    pub bytes : ¬ AreEmpty own.contents

  -- the same of words or a file: words say no bytes
  abbrev pub HasContents : NodeSource → (before after : S) → Type 0
  HasContents (Words words) before after = ⊥
  HasContents (File name) before after = BeginsWithBytes (string_bytes name) before after

  -- there is no world of the node's file of this name: it says no node, or memory was refused to it
  abbrev pub IsNoFileWorld : (name : List ℕ) → (before after : S) → Fault → Type 0
  IsNoFileWorld name before after fault =
      ReadsNoNode reads name before fault after ⊎ IsFileUnmade reads name before after fault

  -- there is no world of the words or of the file
  abbrev pub GivesNoWorld : NodeSource → (before after : S) → Fault → Type 0
  GivesNoWorld (Words words) before after fault = IsNoPlainNode reads words before after fault
  GivesNoWorld (File name) before after fault = IsNoFileWorld (string_bytes name) before after fault

-- ---- with the lines of a schedule

module _ {S : Type 0} (reads : ReadsFile S) (args : NodeLines) where
  -- the text is that of the file of lines, which is UTF-8, and after it the world of these arguments was made. Or there
  -- is none, since a bank begins with bytes
  pub record GivesSchedule (before : S) (text : List ℕ) (made : Option WorldValue) (after : S) : Type 0 where
    pub between : S
    pub read : reads before (string_bytes args.lines) (Some text) between
    pub utf8 : IsUtf8 text
    pub given : MatchOption made (HasContents reads args.node between after)
        (λ (world : WorldValue). HoldsWorld reads args.node between world after)

  -- the lines were read, and are UTF-8, but there is no world
  pub record WorldUnread (before after : S) (fault : Fault) : Type 0 where
    pub text : List ℕ
    pub between : S
    pub read : reads before (string_bytes args.lines) (Some text) between
    pub utf8 : IsUtf8 text
    pub no_world : GivesNoWorld reads args.node between after fault

  -- lines or world cannot be read
  abbrev pub IsUnscheduled : (before after : S) → Fault → Type 0
  IsUnscheduled before after fault =
      TextUnread reads before (string_bytes args.lines) after fault ⊎ WorldUnread before after fault

  -- the lines are those of the text, and their events those of that node, from its beginning on
  pub record IsScheduled (before : S) (text : List ℕ) (n : Node) (after : S) : Type 0 where
    pub between : S
    pub read : reads before (string_bytes args.lines) (Some text) between
    pub utf8 : IsUtf8 text
    pub begins : BeginsSchedules reads args.node between n after

  -- lines and node were read, and a bank begins with bytes, which was refused: nothing was printed
  pub record RefusesContents (before after : S) (old new : Option (List ℕ)) : Type 0 where
    pub text : List ℕ
    pub between : S
    pub read : reads before (string_bytes args.lines) (Some text) between
    pub utf8 : IsUtf8 text
    pub contents : HasContents reads args.node between after
    pub silent : new ≡ old
