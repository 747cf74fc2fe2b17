-- What the job `suite` does.
use Rattle.std.specs.Prelude.{◌≡◌, ◌⊎◌, ℕ, List, [], Option, Some, None, false, option_map, string_bytes}
use Rattle.std.specs.Io.KnownBytes.{Appends}
use Rattle.bver.specs.Justified.{AcceptedValue}
use Rattle.machine.specs.Sizes.{listed_maps}
use Rattle.node_parts.specs.Nodes.{windows_of}
use Rattle.job_config.specs.OwnNodes.{OwnNodeValue, plain_node}
use Rattle.job_config.specs.Reads.{ReadsNoNode, ReadsNode}
use Rattle.job_parts.specs.Factory.{factory}
use Rattle.job_parts.specs.Files.{ReadsFile}
use Rattle.job_parts.specs.declared.faults.Fault.{Fault}
use Rattle.job_parts.specs.declared.faults.Fault.TheVariants.{NoMemory}
use Rattle.job_suite.specs.Judges.{AreJudges}
use Rattle.job_suite.specs.SuiteJob.{name_of_table}
use Rattle.job_suite.specs.Tables.{AreTableOf, HasNoChart, ReadsSuiteTable, LacksSuiteTable}
use Rattle.job_suite.specs.Trials.{AreTrials, trial_lines_of}
use Rattle.job_suite.specs.declared.trials.Bench.{Bench}
use Rattle.job_suite.specs.declared.trials.Trial.{Trial}
use Rattle.job_suite.specs.declared.words.SuiteWords.{SuiteWords}

-- the node of which no file says anything, with one port and no maps, and the factory program
pub record IsSuitePlainNode (own : OwnNodeValue) (first : AcceptedValue) : Type 0 where
  pub node : own ≡ plain_node 1 (listed_maps [])
  pub program : first.program ≡ factory

-- what the suite is for: the node, the program that judges in all its slots at first, and where memory may change by
-- the words
pub record IsBench (words : SuiteWords) (own : OwnNodeValue) (first : AcceptedValue) (b : Bench) : Type 0 where
  pub windows : b.windows ≡ windows_of own.address own.banks
  pub judges : AreJudges own first b.judges
  pub ranges : b.ranges.items ≡ words.within.items
  pub loads : b.loads ≡ words.loads

-- the text has the packet lines of packets each of which meets its row; or it is that of an index
pub record IsSuiteText (words : SuiteWords) (bench : Bench) (text : List ℕ) : Type 0 where
  pub trials : List Trial
  pub are_trials : AreTrials bench trials
  pub lines : words.index ≡ false → text ≡ trial_lines_of trials

module _ {S : Type 0} (reads : ReadsFile S) where
  -- the node is the plain one, or that of the file of this name
  abbrev pub HoldsSuiteNode : Option (List ℕ) → (before : S) → OwnNodeValue → AcceptedValue → (after : S) → Type 0
  HoldsSuiteNode None before own first after = IsSuitePlainNode own first × (after ≡ before)
  HoldsSuiteNode (Some name) before own first after = ReadsNode reads name before own first after

  -- there is no such node: memory was refused, or the file says none
  abbrev pub HoldsNoSuiteNode : Option (List ℕ) → (before after : S) → Fault → Type 0
  HoldsNoSuiteNode None before after fault = (fault ≡ NoMemory) × (after ≡ before)
  HoldsNoSuiteNode (Some name) before after fault = ReadsNoNode reads name before fault after

  -- the table was read, if one is named, and then the node
  pub record HoldsTableAndNode (words : SuiteWords) (before : S) (table : Option (List ℕ)) (own : OwnNodeValue) (first : AcceptedValue)
      (bench : Bench) (after : S) : Type 0 where
    pub middle : S
    pub read : ReadsSuiteTable reads (name_of_table words.table) before table middle
    pub held : HoldsSuiteNode (option_map string_bytes words.node) middle own first after
    pub is_bench : IsBench words own first bench

  -- the suite of the node was printed
  pub record PrintsSuite (words : SuiteWords) (before after : S) (old new : Option (List ℕ)) : Type 0 where
    pub own : OwnNodeValue
    pub first : AcceptedValue
    pub bench : Bench
    pub table : Option (List ℕ)
    pub held : HoldsTableAndNode words before table own first bench after
    pub of_table : AreTableOf bench.judges bench.judges.own.sizes words.table table
    pub text : List ℕ
    pub is_text : IsSuiteText words bench text
    pub printed : Appends old new text

  -- the table's file was read, if one is named, and there is no node
  pub record HasNoNode (words : SuiteWords) (before after : S) (fault : Fault) : Type 0 where
    pub table : Option (List ℕ)
    pub middle : S
    pub read : ReadsSuiteTable reads (name_of_table words.table) before table middle
    pub none : HoldsNoSuiteNode (option_map string_bytes words.node) middle after fault

  -- the node was read, and the table is that of none of its programs
  pub record HasNoTable (words : SuiteWords) (before after : S) (fault : Fault) : Type 0 where
    pub own : OwnNodeValue
    pub first : AcceptedValue
    pub bench : Bench
    pub table : Option (List ℕ)
    pub held : HoldsTableAndNode words before table own first bench after
    pub none : HasNoChart bench.judges bench.judges.own.sizes words.table table fault

  -- both were read, and memory was refused after that
  pub record IsUnprinted (words : SuiteWords) (before after : S) (fault : Fault) : Type 0 where
    pub own : OwnNodeValue
    pub first : AcceptedValue
    pub table : Option (List ℕ)
    pub middle : S
    pub read : ReadsSuiteTable reads (name_of_table words.table) before table middle
    pub held : HoldsSuiteNode (option_map string_bytes words.node) middle own first after
    pub no_memory : fault ≡ NoMemory

  -- there is no suite: the table's file gives no text, there is no node, the table is that of none of its programs, or
  -- memory was refused
  abbrev pub IsNoSuite : SuiteWords → (before after : S) → Fault → Type 0
  IsNoSuite words before after fault =
      LacksSuiteTable reads (name_of_table words.table) before fault after ⊎ HasNoNode words before after fault
      ⊎ HasNoTable words before after fault ⊎ IsUnprinted words before after fault
