-- The table whose image programs of a node are.
use Rattle.std.specs.Prelude.{◌≡◌, ◌≢◌, ◌⊎◌, ℕ, List, All, Option, Some, None, string_bytes}
use Rattle.std.specs.Str.{IsUtf8}
use Rattle.bpf.specs.Program.{Program, image_bytes}
use Rattle.job_config.specs.Reads.{EndsForFault}
use Rattle.job_parts.specs.Files.{ReadsFile}
use Rattle.job_parts.specs.Reading.{TextUnread}
use Rattle.job_parts.specs.declared.faults.Fault.{Fault}
use Rattle.job_parts.specs.declared.faults.Fault.TheVariants.{BadTable, NoMemory}
use Rattle.job_parts.specs.declared.node_codes.NodeCode.TheVariants.{Program as NoImage}
use Rattle.machine.specs.Sizes.{Maps}
use Rattle.policy.specs.Compiled.{IsPortCompiled, IsPortFault}
use Rattle.policy_table.specs.Policies.{IsUnreadPolicy, PolicyValue, WritesPolicy, policy_fault}
use Rattle.policy_table.specs.TextFaults.{text_fault_of}
use Rattle.policy_table.specs.declared.text_faults.TextFault.{TextFault}
use Rattle.spw.specs.Line.{lines_of}
use Rattle.job_suite.specs.Judges.{judge_of}
use Rattle.job_suite.specs.declared.judges.Judges.{Judges}
use Rattle.job_suite.specs.declared.words.TableWord.{TableWord}

-- the text is that of a table that compiles to this program on these maps
pub record HasSlotTable (sizes : Maps) (text : List ℕ) (policy : PolicyValue) (p : Program) : Type 0 where
  pub is_table : WritesPolicy (lines_of text) policy
  pub compiled : IsPortCompiled sizes policy p

-- the program of the slot is that image
abbrev pub IsSlotImage : Judges → (image : List ℕ) → (slot : ℕ) → Type 0
IsSlotImage judges image slot = image_bytes (judge_of judges slot).program ≡ image

-- the program of each of these slots is the image of the table that the text writes
pub record AreSlotTables (judges : Judges) (sizes : Maps) (slots : List ℕ) (text : List ℕ) (policy : PolicyValue) : Type 0 where
  pub compiled : Program
  pub table : HasSlotTable sizes text policy compiled
  pub images : All (IsSlotImage judges (image_bytes compiled)) slots

-- the text is that of such a table, and the program of one of the slots is not its image
pub record IsTableOfOtherImage (judges : Judges) (sizes : Maps) (slots : List ℕ) (text : List ℕ) : Type 0 where
  pub policy : PolicyValue
  pub compiled : Program
  pub table : HasSlotTable sizes text policy compiled
  pub other : ¬ All (IsSlotImage judges (image_bytes compiled)) slots

-- why lines are no table that compiles for these maps: they are no table, or it has this fault
abbrev pub IsSuiteTableFault : Maps → (lines : List (List ℕ)) → TextFault → Type 0
IsSuiteTableFault sizes lines fault =
    IsUnreadPolicy lines fault ⊎ ((policy : PolicyValue) × WritesPolicy lines policy × IsPortFault (policy_fault sizes policy) fault)

-- why a text is no table of these slots: it has a fault, the program of one is not its image, or memory was refused
-- after the table
abbrev pub IsNoTableOf : Judges → Maps → (slots text : List ℕ) → Fault → Type 0
IsNoTableOf judges sizes slots text fault =
    ((found : TextFault) × (fault ≡ BadTable (text_fault_of found)) × IsSuiteTableFault sizes (lines_of text) found)
    ⊎ (EndsForFault (Some NoImage) fault × IsTableOfOtherImage judges sizes slots text)
    ⊎ ((fault ≡ NoMemory) × (policy : PolicyValue) × (p : Program) × HasSlotTable sizes text policy p)

-- the text is that of the table that is named, if one is
abbrev pub AreTableOf : Judges → Maps → Option TableWord → (text : Option (List ℕ)) → Type 0
AreTableOf judges sizes None text = Unit {0}
AreTableOf judges sizes (Some word) None = Unit {0}
AreTableOf judges sizes (Some word) (Some text) = (policy : PolicyValue) × AreSlotTables judges sizes word.slots.items text policy

-- it is not, or memory was refused
abbrev pub HasNoChart : Judges → Maps → Option TableWord → (text : Option (List ℕ)) → Fault → Type 0
HasNoChart judges sizes None text fault = ⊥
HasNoChart judges sizes (Some word) None fault = ⊥
HasNoChart judges sizes (Some word) (Some text) fault = IsNoTableOf judges sizes word.slots.items text fault

module _ {S : Type 0} (reads : ReadsFile S) where
  -- the file of the table was read, and gave UTF-8
  pub record ReadsTableFile (name : List ℕ) (before : S) (text : List ℕ) (after : S) : Type 0 where
    pub read : reads before name (Some text) after
    pub utf8 : IsUtf8 text

  -- so was the one that is named, if one is
  abbrev pub ReadsSuiteTable : (name : Option (List ℕ)) → (before : S) → (text : Option (List ℕ)) → (after : S) → Type 0
  ReadsSuiteTable None before text after = (text ≡ None) × (after ≡ before)
  ReadsSuiteTable (Some name) before None after = ⊥
  ReadsSuiteTable (Some name) before (Some text) after = ReadsTableFile name before text after

  -- the file that is named gives no text
  abbrev pub LacksSuiteTable : (name : Option (List ℕ)) → (before : S) → Fault → (after : S) → Type 0
  LacksSuiteTable None before fault after = ⊥
  LacksSuiteTable (Some name) before fault after = TextUnread reads before name after fault
