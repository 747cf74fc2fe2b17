-- What the job `node` reads and prints.
use Rattle.std.specs.Prelude.{◌≡◌, ◌⊎◌, ℕ, Bool, true, false, List, ◌++◌, Option, option_map, string_bytes}
use Rattle.std.specs.Io.KnownBytes.{Appends}
use Rattle.bver.specs.Justified.{AcceptedValue}
use Rattle.policy_table.specs.declared.rules.Quota.{Quota}
use Rattle.job_config.specs.OwnNodes.{OwnNodeValue}
use Rattle.job_config.specs.Reads.{ReadsNoNode, ReadsNode}
use Rattle.job_parts.specs.Files.{ReadsFile}
use Rattle.job_parts.specs.declared.faults.Fault.{Fault}
use Rattle.job_parts.specs.declared.faults.Fault.TheVariants.{NoMemory}
use Rattle.job_node_file.specs.Headers.{IsHeader}
use Rattle.job_node_file.specs.Quotas.{AreQuotasOf, AreNotAsked, ReadsAsked, ReadsNotAsked, lines_asked}
use Rattle.job_node_file.specs.declared.node_file.NodeFileWords.{NodeFileWords}

-- the text of a node: its header is exactly that of the node, and its lines end in the quotas of its table
abbrev pub HasEnd : (header : Bool) → OwnNodeValue → AcceptedValue → Option (List Quota) → (text : List ℕ) → Type 0
HasEnd true own program quotas text = IsHeader own program quotas text
HasEnd false own program quotas text = (begun : List ℕ) × (text ≡ begun ++ lines_asked quotas)

-- the name of the table's file, if there is one
abbrev pub table_name_of : NodeFileWords → Option (List ℕ)
table_name_of words = option_map string_bytes words.table

module _ {S : Type 0} (reads : ReadsFile S) where
  -- the table that is named was read, the node's file is that of a node and of a program, and the node flies the table.
  -- A text was printed that ends in what is reckoned of them
  pub record PrintsNodeFile (words : NodeFileWords) (before after : S) (old new : Option (List ℕ)) : Type 0 where
    pub own : OwnNodeValue
    pub program : AcceptedValue
    pub between : S
    pub table : Option (List ℕ)
    pub asked : ReadsAsked reads (table_name_of words) before table between
    pub read : ReadsNode reads (string_bytes words.node) between own program after
    pub quotas : Option (List Quota)
    pub held : AreQuotasOf own program table quotas
    pub text : List ℕ
    pub end : HasEnd words.header own program quotas text
    pub printed : Appends old new text

  -- there is a node of the node's file, and there are no quotas; or there are, and memory was refused to the text
  abbrev pub IsNotEnded : OwnNodeValue → AcceptedValue → (table : Option (List ℕ)) → Fault → Type 0
  IsNotEnded own program table fault =
      AreNotAsked own program table fault
      ⊎ ((quotas : Option (List Quota)) × AreQuotasOf own program table quotas × (fault ≡ NoMemory))

  -- the table that is named gives no text; or there is no node of the node's file; or no text of it
  abbrev pub HasNoText : NodeFileWords → (before after : S) → Fault → Type 0
  HasNoText words before after fault =
      ReadsNotAsked reads (table_name_of words) before fault after
      ⊎ ((between : S) × (table : Option (List ℕ)) × ReadsAsked reads (table_name_of words) before table between
      × (ReadsNoNode reads (string_bytes words.node) between fault after
      ⊎ ((own : OwnNodeValue) × (program : AcceptedValue)
      × ReadsNode reads (string_bytes words.node) between own program after × IsNotEnded own program table fault)))
