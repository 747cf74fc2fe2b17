-- The quotas of a table that is flown, and the end of the header that has them.
use Rattle.std.specs.Prelude.{◌≡◌, ◌⊎◌, ℕ, Bool, ◌||◌, true, false, List, [], ◌∷◌, ◌++◌, length, Option, Some, None, codes, decimal}
use Rattle.std.specs.List.{flat_map}
use Rattle.std.specs.Str.{IsUtf8, bytes_eq}
use Rattle.bpf.specs.Program.{Program, image_bytes}
use Rattle.bver.specs.Justified.{AcceptedValue}
use Rattle.policy.specs.Compiled.{IsPortCompiled, IsPortFault}
use Rattle.policy_table.specs.Policies.{IsUnreadPolicy, PolicyValue, WritesPolicy, policy_fault}
use Rattle.policy_table.specs.TextFaults.{text_fault_of}
use Rattle.policy_table.specs.declared.port_rules.PortRule.{PortRule}
use Rattle.policy_table.specs.declared.rules.Quota.{Quota}
use Rattle.policy_table.specs.declared.text_faults.TextFault.{TextFault}
use Rattle.spw.specs.Line.{lines_of}
use Rattle.machine.specs.Sizes.{Maps}
use Rattle.job_config.specs.OwnNodes.{OwnNodeValue}
use Rattle.job_config.specs.Reads.{EndsForFault}
use Rattle.job_parts.specs.Files.{ReadsFile}
use Rattle.job_parts.specs.Reading.{TextUnread}
use Rattle.job_parts.specs.declared.faults.Fault.{Fault}
use Rattle.job_parts.specs.declared.faults.Fault.TheVariants.{BadTable, NoMemory}
use Rattle.job_parts.specs.declared.node_codes.NodeCode.TheVariants.{Program as NoImage}

-- ---- the quotas of a table

-- the quota of a rule, if it has one
abbrev pub quota_list : Option Quota → List Quota
quota_list None = []
quota_list (Some quota) = quota ∷ []

-- the quotas of rules, in their order
abbrev pub quotas_in : List PortRule → List Quota
quotas_in [] = []
quotas_in (own ∷ rules) = quota_list own.rule.quota ++ quotas_in rules

-- whether bytes are the image of a program
abbrev pub is_image : (image : List ℕ) → AcceptedValue → Bool
is_image image program = bytes_eq image (image_bytes program.program)

-- whether bytes are the image of a program that is published
abbrev pub is_published : (image : List ℕ) → List (ℕ × AcceptedValue) → Bool
is_published image [] = false
is_published image (publish ∷ publishes) = is_image image publish.1 || is_published image publishes

-- whether bytes are the image of the program that judges at first, or of one that is published
abbrev pub is_flown : (image : List ℕ) → (first : AcceptedValue) → List (ℕ × AcceptedValue) → Bool
is_flown image first publishes = is_image image first || is_published image publishes

-- why lines are no table that compiles for these maps: they are no table, or it has this fault, or memory was refused
abbrev pub IsTableFault : Maps → (lines : List (List ℕ)) → TextFault → Type 0
IsTableFault sizes lines fault =
    IsUnreadPolicy lines fault ⊎ ((policy : PolicyValue) × WritesPolicy lines policy × IsPortFault (policy_fault sizes policy) fault)

-- ---- where they come from

-- the text is that of a table that compiles to this program for the maps of the node
pub record HasTable (own : OwnNodeValue) (text : List ℕ) (policy : PolicyValue) (p : Program) : Type 0 where
  pub is_table : WritesPolicy (lines_of text) policy
  pub compiled : IsPortCompiled own.sizes policy p

-- the quotas are those of a table of which the node's file names the image
pub record AreQuotas (own : OwnNodeValue) (program : AcceptedValue) (text : List ℕ) (quotas : List Quota) : Type 0 where
  pub policy : PolicyValue
  pub compiled : Program
  pub table : HasTable own text policy compiled
  pub flown : is_flown (image_bytes compiled) program own.publishes ≡ true
  pub are : quotas ≡ quotas_in policy.rules

-- the text is that of such a table, of which the node's file does not name the image
pub record IsOtherTable (own : OwnNodeValue) (program : AcceptedValue) (text : List ℕ) : Type 0 where
  pub policy : PolicyValue
  pub compiled : Program
  pub table : HasTable own text policy compiled
  pub other : is_flown (image_bytes compiled) program own.publishes ≡ false

-- why a text has no quotas: its table has a fault, the node's file does not name its image, or memory was refused after the table
abbrev pub IsNoQuotas : OwnNodeValue → AcceptedValue → (text : List ℕ) → Fault → Type 0
IsNoQuotas own program text fault =
    ((found : TextFault) × (fault ≡ BadTable (text_fault_of found)) × IsTableFault own.sizes (lines_of text) found)
    ⊎ (EndsForFault (Some NoImage) fault × IsOtherTable own program text)
    ⊎ ((fault ≡ NoMemory) × (policy : PolicyValue) × (p : Program) × HasTable own text policy p)

-- the quotas of the text of a table, if there is one
abbrev pub AreQuotasOf : OwnNodeValue → AcceptedValue → (text : Option (List ℕ)) → Option (List Quota) → Type 0
AreQuotasOf own program None quotas = quotas ≡ None
AreQuotasOf own program (Some text) None = ⊥
AreQuotasOf own program (Some text) (Some quotas) = AreQuotas own program text quotas

-- the same, why there are none
abbrev pub AreNotAsked : OwnNodeValue → AcceptedValue → (text : Option (List ℕ)) → Fault → Type 0
AreNotAsked own program None fault = ⊥
AreNotAsked own program (Some text) fault = IsNoQuotas own program text fault

module _ {S : Type 0} (reads : ReadsFile S) where
  -- the file of the table was read, and gave UTF-8
  pub record ReadsTable (name : List ℕ) (before : S) (text : List ℕ) (after : S) : Type 0 where
    pub read : reads before name (Some text) after
    pub utf8 : IsUtf8 text

  -- so was that which is named, if one is
  abbrev pub ReadsAsked : (name : Option (List ℕ)) → (before : S) → (text : Option (List ℕ)) → (after : S) → Type 0
  ReadsAsked None before text after = (text ≡ None) × (after ≡ before)
  ReadsAsked (Some name) before None after = ⊥
  ReadsAsked (Some name) before (Some text) after = ReadsTable name before text after

  -- the file that is named gives no text
  abbrev pub ReadsNotAsked : (name : Option (List ℕ)) → (before : S) → Fault → (after : S) → Type 0
  ReadsNotAsked None before fault after = ⊥
  ReadsNotAsked (Some name) before fault after = TextUnread reads before name after fault

-- ---- what is printed of them

-- the line of a quota
abbrev pub quota_line : Quota → List ℕ
quota_line quota =
    codes "quota map " ++ decimal quota.map ++ codes " cell " ++ decimal quota.cell ++ codes " limit " ++ decimal quota.limit
    ++ 10 ∷ []

-- its row in C
abbrev pub quota_row : Quota → List ℕ
quota_row quota =
    codes "  {" ++ decimal quota.map ++ codes ", " ++ decimal quota.cell ++ codes ", " ++ decimal quota.limit ++ codes "}," ++ 10 ∷ []

-- the rows; an array of C is not empty: for no quotas there is one of zeros
abbrev pub quota_rows : List Quota → List ℕ
quota_rows [] = codes "  {0, 0, 0}," ++ 10 ∷ []
quota_rows (quota ∷ quotas) = flat_map quota_row (quota ∷ quotas)

-- the line before the rows
unfoldable pub quotas_head : List ℕ
quotas_head =
    codes "static const struct { uint8_t map; uint16_t cell; uint64_t limit; } node_quotas[] = {" ++ 10 ∷ []

-- how many there are, and the array of them
abbrev pub c_quotas : List Quota → List ℕ
c_quotas quotas =
    codes "#define NODE_QUOTAS " ++ decimal (length quotas) ++ 10 ∷ 10 ∷ [] ++ quotas_head ++ quota_rows quotas
    ++ codes "};\n"

-- those of a table, if one was named
abbrev pub c_asked : Option (List Quota) → List ℕ
c_asked None = []
c_asked (Some quotas) = c_quotas quotas

-- the lines of the quotas of a table, if one was named
abbrev pub lines_asked : Option (List Quota) → List ℕ
lines_asked None = []
lines_asked (Some quotas) = flat_map quota_line quotas

-- the end of a header: the bytes of the pool, and the quotas
abbrev pub header_end : (pool : ℕ) → Option (List Quota) → List ℕ
header_end pool quotas =
    10 ∷ codes "#define NODE_POOL_BYTES " ++ decimal pool ++ 10 ∷ [] ++ c_asked quotas ++ codes "\n#endif\n"
