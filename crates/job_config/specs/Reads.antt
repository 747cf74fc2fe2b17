-- The node of a node's file, with the contents of the files beside it.
use Rattle.std.specs.Prelude.{◌≡◌, ◌≤◌, ◌+◌, ◌⊎◌, ℕ, List, [], ◌∷◌, length, Option, None, Some, Ok}
use Rattle.std.specs.Str.{IsUtf8}
use Rattle.bver.specs.Justified.{AcceptedValue, IsJustified}
use Rattle.machine.specs.Runs.{IsSafe}
use Rattle.node_parts.specs.declared.config.BankConfig.{BankConfig}
use Rattle.rmap.specs.declared.boot.TheConstants.{STAGING_SIZE}
use Rattle.toml.specs.Data.{Data, Items, no_items, item, Members}
use Rattle.toml.specs.Parse.{parse_document}
use Rattle.job_parts.specs.Files.{ReadsFile}
use Rattle.bpf.specs.Program.{IsProgram, image_bytes}
use Rattle.job_parts.specs.Factory.{factory}
use Rattle.job_parts.specs.Reading.{TextUnread}
use Rattle.job_parts.specs.declared.faults.Fault.{Fault}
use Rattle.job_parts.specs.declared.faults.Fault.TheVariants.{CannotRead, CannotWrite, NoMemory, Damaged, BadText, BadTable}
use Rattle.job_parts.specs.declared.faults.Fault.TheVariants.{BadImage, Refused, BadNode, BadLine}
use Rattle.job_parts.specs.declared.node_codes.NodeCode.{NodeCode}
use Rattle.job_parts.specs.declared.node_codes.NodeCode.TheVariants.{Text}
use Rattle.job_config.specs.Configured.{ConfigurationValue, IsBadConfiguration, IsConfiguration, configuration_at}
use Rattle.job_config.specs.Configured.{items_in, list_at, own_place, table_in}
use Rattle.job_config.specs.Faults.{code_of_fault}
use Rattle.job_config.specs.Names.{IsBeside, name_at}
use Rattle.job_config.specs.Numbers.{number_at_key}
use Rattle.job_config.specs.OwnNodes.{OwnNodeValue}
use Rattle.job_config.specs.Places.{place}
use Rattle.job_config.specs.declared.configuration.Configuration.{Configuration}
use Rattle.job_config.specs.declared.faults.ConfigFault.{ConfigFault}
use Rattle.job_config.specs.declared.faults.ConfigFault.TheVariants.{Memory}
use Rattle.job_config.specs.declared.places.TableKind.TheVariants.{Bank, Publish}
use Rattle.job_config.specs.declared.places.NameKey.TheVariants.{Contents, Program, Image}
use Rattle.job_config.specs.declared.places.NumberKey.TheVariants.{Slot}
use Rattle.job_config.specs.declared.places.TablePlace.{TablePlace}

-- the numbers of a node
abbrev pub node_numbers_of : OwnNodeValue → ConfigurationValue
node_numbers_of own = record { address = own.address; ports = own.ports; banks = own.banks; sizes = own.sizes }

-- why a text is no table: memory was refused, or it is no TOML
abbrev pub IsNoToml : (text : List ℕ) → ConfigFault → Type 0
IsNoToml text fault = (fault ≡ Memory) ⊎ ((parse_document text ≡ None) × (code_of_fault fault ≡ Some Text))

-- why a text is no configuration: memory was refused, or it is no TOML, or its table is none
abbrev pub IsBadText : (text : List ℕ) → ConfigFault → Type 0
IsBadText text fault =
    IsNoToml text fault ⊎ ((table : Members) × (parse_document text ≡ Some table) × IsBadConfiguration table fault)

-- what ends a job for that fault: its code is printed, except if memory was refused
abbrev pub EndsForFault : Option NodeCode → Fault → Type 0
EndsForFault None end = end ≡ NoMemory
EndsForFault (Some code) NoMemory = Unit {0}
EndsForFault (Some code) (BadNode reported place) = reported ≡ code
EndsForFault (Some code) (CannotRead name) = ⊥
EndsForFault (Some code) (CannotWrite name) = ⊥
EndsForFault (Some code) Damaged = ⊥
EndsForFault (Some code) (BadText fault) = ⊥
EndsForFault (Some code) (BadTable fault) = ⊥
EndsForFault (Some code) (BadImage fault) = ⊥
EndsForFault (Some code) (Refused refused) = ⊥
EndsForFault (Some code) (BadLine number fault) = ⊥

-- the job ends for a fault with this property
pub record EndsBySaid (end : Fault) (bad : ConfigFault → Type 0) : Type 0 where
  pub fault : ConfigFault
  pub is_bad : bad fault
  pub ends : EndsForFault (code_of_fault fault) end

module _ {S : Type 0} (reads : ReadsFile S) where
  -- these files were read in this order, and gave these bytes or none
  abbrev pub AreRead : List (List ℕ × Option (List ℕ)) → (before after : S) → Type 0
  AreRead [] before after = after ≡ before
  AreRead (r ∷ rs) before after = (middle : S) × reads before r.0 r.1 middle × AreRead rs middle after

  -- some files were read, and nothing else was done to files
  abbrev pub SomeRead : (before after : S) → Type 0
  SomeRead before after = (files : List (List ℕ × Option (List ℕ))) × AreRead files before after

  -- the text of the node's file is a configuration, and a file beside it cannot be used
  pub record IsBadBeside (text : List ℕ) (before : S) (fault : ConfigFault) (after : S) : Type 0 where
    pub table : Members
    pub numbers : ConfigurationValue
    pub is_table : parse_document text ≡ Some table
    pub configured : configuration_at table ≡ Ok numbers
    pub read : SomeRead before after

  -- why there is no node of a text: it is no configuration, or a file beside it cannot be used
  abbrev pub IsBadNode : (text : List ℕ) → (before : S) → ConfigFault → (after : S) → Type 0
  IsBadNode text before fault after = (IsBadText text fault × (after ≡ before)) ⊎ IsBadBeside text before fault after

module _ {S : Type 0} (reads : ReadsFile S) (file : List ℕ) where
  -- the file of that name beside the node's was read, and gave these bytes, at most `most`
  pub record HoldsBeside (name : List ℕ) (most : ℕ) (before : S) (bytes : List ℕ) (after : S) : Type 0 where
    pub path : List ℕ
    pub beside : IsBeside file name path
    pub read : reads before path (Some bytes) after
    pub short : length bytes ≤ most

  -- the bytes are those of the file of that name; no bytes if there is no name
  abbrev pub HoldsNamed : Option (List ℕ) → (most : ℕ) → (before : S) → (bytes : List ℕ) → (after : S) → Type 0
  HoldsNamed None most before bytes after = (bytes ≡ []) × (after ≡ before)
  HoldsNamed (Some name) most before bytes after = HoldsBeside name most before bytes after

  -- the bank of that size begins with these bytes, by its table
  pub record BeginsBank (at : TablePlace) (value : Data) (size : ℕ) (before : S) (bytes : List ℕ) (after : S) : Type 0 where
    pub table : Members
    pub name : Option (List ℕ)
    pub is_table : table_in value at ≡ Ok table
    pub named : name_at table at Contents ≡ Ok name
    pub held : HoldsNamed name size before bytes after

  -- each of the banks begins with these bytes, by its table, in this order; `number` banks come before them
  abbrev pub BeginWith : (number : ℕ) → Items → List BankConfig → (before : S) → List (List ℕ) → (after : S) → Type 0
  BeginWith number items [] before contents after = (contents ≡ []) × (after ≡ before)
  BeginWith number no_items (bank ∷ banks) before contents after = ⊥
  BeginWith number (item value items) (bank ∷ banks) before [] after = ⊥
  BeginWith number (item value items) (bank ∷ banks) before (bytes ∷ contents) after =
      (middle : S) × BeginsBank (place Bank number) value bank.size before bytes middle
      × BeginWith (number + 1) items banks middle contents after

  -- each of the banks begins with these bytes; the one bank of a file without banks with none
  abbrev pub HoldsContents : Option Items → List BankConfig → (before : S) → List (List ℕ) → (after : S) → Type 0
  HoldsContents None banks before contents after = (contents ≡ [] ∷ []) × (after ≡ before)
  HoldsContents (Some items) banks before contents after = BeginWith 0 items banks before contents after

  -- each of the banks of a table begins with these bytes
  pub record HoldsBanks (table : Members) (banks : List BankConfig) (before : S) (contents : List (List ℕ)) (after : S) :
      Type 0 where
    pub list : Option Items
    pub listed : list_at table Bank ≡ Ok list
    pub held : HoldsContents list banks before contents after

  -- the program is that of the image in the file of that name beside the node's, which has at most that number of
  -- bytes. It is justified on its maps, and so safe
  pub record HoldsProgramOf (name : List ℕ) (most : ℕ) (before : S) (program : AcceptedValue) (after : S) : Type 0 where
    pub bytes : List ℕ
    pub beside : HoldsBeside name most before bytes after
    pub spelled : bytes ≡ image_bytes program.program
    pub limits : IsProgram program.program
    pub justified : IsJustified program.program program.sizes
    pub safe : IsSafe program.program program.sizes

  -- the program of the image that a table names, for which the staging would have room
  pub record HoldsImageAt (at : TablePlace) (table : Members) (before : S) (program : AcceptedValue) (after : S) : Type 0 where
    pub name : List ℕ
    pub named : name_at table at Image ≡ Ok (Some name)
    pub held : HoldsProgramOf name STAGING_SIZE before program after

  -- the publish of a table: its slot, and the program of its image
  pub record HoldsPublish (at : TablePlace) (value : Data) (before : S) (publish : ℕ × AcceptedValue) (after : S) : Type 0 where
    pub table : Members
    pub is_table : table_in value at ≡ Ok table
    pub slot : number_at_key table at Slot 0 3 ≡ Ok publish.0
    pub image : HoldsImageAt at table before publish.1 after

  -- the publishes of a list of tables, in this order, after that number of them
  abbrev pub HoldPublishes : (number : ℕ) → Items → (before : S) → List (ℕ × AcceptedValue) → (after : S) → Type 0
  HoldPublishes number no_items before [] after = after ≡ before
  HoldPublishes number no_items before (publish ∷ publishes) after = ⊥
  HoldPublishes number (item value items) before [] after = ⊥
  HoldPublishes number (item value items) before (publish ∷ publishes) after =
      (middle : S) × HoldsPublish (place Publish number) value before publish middle
      × HoldPublishes (number + 1) items middle publishes after

  -- the publishes of a table
  pub record HoldsPublishes (table : Members) (before : S) (publishes : List (ℕ × AcceptedValue)) (after : S) : Type 0 where
    pub list : Option Items
    pub listed : list_at table Publish ≡ Ok list
    pub held : HoldPublishes 0 (items_in list) before publishes after

  -- the program is that of the file of this name, of whatever length, or the factory program
  abbrev pub HoldsFirstOf : Option (List ℕ) → (before : S) → AcceptedValue → (after : S) → Type 0
  HoldsFirstOf None before program after = (program.program ≡ factory) × (after ≡ before)
  HoldsFirstOf (Some name) before program after = (most : ℕ) × HoldsProgramOf name most before program after

  -- the program that judges in all slots at first is that of the file that the table names, or the factory program
  pub record HoldsFirst (table : Members) (before : S) (program : AcceptedValue) (after : S) : Type 0 where
    pub name : Option (List ℕ)
    pub named : name_at table own_place Program ≡ Ok name
    pub held : HoldsFirstOf name before program after
    pub justified : IsJustified program.program program.sizes
    pub safe : IsSafe program.program program.sizes

  -- the node of a table and of the files that it names, and the program that judges in all slots at first
  pub record HoldsParts (table : Members) (before : S) (own : OwnNodeValue) (program : AcceptedValue) (after : S) :
      Type 0 where
    pub filled : S
    pub judged : S
    pub configured : configuration_at table ≡ Ok (node_numbers_of own)
    pub banks : HoldsBanks table own.banks before own.contents filled
    pub first : HoldsFirst table filled program judged
    pub sizes : program.sizes ≡ own.sizes
    pub publishes : HoldsPublishes table judged own.publishes after

  -- the node of the node's file, and the program that judges in all slots at first; and files were read, and nothing
  -- else was done to them
  pub record ReadsNode (before : S) (own : OwnNodeValue) (program : AcceptedValue) (after : S) : Type 0 where
    pub text : List ℕ
    pub table : Members
    pub begun : S
    pub read : reads before file (Some text) begun
    pub utf8 : IsUtf8 text
    pub is_table : parse_document text ≡ Some table
    pub parts : HoldsParts table begun own program after
    pub only_reads : SomeRead reads before after

  -- the text of the node's file says that configuration; nothing else was read
  pub record ReadsConfiguration (before : S) (configuration : Configuration) (after : S) : Type 0 where
    pub text : List ℕ
    pub table : Members
    pub read : reads before file (Some text) after
    pub utf8 : IsUtf8 text
    pub is_table : parse_document text ≡ Some table
    pub configured : IsConfiguration table configuration

  -- the node's file was read, and says no configuration; nothing else was read
  pub record ReadsBadConfiguration (before : S) (end : Fault) (after : S) : Type 0 where
    pub text : List ℕ
    pub fault : ConfigFault
    pub read : reads before file (Some text) after
    pub utf8 : IsUtf8 text
    pub bad : IsBadText text fault
    pub ends : EndsForFault (code_of_fault fault) end

  -- the node's file says no configuration: it cannot be read, or it is bad
  abbrev pub ReadsNoConfiguration : (before : S) → Fault → (after : S) → Type 0
  ReadsNoConfiguration before end after =
      TextUnread reads before file after end ⊎ ReadsBadConfiguration before end after

  -- the node's file was read, and there is no node of it; and nothing else was done to files
  pub record ReadsBadNode (before : S) (end : Fault) (after : S) : Type 0 where
    pub text : List ℕ
    pub begun : S
    pub fault : ConfigFault
    pub read : reads before file (Some text) begun
    pub utf8 : IsUtf8 text
    pub bad : IsBadNode reads text begun fault after
    pub ends : EndsForFault (code_of_fault fault) end
    pub only_reads : SomeRead reads before after

  -- there is no node of the node's file: it cannot be read, or it is bad
  abbrev pub ReadsNoNode : (before : S) → Fault → (after : S) → Type 0
  ReadsNoNode before end after = TextUnread reads before file after end ⊎ ReadsBadNode before end after
