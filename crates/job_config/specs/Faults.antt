-- The codes of what is wrong with a node's file.
use Rattle.std.specs.Prelude.{◌≡◌, ◌⊎◌, Option, None, Some, Result, Ok, Err}
use Rattle.job_config.specs.declared.faults.ConfigFault.{ConfigFault}
use Rattle.job_config.specs.declared.faults.ConfigFault.TheVariants.{Memory, NoToml, UnknownKey, BadNumber, BadPeak}
use Rattle.job_config.specs.declared.faults.ConfigFault.TheVariants.{NoTable, NoList, BadCount, NoName, BadFile}
use Rattle.job_config.specs.declared.places.TableKind.{TableKind}
use Rattle.job_config.specs.declared.places.TableKind.TheVariants as kinds
use Rattle.job_config.specs.declared.places.NameKey.{NameKey}
use Rattle.job_config.specs.declared.places.NameKey.TheVariants as names
use Rattle.job_config.specs.declared.places.NumberKey.{NumberKey}
use Rattle.job_config.specs.declared.places.NumberKey.TheVariants as numbers
use Rattle.job_parts.specs.declared.node_codes.NodeCode.{NodeCode}
use Rattle.job_parts.specs.declared.node_codes.NodeCode.TheVariants as codes

-- the code of faults of the tables of a kind
abbrev pub kind_code : TableKind → NodeCode
kind_code kinds.Node = codes.Text
kind_code kinds.Bank = codes.Bank
kind_code kinds.Map = codes.Map
kind_code kinds.Publish = codes.Load

-- the code of faults of the numbers of a key
abbrev pub number_fault_code : NumberKey → NodeCode
number_fault_code numbers.Address = codes.Address
number_fault_code numbers.Ports = codes.Ports
number_fault_code numbers.Base = codes.Bank
number_fault_code numbers.Size = codes.Bank
number_fault_code numbers.Journal = codes.Bank
number_fault_code numbers.Cells = codes.Map
number_fault_code numbers.Slot = codes.Load

-- the code of faults of the files of a key
abbrev pub name_code : NameKey → NodeCode
name_code names.Contents = codes.Contents
name_code names.Program = codes.Program
name_code names.Image = codes.Load

-- the code of a fault; none if memory was refused
abbrev pub code_of_fault : ConfigFault → Option NodeCode
code_of_fault Memory = None
code_of_fault (NoToml line message) = Some codes.Text
code_of_fault (UnknownKey place key) = Some codes.Key
code_of_fault (BadNumber place key found least most) = Some (number_fault_code key)
code_of_fault (BadPeak place) = Some codes.Map
code_of_fault (NoTable place) = Some (kind_code place.kind)
code_of_fault (NoList kind) = Some (kind_code kind)
code_of_fault (BadCount kind count) = Some (kind_code kind)
code_of_fault (NoName place key) = Some (name_code key)
code_of_fault (BadFile place key name trouble) = Some (name_code key)

-- the next step of a reading, unless a fault was found
infixl 10 ◌>>=◌
abbrev pub ◌>>=◌ : {A B : Type 0} → Result A ConfigFault → (A → Result B ConfigFault) → Result B ConfigFault
(Ok x) >>= f = f x
(Err fault) >>= f = Err fault

-- memory was refused, or the reading comes to that fault
abbrev pub IsFaultOf : {A : Type 0} → Result A ConfigFault → ConfigFault → Type 0
IsFaultOf reading fault = (fault ≡ Memory) ⊎ (reading ≡ Err fault)
