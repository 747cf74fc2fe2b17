-- Texts that are no TOML.
use Rattle.std.proofs.Common.{◌≡◌, ◌⊎◌, ℕ, List, None, Some, inl, inr}
use Rattle.toml.specs.Errors.{IsMemory}
use Rattle.toml.specs.Parse.{parse_document}
use Rattle.toml.specs.declared.de.error.Error.{Error}
use Rattle.job_parts.specs.declared.node_codes.NodeCode.TheVariants.{Text}
use Rattle.job_config.specs.Faults.{code_of_fault}
use Rattle.job_config.specs.Reads.{IsNoToml}
use Rattle.job_config.specs.declared.faults.ConfigFault.{ConfigFault}
use Rattle.job_config.specs.declared.faults.ConfigFault.TheVariants.{Memory}

-- what the reader refuses is no table
pub no_table : (text : List ℕ) (error : Error) (fault : ConfigFault) → (¬ IsMemory error → parse_document text ≡ None)
    → (fault ≡ Memory) ⊎ (¬ IsMemory error × (code_of_fault fault ≡ Some Text)) → IsNoToml text fault
no_table text error fault refused (inl memory) = inl memory
no_table text error fault refused (inr (other, code)) = inr (refused other, code)
