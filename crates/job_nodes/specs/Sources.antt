-- The node that a job runs on: that of the words of its command line, or that of a file.
use Rattle.std.specs.Prelude.{◌≡◌, ◌⊎◌, ℕ, List, Some, string_bytes}
use Rattle.bpf.specs.Program.{Program}
use Rattle.bver.specs.Justified.{AcceptedValue, IsJustified}
use Rattle.machine.specs.Runs.{IsSafe}
use Rattle.job_config.specs.OwnNodes.{OwnNodeValue}
use Rattle.job_config.specs.Reads.{ReadsNoNode, ReadsNode}
use Rattle.job_config.specs.declared.sources.NodeSource.{NodeSource}
use Rattle.job_config.specs.declared.sources.NodeSource.TheVariants.{File, Words}
use Rattle.job_parts.specs.Files.{ReadsFile}
use Rattle.job_parts.specs.Given.{HoldsNoProgram, HoldsProgram}
use Rattle.job_parts.specs.Options.{image_name}
use Rattle.job_parts.specs.declared.faults.Fault.{Fault}
use Rattle.job_parts.specs.declared.faults.Fault.TheVariants.{NoMemory}
use Rattle.job_parts.specs.declared.options.NodeWords.{NodeWords}
use Rattle.job_nodes.specs.JobNode.{IsFreshJobNode, JobNodeValue}
use Rattle.job_nodes.specs.Making.{IsNodeOf}

module _ {S : Type 0} (reads : ReadsFile S) where
  -- the node is a fresh one of these words. The program that its files give judges its commands; it is justified on the
  -- node, and so safe
  pub record IsPlainNode (words : NodeWords) (before : S) (node : JobNodeValue) (after : S) : Type 0 where
    pub program : AcceptedValue
    pub given : HoldsProgram reads before (image_name words) program.program after
    pub sizes_are : program.sizes ≡ words.sizes
    pub justified : IsJustified program.program words.sizes
    pub safe : IsSafe program.program words.sizes
    pub fresh : IsFreshJobNode words.ports program node

  -- the program was read, but memory was refused to the node
  pub record IsPlainUnmade (words : NodeWords) (before after : S) (fault : Fault) : Type 0 where
    pub program : Program
    pub given : HoldsProgram reads before (image_name words) program after
    pub is_fault : fault ≡ NoMemory

  -- there is no node of these words: there is no program, or memory was refused after it was read
  abbrev pub IsNoPlainNode : NodeWords → (before after : S) → Fault → Type 0
  IsNoPlainNode words before after fault =
      HoldsNoProgram reads before (image_name words) words.sizes after fault ⊎ IsPlainUnmade words before after fault

  -- the node is that of the node's file of this name
  pub record IsFileNode (name : List ℕ) (before : S) (node : JobNodeValue) (after : S) : Type 0 where
    pub own : OwnNodeValue
    pub program : AcceptedValue
    pub read : ReadsNode reads name before own program after
    pub made : IsNodeOf own program node

  -- the node's file was read, but memory was refused to its node
  pub record IsFileUnmade (name : List ℕ) (before after : S) (fault : Fault) : Type 0 where
    pub own : OwnNodeValue
    pub program : AcceptedValue
    pub read : ReadsNode reads name before own program after
    pub is_fault : fault ≡ NoMemory

  -- there is no node of the node's file of this name: it says none, or memory was refused to it
  abbrev pub IsNoFileNode : (name : List ℕ) (before after : S) → Fault → Type 0
  IsNoFileNode name before after fault = ReadsNoNode reads name before fault after ⊎ IsFileUnmade name before after fault

  -- the node is that of the words, or of the file
  abbrev pub HoldsNode : NodeSource → (before : S) → JobNodeValue → (after : S) → Type 0
  HoldsNode (Words words) before node after = IsPlainNode words before node after
  HoldsNode (File name) before node after = IsFileNode (string_bytes name) before node after

  -- there is no such node
  abbrev pub HoldsNoNode : NodeSource → (before after : S) → Fault → Type 0
  HoldsNoNode (Words words) before after fault = IsNoPlainNode words before after fault
  HoldsNoNode (File name) before after fault = IsNoFileNode (string_bytes name) before after fault
