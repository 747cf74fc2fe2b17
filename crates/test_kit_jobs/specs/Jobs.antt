-- What jobs leave in a folder.
use Rattle.std.specs.Prelude.{◌≡◌, ℕ, zero, suc, List, Some, string_bytes}
use Rattle.bpf.specs.Program.{Program, image_bytes}
use Rattle.basm.specs.Relation.{IsText}
use Rattle.commands.specs.declared.jobs.Job.{Job}
use Rattle.commands.specs.declared.jobs.Job.TheVariants.{Judge, Serve, Simulate, Trace, Assemble, Disassemble}
use Rattle.commands.specs.declared.jobs.Job.TheVariants.{Verify, Policy, Explain, Why, Weigh, Node, Packet, Show}
use Rattle.commands.specs.declared.jobs.Job.TheVariants.{Decide, Compare, Map, Rehearse, Suite}
use Rattle.machine.specs.Sizes.{Maps}
use Rattle.policy.specs.Compiled.{IsPortCompiled}
use Rattle.policy_table.specs.Policies.{PolicyValue}
use Rattle.job_texts.specs.Compiled.{IsTableText}
use Rattle.folders.specs.Folders.{FolderValue, Sets, content_of}

-- the one file has the text of a program, and the other was set to its image
pub record AssemblesIn (before : FolderValue) (text image : List ℕ) (after : FolderValue) : Type 0 where
  pub bytes : List ℕ
  pub program : Program
  pub stands : content_of before text ≡ Some bytes
  pub is_text : IsText bytes program
  pub set : Sets before image (image_bytes program) after

-- the one file has a table of either version, and the other was set to the image that it was compiled to
pub record CompilesIn (before : FolderValue) (table image : List ℕ) (sizes : Maps) (after : FolderValue) : Type 0 where
  pub bytes : List ℕ
  pub policy : PolicyValue
  pub program : Program
  pub stands : content_of before table ≡ Some bytes
  pub is_table : IsTableText bytes policy
  pub compiled : IsPortCompiled sizes policy program
  pub set : Sets before image (image_bytes program) after

-- what a job that ended with this status leaves: `asm` and `policy` set only OUT if they were done, and nothing else
-- changes a file
abbrev pub Leaves : Job → (before after : FolderValue) → (status : ℕ) → Type 0
Leaves (Assemble words) before after zero =
    AssemblesIn before (string_bytes words.text) (string_bytes words.image) after
Leaves (Assemble words) before after (suc n) = after ≡ before
Leaves (Disassemble words) before after status = after ≡ before
Leaves (Verify words) before after status = after ≡ before
Leaves (Judge words) before after status = after ≡ before
Leaves (Policy words) before after zero =
    CompilesIn before (string_bytes words.table) (string_bytes words.image) words.sizes after
Leaves (Policy words) before after (suc n) = after ≡ before
Leaves (Simulate words) before after status = after ≡ before
Leaves (Serve words) before after status = after ≡ before
Leaves (Explain words) before after status = after ≡ before
Leaves (Why words) before after status = after ≡ before
Leaves (Weigh words) before after status = after ≡ before
Leaves (Node words) before after status = after ≡ before
Leaves (Packet words) before after status = after ≡ before
Leaves (Show words) before after status = after ≡ before
Leaves (Decide words) before after status = after ≡ before
Leaves (Trace args) before after status = after ≡ before
Leaves (Compare words) before after status = after ≡ before
Leaves (Map words) before after status = after ≡ before
Leaves (Rehearse words) before after status = after ≡ before
Leaves (Suite words) before after status = after ≡ before
