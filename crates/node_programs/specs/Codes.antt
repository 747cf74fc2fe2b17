-- The numbers of the faults, and when they come.
use Rattle.std.specs.Prelude.{◌≡◌, ◌<◌, ◌≤◌, ◌^◌, ℕ}
use Rattle.node_programs.specs.declared.faults.PublishFault.{PublishFault}
use Rattle.node_programs.specs.declared.faults.PublishFault.TheVariants.{Memory, Slot, GenerationsFull}

-- the number of a fault
abbrev pub publish_fault_code : PublishFault → ℕ
publish_fault_code Memory = 1
publish_fault_code Slot = 2
publish_fault_code GenerationsFull = 3

-- why a program was not published, in a history of `count` programs: there were 2^32 - 1 publishes, or, before that,
-- memory was refused
pub record IsUnpublished (count : ℕ) (fault : PublishFault) : Type 0 where
  pub full : 2 ^ 32 ≤ count → fault ≡ GenerationsFull
  pub memory : count < 2 ^ 32 → fault ≡ Memory
