-- Why a program was not published, by what the node reported.
use Rattle.std.proofs.Common.{◌≡◌, ◌<◌, ◌≤◌, ◌^◌, ◌⊎◌, ℕ, List, length, refl, sym, ◌∙◌, inl, inr}
use Rattle.std.proofs.lemmas.Bool.{cases_lt}
use Rattle.node_programs.specs.Codes.{IsUnpublished as IsFault}
use Rattle.node_programs.specs.declared.faults.PublishFault.{PublishFault}
use Rattle.node_programs.specs.declared.faults.PublishFault.TheVariants.{Memory, Slot, GenerationsFull}
use Rattle.scrub.specs.Guarded.{GuardedValue}
use Rattle.single_node_c.specs.Opening.{of_memory}
use Rattle.single_node_c.specs.Publishing.{IsImageUnpublished, publish_fault_of}

-- no generation is left, or memory was refused
pub unpublished : (slot : ℕ) (image : List ℕ) (before : GuardedValue) (fault : PublishFault) → slot ≤ 3 → IsFault (length before.node.programs) fault
    → IsImageUnpublished slot image before (publish_fault_of fault)
unpublished slot image before Memory few is = (few, of_memory refl)
unpublished slot image before Slot few is = by (cases_lt (length before.node.programs) (2 ^ 32))
  where
    by : (length before.node.programs < 2 ^ 32) ⊎ (2 ^ 32 ≤ length before.node.programs) → IsImageUnpublished slot image before (publish_fault_of Slot)
    by (inl left) = let clash : Slot ≡ Memory = is.memory left in absurd cc
    by (inr none) = let clash : Slot ≡ GenerationsFull = is.full none in absurd cc
unpublished slot image before GenerationsFull few is = by (cases_lt (length before.node.programs) (2 ^ 32))
  where
    by : (length before.node.programs < 2 ^ 32) ⊎ (2 ^ 32 ≤ length before.node.programs) → IsImageUnpublished slot image before (publish_fault_of GenerationsFull)
    by (inl left) = let clash : GenerationsFull ≡ Memory = is.memory left in absurd cc
    by (inr none) = (few, none)
