-- A word that names no table.
use Rattle.std.proofs.Common.{◌≡◌, ◌∙◌, List, ℕ, inl, inr, refl, subst, sym}
use Rattle.std.specs.List.{before_first}
use Rattle.job_packets.specs.HexWords.{Has}
use Rattle.job_packets.specs.Slips.{IsWordFault, usage_fault_of}
use Rattle.job_packets.specs.Slots.{WritesSlots}
use Rattle.job_packets.specs.declared.slips.PacketFault.{PacketFault}
use Rattle.job_packets.specs.declared.slips.PacketFault.TheVariants.{Words, Memory}
use Rattle.job_parts.specs.Options.{IsOptionFault}
use Rattle.job_parts.specs.declared.usage.UsageFault.{UsageFault}
use Rattle.job_suite.specs.Ranges.{is_colon}
use Rattle.job_suite.specs.SuiteJob.{IsTableWord}

no_table : (word slots : List ℕ) (fault : PacketFault) → slots ≡ before_first is_colon word → IsWordFault (Has (WritesSlots slots)) fault
    → IsOptionFault (IsTableWord word) (usage_fault_of fault)
no_table word slots Memory at is = inl refl
no_table word slots (Words slip) at (inl same) = let no : ⊥ = cc same in absurd no
no_table word slots (Words slip) at (inr bad) =
    inr (refl, λ table. bad.1 (subst (λ (w : List ℕ). Has (WritesSlots w)) (sym at) table.0))

-- if the slots of a word are none, it names no table, or memory was refused
pub no_slots : (word slots : List ℕ) (fault : PacketFault) (reported : UsageFault) → slots ≡ before_first is_colon word
    → IsWordFault (Has (WritesSlots slots)) fault → reported ≡ usage_fault_of fault → IsOptionFault (IsTableWord word) reported
no_slots word slots fault reported at is same = subst (IsOptionFault (IsTableWord word)) (sym same) (no_table word slots fault at is)
