-- The numbers of the faults.
use Rattle.std.specs.Prelude.{ℕ, if◌then◌else◌}
use Rattle.bver_form.specs.declared.refusal.Refusal.{Refusal}
use Rattle.node_parts.specs.declared.faults.NodeFault.{NodeFault}
use Rattle.node_parts.specs.declared.faults.NodeFault.TheVariants as nodes
use Rattle.node_parts.specs.Loads.{wants_verifier_memory}
use Rattle.sched.specs.declared.faults.WorldFault.{WorldFault}
use Rattle.sched.specs.declared.faults.WorldFault.TheVariants.{Memory, Config, Image}

-- the number of a fault
abbrev pub world_fault_code : WorldFault → ℕ
world_fault_code Memory = 1
world_fault_code Config = 2
world_fault_code Image = 3

-- what a limit of a node, or its lack of memory, is to a world
abbrev pub fault_of_node : NodeFault → WorldFault
fault_of_node nodes.Memory = Memory
fault_of_node nodes.Ports = Config
fault_of_node nodes.Banks = Config

-- what the verifier's refusal of the factory program is to a world
abbrev pub fault_of_refusal : Refusal → WorldFault
fault_of_refusal refusal = if wants_verifier_memory refusal then Memory else Image
