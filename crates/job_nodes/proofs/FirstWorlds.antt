-- The world of a configuration after no event.
use Rattle.std.proofs.Common.{◌≡◌, List, ℕ, map, refl, subst}
use Rattle.bpf.specs.Program.{Program}
use Rattle.bver.specs.Justified.{AcceptedValue}
use Rattle.node_parts.specs.declared.config.NodeConfig.{NodeConfig}
use Rattle.sched.specs.Firsts.{slot_with_program}
use Rattle.sched.specs.History.{Start}
use Rattle.sched.specs.Looking.{Node}
use Rattle.sched.specs.Worlds.{IsWorldOf, WorldValue, node_with}
use Rattle.job_config.specs.OwnNodes.{IsConfigOf, OwnNodeValue}
use Rattle.job_config.specs.Reads.{ReadsNode}
use Rattle.job_parts.specs.Files.{ReadsFile}
use Rattle.job_nodes.specs.Beginning.{AreEmpty, IsBegunWorld, IsFileBeginning, own_schedule}

-- the node of that configuration
pub own_start : (own : OwnNodeValue) (config : NodeConfig) (program : AcceptedValue) (publishes : List (ℕ × AcceptedValue)) (world : WorldValue) → IsConfigOf own config
    → publishes ≡ own.publishes → IsWorldOf (node_with config program.program (map slot_with_program publishes)) Start world → IsWorldOf (own_schedule own program.program) Start world
own_start own config program publishes world is are start =
    let same : node_with config program.program (map slot_with_program publishes) ≡ own_schedule own program.program = rw (is.address, is.ports_are, is.banks_are, is.sizes_are, are) refl in
    subst (λ (n : Node). IsWorldOf n Start world) same start

-- the world of a node's file that was read
pub file_begun : {S : Type 0} (reads : ReadsFile S) (name : List ℕ) (before after : S) (own : OwnNodeValue) (program : AcceptedValue) (world : WorldValue)
    → ReadsNode reads name before own program after → AreEmpty own.contents → IsWorldOf (own_schedule own program.program) Start world
    → IsBegunWorld (λ (n : Node). IsFileBeginning reads name before n after) world
file_begun reads name before after own program world read zeros start = record {
  node = own_schedule own program.program;
  begun = record { own = own; program = program; read = read; zeros = zeros; node = refl };
  is_world = start;
}
