-- If words ask something of a node, they ask the same of the same node by another name.
use Rattle.std.specs.Prelude.{◌≡◌, ℕ, List}
use Rattle.std.proofs.Common.{subst}
use Rattle.job_parts.specs.declared.bad_lines.BadLine.{BadLine}
use Rattle.single_node.specs.Nodes.{SingleNodeValue}
use Rattle.job_live.specs.declared.settings.Setting.{Setting}
use Rattle.job_live.specs.Answering.{IsUnset, WritesInside}

pub inside_of_same : (words : List (List ℕ)) (one other : SingleNodeValue) (setting : Setting)
    → one ≡ other → WritesInside words one setting → WritesInside words other setting
inside_of_same words one other setting same inside = subst (λ (n : SingleNodeValue). WritesInside words n setting) same inside

pub unset_of_same : (words : List (List ℕ)) (one other : SingleNodeValue) (fault : BadLine)
    → one ≡ other → IsUnset words one fault → IsUnset words other fault
unset_of_same words one other fault same unset = subst (λ (n : SingleNodeValue). IsUnset words n fault) same unset
