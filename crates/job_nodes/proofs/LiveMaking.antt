-- The node of a talk, before a packet came.
use Rattle.std.proofs.Common.{◌≡◌, ◌∙◌, ℕ, List, [], Option, length, ap, subst}
use Rattle.scrub.specs.Guarded.{BeginsGuard, GuardedValue, IsGuarded}
use Rattle.single_node.specs.Nodes.{SingleNodeValue}
use Rattle.job_nodes.specs.JobNode.{IsJobNode, JobNodeValue, alone, job_node, rooms_of}
use Rattle.job_nodes.specs.LiveNodes.{IsLive, live_node}
use Rattle.job_nodes.proofs.Banks.{stays}

pub made_live : (scrub : Option ℕ) (node : JobNodeValue) (single : SingleNodeValue) (held : List (List ℕ)) (g : GuardedValue) → IsGuarded scrub single g → single ≡ alone node → held ≡ node.held
    → IsLive scrub node (live_node g held [])
made_live scrub node single held g is same feeds = record {
  node_is =
      ap (λ (s : SingleNodeValue). job_node s.banks s.words s.programs s.passes held []) (is.node_is ∙ same)
      ∙ ap (λ (h : List (List ℕ)). job_node node.banks node.words node.programs node.passes h []) feeds;
  begins = subst (λ (s : SingleNodeValue). BeginsGuard scrub s g.guard) same is.begins;
}

pub valid_live : (scrub : Option ℕ) (node : JobNodeValue) (single : SingleNodeValue) (held : List (List ℕ)) (g : GuardedValue) → IsGuarded scrub single g → single ≡ alone node → held ≡ node.held
    → IsJobNode node → IsJobNode (live_node g held []).node
valid_live scrub node single held g is same feeds valid =
    stays node (live_node g held []).node (ap (λ (s : SingleNodeValue). rooms_of s.banks) (is.node_is ∙ same))
    (ap (λ (s : SingleNodeValue). length s.passes) (is.node_is ∙ same)) feeds valid
