-- A packet that a line ended, at the node of a talk.
use Rattle.std.proofs.Common.{◌≡◌, ◌∙◌, ℕ, List, Option, Some, ap, subst}
use Rattle.scrub.specs.declared.answer.ServedAnswer.{ServedAnswer}
use Rattle.scrub.specs.declared.guard.Guard.{Guard}
use Rattle.spw.specs.Cargo.{Cargo}
use Rattle.job_nodes.specs.JobNode.{FeedsLine, JobNodeValue, with_held}
use Rattle.job_nodes.specs.LiveNodes.{KeepsGuard, LiveNodeValue, ServesLine, ServesLive, with_node}

-- nodes of the same parts
same_live : (a b : LiveNodeValue) → a.node ≡ b.node → a.guard ≡ b.guard → a ≡ b
same_live a b node guard =
    ap (λ (n : JobNodeValue). with_node a n) node
    ∙ ap (λ (g : Option Guard). record b { guard = g }) guard

pub served_line : (line : List ℕ) (port : ℕ) (packet : Cargo) (answer : ServedAnswer) (before mid after : LiveNodeValue) → FeedsLine line (Some (port, packet)) before.node mid.node
    → KeepsGuard before mid → ServesLive answer port packet mid after → ServesLine line (record { port = port; answer = answer }) before after
served_line line port packet answer before mid after fed kept serves = record {
  packet = packet;
  held = fed.held;
  fed = fed.fed;
  step = subst (λ (m : LiveNodeValue). ServesLive answer port packet m after) (same_live mid (with_node before (with_held before.node fed.held)) fed.same kept) serves;
}
