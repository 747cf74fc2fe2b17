use Rattle.std.proofs.Common.{◌≡◌, ℕ, List, Option, refl, subst}
use Rattle.std.proofs.lemmas.Result.{err_from_is_err_and}
use Rattle.spw.specs.Cargo.{Cargo}
use Rattle.job_nodes.specs.Feeds.{IsFed, IsNotFed}
use Rattle.job_nodes.specs.JobNode.{FeedsLine, RefusesLine, with_held}
use Rattle.job_nodes.specs.LiveNodes.{LiveNodeValue}
use Rattle.job_parts.specs.declared.bad_lines.BadLine.{BadLine}
use Rattle.job_nodes.proofs.live_node.LiveNode.feed_line.Goals as goal

-- the value of an open node is that of its parts
refuses : (line : List ℕ) (fault : BadLine) (parts node : LiveNodeValue) (held : List (List ℕ))
    → parts ≡ node → IsNotFed line parts.node.held held fault → RefusesLine line fault node.node (with_held parts.node held)
refuses line fault parts node held is unfed =
    subst (λ (s : LiveNodeValue). RefusesLine line fault s.node (with_held parts.node held)) is (record { held = held; unfed = unfed; same = refl })

feeds : (line : List ℕ) (received : Option (ℕ × Cargo)) (parts node : LiveNodeValue) (held : List (List ℕ))
    → parts ≡ node → IsFed line parts.node.held held received → FeedsLine line received node.node (with_held parts.node held)
feeds line received parts node held is fed =
    subst (λ (s : LiveNodeValue). FeedsLine line received s.node (with_held parts.node held)) is (record { held = held; fed = fed; same = refl })

pub returns-in_err-received-clause-refused : goal.returns-in_err-received-clause-refused
returns-in_err-received-clause-refused c =
    let gone = err_from_is_err_and c.from_residual.result c.from_residual.ensures.1 in
    rw (gone.1, gone.2) (refuses _ _ _ _ c.take_line.new.self c.self.view_is c.in_err-received.ensures.refused)

pub returns-clause-fed : goal.returns-clause-fed
returns-clause-fed c = feeds _ _ _ _ c.take_line.new.self c.self.view_is c.in_ok-received.ensures.fed
