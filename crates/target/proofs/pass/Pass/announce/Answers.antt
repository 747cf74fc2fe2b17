use Rattle.std.proofs.Common.{ℕ, subst}
use mathlib.Core.List.{IsPrefix}
use Rattle.annals.specs.Chains.{done_for}
use Rattle.target.specs.Passes.{PortPass}
use Rattle.target.proofs.pass.Pass.announce.Goals as goal

pub returns-clause-reported : goal.returns-clause-reported
returns-clause-reported g c =
    let inside = c.self.inside in
    let front = c.announce.new.front in
    let own : IsPrefix inside.loader.line.asked (done_for inside.context.port front) =
    subst (λ (port : ℕ). IsPrefix inside.loader.line.asked (done_for port front)) c.self.invariant.1.line_is c.announce.ensures.reported in
    subst (λ (h : PortPass). IsPrefix h.asked (done_for h.pass.port front)) c.self.view_is own
