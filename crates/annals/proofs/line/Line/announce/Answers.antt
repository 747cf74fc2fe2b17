use Rattle.std.proofs.Common.{subst}
use mathlib.Core.List.{IsPrefix}
use Rattle.annals.specs.Chains.{LineValue, asked_by, done_for}
use Rattle.lemmas.proofs.Prefixes.{prefix_trans}
use Rattle.annals.proofs.Dues.{done_prefix}
use Rattle.annals.proofs.line.Line.announce.Goals as goal

pub returns-clause-reported : goal.returns-clause-reported
returns-clause-reported g c =
    let port = c.self.inside.port in
    let own = c.self.inside.chain.log in
    let front = c.learn.new.self in
    let all : IsPrefix (asked_by port own) (done_for port front) =
    prefix_trans (asked_by port own) (done_for port c.self.inside.left) (done_for port front) c.self.invariant.left (done_prefix port c.self.inside.left front c.learn.ensures.that) in
    subst (λ (l : LineValue). IsPrefix l.asked (done_for l.port front)) c.self.view_is all
