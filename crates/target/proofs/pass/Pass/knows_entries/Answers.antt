use Rattle.std.proofs.Common.{ℕ, List, subst}
use mathlib.Core.List.{IsPrefix}
use Rattle.bank.specs.Records.{numbers_of}
use Rattle.annals.specs.Banks.{entries_of, numbers_at}
use Rattle.annals.specs.Chains.{done_for}
use Rattle.target.specs.Lines.{CountsAllOf}
use Rattle.target.specs.Passes.{PortPass}
use Rattle.node_parts.specs.Passes.{pass_of}
use Rattle.target.proofs.pass.Pass.knows_entries.Goals as goal

pub returns-clause-entries : goal.returns-clause-entries
returns-clause-entries g c =
    let inside = c.self.inside in
    let asked = inside.loader.line.asked in
    let line = c.self.invariant.1 in
    let is : CountsAllOf (pass_of inside.context inside.loader.reader.programs inside.shares.items inside.staging) c.args.known.now =
    λ k below. subst (λ (numbers : List ℕ). IsPrefix (numbers_of inside.context.port (entries_of k c.args.known.now)) numbers) (line.counts k below)
    (subst (λ (port : ℕ). IsPrefix (numbers_of port (entries_of k c.args.known.now)) (numbers_at k asked)) line.line_is (c.knows_all.ensures.numbers k)) in
    subst (λ (h : PortPass). CountsAllOf h.pass c.args.known.now) c.self.view_is is

pub returns-clause-begins : goal.returns-clause-begins
returns-clause-begins g c =
    let inside = c.self.inside in
    let own : IsPrefix (done_for inside.context.port c.args.known.now) inside.loader.line.asked =
    subst (λ (port : ℕ). IsPrefix (done_for port c.args.known.now) inside.loader.line.asked) c.self.invariant.1.line_is c.knows_all.ensures.begins in
    subst (λ (h : PortPass). IsPrefix (done_for h.pass.port c.args.known.now) h.asked) c.self.view_is own
