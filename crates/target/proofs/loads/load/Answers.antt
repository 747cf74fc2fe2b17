use Rattle.std.proofs.Common.{List, Some, None, ap, inl, inr, subst, sym, ◌∙◌}
use mathlib.Core.List.{IsPrefix}
use Rattle.annals.specs.Chains.{LineValue}
use Rattle.node_parts.specs.Loaded.{IsLoadEnd}
use Rattle.node_parts.specs.Passes.{pass_of}
use Rattle.node_programs.specs.declared.publishes.Publish.{Publish}
use Rattle.target.specs.Lines.{IsLineOf}
use Rattle.target.specs.Loads.{HasAskedForLoad}
use Rattle.target.specs.Passes.{PortPass}
use Rattle.target.proofs.Loadings.{asked_longer, line_longer, sizes_kept}
use Rattle.target.proofs.loads.load.Goals as goal

pub invariant_of-pass : goal.invariant_of-pass
invariant_of-pass g c =
    let end = c.load.ensures.ended c.pass.inside.context c.pass.inside.shares.items in
    let is = c.pass.invariant.0 in (
      record { port = is.port; sizes = is.sizes ∙ sym (sizes_kept _ _ _ _ _ _ _ c.sizes-sizes.ensures.some end.ended); shares = is.shares },
      elim c.load.ensures.noted [
        | inl noted ↦ line_longer c.loads_are_apart.ensures.loads c.pass.inside.context.port c.pass.inside.shares.items c.pass.inside.loader.line c.load.new.reader.line noted.publish c.pass.invariant.1 noted.noted
        | inr same ↦ subst (λ (l : LineValue). IsLineOf c.pass.inside.context.port c.pass.inside.shares.items l) (sym (ap (λ l. l.line) same.1)) c.pass.invariant.1
      ],
    )

pub returns-clause-begins : goal.returns-clause-begins
returns-clause-begins g c = subst (λ (h : PortPass). IsPrefix h.pass.programs c.args.publisher.now) c.pass.view_is c.readers_know_a_beginning.ensures.begins

pub returns-clause-asked : goal.returns-clause-asked
returns-clause-asked g c =
    let inside = c.pass.inside in
    let port = inside.context.port in
    let line = inside.loader.line in
    let after = c.load.new.reader.line in
    let old = c.readers_know_a_beginning.new.publisher in
    let new = c.load.new.store in
    let is : HasAskedForLoad port old new line.asked after.asked = elim c.load.ensures.noted [
      | inl noted ↦ (Some noted.publish, (noted.longer, asked_longer port inside.shares.items line after noted.publish c.pass.invariant.1 noted.noted))
      | inr same ↦ (None, (same.0, ap (λ l. l.line.asked) same.1))
    ] in
    subst (λ (l : List Publish). HasAskedForLoad c.args.pass.now.pass.port l c.load.new.store c.args.pass.now.asked c.load.new.reader.line.asked) c.readers_know_a_beginning.ensures.same
    (subst (λ (h : PortPass). HasAskedForLoad h.pass.port c.readers_know_a_beginning.new.publisher c.load.new.store h.asked c.load.new.reader.line.asked) c.pass.view_is is)

pub returns-clause-ended : goal.returns-clause-ended
returns-clause-ended g c =
    let b = c.pass.inside.context in
    let known = c.pass.inside.loader.reader.programs in
    let shares = c.pass.inside.shares.items in
    let after = pass_of b c.load.new.reader.reader.programs shares c.load.new.staging in
    let ended : IsLoadEnd (pass_of b known shares c.pass.inside.staging) after c.args.publisher.now c.load.new.store c.args.judged c.load.result c.load.new.reply
    = subst (λ (l : List Publish). IsLoadEnd (pass_of b known shares c.pass.inside.staging) after l c.load.new.store c.args.judged c.load.result c.load.new.reply) c.readers_know_a_beginning.ensures.same (c.load.ensures.ended b shares) in
    subst (λ (h : PortPass). IsLoadEnd h.pass after c.args.publisher.now c.load.new.store c.args.judged c.load.result c.load.new.reply) c.pass.view_is ended
