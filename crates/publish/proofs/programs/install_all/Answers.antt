use Rattle.std.proofs.Common.{◌≡◌, ◌<◌, ◌++◌, ◌+◌, ℕ, get_or, length, take, sym, subst, ap, ◌∙◌, arith}
use Rattle.std.specs.Prelude.{map}
use Rattle.std.proofs.lemmas.Grind.{common_steps}
use Rattle.std.proofs.lemmas.List.Elements.{All-get_or}
use Rattle.annals.specs.Publishes.{line_loading}
use Rattle.bver.specs.Justified.{AcceptedValue}
use Rattle.node_programs.specs.Histories.{entry, longer_history}
use Rattle.node_programs.specs.Published.{sizes_of}
use Rattle.publish.specs.Firsts.{IsFirstProgram, first_entry}
use Rattle.publish.proofs.Firsts.{line_next, line_port, publishes_next, sizes_stay}
use Rattle.publish.proofs.programs.install_all.Goals as goal

pub install-requires : goal.install-requires
install-requires g c =
    let firsts = c.args.firsts.now in
    let index = c.loop-index.index in
    let first = c.index-firsts-index.result in
    let at_first : first ≡ get_or firsts index first = grind (arith, common_steps) in
    let is : IsFirstProgram (sizes_of c.args.publisher.now) (get_or firsts index first) =
    All-get_or (IsFirstProgram (sizes_of c.args.publisher.now)) firsts index first c.loop-index-test.true c.requires.firsts in
    let own : IsFirstProgram (sizes_of c.args.publisher.now) first = subst (IsFirstProgram (sizes_of c.args.publisher.now)) (sym at_first) is in
    ap (λ (a : AcceptedValue). a.sizes) c.in_ok-program.ensures ∙ own.1
    ∙ sym (ap sizes_of c.loop-index.invariant.0 ∙ sizes_stay c.args.publisher.now (map first_entry (take index firsts)) c.requires.some)

pub loop-index-preserved : goal.loop-index-preserved
loop-index-preserved g c =
    let firsts = c.args.firsts.now in
    let index = c.loop-index.index in
    let first = c.index-firsts-index.result in
    let at_first : first ≡ get_or firsts index first = grind (arith, common_steps) in (
      publishes_next firsts index first first c.loop-index-test.true at_first _ _ _ c.loop-index.invariant.0
          (c.in-Ok.ensures.published ∙ ap (λ (a : AcceptedValue). longer_history c.loop-index.publisher first.0 a) c.in_ok-program.ensures),
      line_next firsts index first first c.loop-index-test.true at_first _ _ _ c.loop-index.invariant.1
          (c.in-Ok.ensures.asked ∙ ap (λ (a : AcceptedValue). line_loading c.loop-index.line (entry first.0 a)) c.in_ok-program.ensures),
    )

pub returns-clause-owner : goal.returns-clause-owner
returns-clause-owner g c =
    ap (λ l. l.port) c.loop-index.invariant.1 ∙ line_port c.args.line.now (take c.loop-index.index c.args.firsts.now)
