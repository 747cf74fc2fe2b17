use Rattle.std.proofs.Common.{sym, subst}
use Rattle.bver.specs.Justified.{AcceptedValue}
use Rattle.brun.specs.Pauses.{IsPaused, AsksWithin}
use Rattle.sched.specs.Looking.{seen_header_in}
use Rattle.sched.specs.Worlds.{RunValue, IsHelperQuestion, IsRunOfOpen, StandsThere, at_stack}
use Rattle.sched.specs.contracts.run.Run.{the_view}
use Rattle.sched.proofs.Runs.{GoesOnFrom, at_question, paused, stands_again, reported}
use Rattle.sched.proofs.run.Run.answer_question.Goals as goal

pub answer-requires : goal.answer-requires
answer-requires c =
    let r = the_view c.self.inside in
    let asks : IsHelperQuestion r.turn = subst (λ (v : RunValue). IsHelperQuestion v.turn) (sym c.self.view_is) c.requires.asks in
    let stands = subst (λ (v : RunValue). StandsThere v.program.program (seen_header_in v.packet) v.turn v.frame c.args.stack.now) (sym c.self.view_is) c.requires.stands in
    at_question _ _ r.turn r.frame c.args.stack.now asks stands

pub go_on-self-inside-requires-clause-paused : goal.go_on-self-inside-requires-clause-paused
go_on-self-inside-requires-clause-paused c =
    let r = the_view c.self.inside in
    let asks : IsHelperQuestion r.turn = subst (λ (v : RunValue). IsHelperQuestion v.turn) (sym c.self.view_is) c.requires.asks in
    let stands = subst (λ (v : RunValue). StandsThere v.program.program (seen_header_in v.packet) v.turn v.frame c.args.stack.now) (sym c.self.view_is) c.requires.stands in
    let ready = paused _ _ r.turn r.frame _ c.args.stack.now c.args.reported asks stands c.answer.ensures in
    subst (λ (a : AcceptedValue). IsPaused a.program (seen_header_in r.packet) c.answer.new.paused c.args.stack.now) (sym c.deref.ensures) ready

pub invariant_of-self : goal.invariant_of-self
invariant_of-self c = record {
  command = c.self.invariant.command;
  within = subst (λ (a : AcceptedValue). AsksWithin a.sizes c.go_on-self-inside.result) c.deref.ensures c.go_on-self-inside.ensures.within;
}

pub returns-clause-stands : goal.returns-clause-stands
returns-clause-stands c =
    let r = the_view c.self.inside in
    let asks : IsHelperQuestion r.turn = subst (λ (v : RunValue). IsHelperQuestion v.turn) (sym c.self.view_is) c.requires.asks in
    let stands = subst (λ (v : RunValue). StandsThere v.program.program (seen_header_in v.packet) v.turn v.frame c.args.stack.now) (sym c.self.view_is) c.requires.stands in
    let ready : IsPaused r.program.program (seen_header_in r.packet) c.answer.new.paused c.args.stack.now = paused _ _ r.turn r.frame _ c.args.stack.now c.args.reported asks stands c.answer.ensures in
    let goes = subst (λ (a : AcceptedValue). GoesOnFrom a.program (seen_header_in r.packet) c.answer.new.paused c.args.stack.now c.go_on-self-inside.result c.go_on-self-inside.new.paused c.go_on-self-inside.new.stack) c.deref.ensures c.go_on-self-inside.ensures.turns in
    stands_again _ _ _ _ _ _ _ ready goes

pub returns-clause-run : goal.returns-clause-run
returns-clause-run c = λ n port o low run.
    let r = the_view c.self.inside in
    let asks : IsHelperQuestion r.turn = subst (λ (v : RunValue). IsHelperQuestion v.turn) (sym c.self.view_is) c.requires.asks in
    let goes = subst (λ (a : AcceptedValue). GoesOnFrom a.program (seen_header_in r.packet) c.answer.new.paused c.args.stack.now c.go_on-self-inside.result c.go_on-self-inside.new.paused c.go_on-self-inside.new.stack) c.deref.ensures c.go_on-self-inside.ensures.turns in
    let own = subst (λ (v : RunValue). IsRunOfOpen n port o (at_stack v c.args.stack.now)) (sym c.self.view_is) run in
    reported n port o (at_stack r c.args.stack.now) c.args.reported _ c.answer.new.paused _ _ c.turns_are_paths.ensures c.justified_programs.ensures.safe c.go_on-self-inside.ensures.header low asks c.answer.ensures goes own
