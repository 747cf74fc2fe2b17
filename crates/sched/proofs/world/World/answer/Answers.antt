use Rattle.std.proofs.Common.{◌≡◌, sym, subst, ◌∙◌}
use Rattle.std.specs.Prelude.{slice_set}
use Rattle.sched.specs.Answers.{answering}
use Rattle.sched.specs.Looking.{argument_asked}
use Rattle.sched.specs.Worlds.{GoesOnLawfully, IsWorld, turn_in}
use Rattle.plain_cells.specs.Words.{key_word_at}
use Rattle.sched.specs.declared.event.Outcome.TheVariants.{Told}
use Rattle.sched.specs.contracts.world.World.{the_view}
use Rattle.sched.proofs.Events.{IsAnswered, IsAsked, IsAnsweredAt, asked_there, helper_none, helper_answered, read_again, read_at, written_world}
use Rattle.sched.proofs.world.World.answer.Goals as goal

pub returns-in_default-clause-goes_on : goal.returns-in_default-clause-goes_on
returns-in_default-clause-goes_on c =
    let w = the_view c.self.inside in
    let read = read_at c.self.view_is c.from-at.ensures c.requires c.index.ensures in
    helper_none _ w _ _ _ c.index.result.now read (sym c.in_default.is ∙ c.asked.ensures.value)

pub word-word-requires-clause-map : goal.word-word-requires-clause-map
word-word-requires-clause-map c =
    let w = the_view c.self.inside in
    let read = read_at c.self.view_is c.from-at.ensures c.requires c.index.ensures in
    let asks : IsAsked c.args.self.now w c.from-at.result c.args.port c.in-Some.map c.in-Some.key c.args.helper c.index.result.now = record { read = read; asked = sym c.in-Some.is ∙ c.asked.ensures.value; inside = c.in-Some.ensures.inside; kind = c.in-Some.ensures.kind } in
    (asked_there _ w _ _ _ _ _ _ asks c.self.invariant).0

pub word-word-requires-clause-key : goal.word-word-requires-clause-key
word-word-requires-clause-key c =
    let w = the_view c.self.inside in
    let read = read_at c.self.view_is c.from-at.ensures c.requires c.index.ensures in
    let asks : IsAsked c.args.self.now w c.from-at.result c.args.port c.in-Some.map c.in-Some.key c.args.helper c.index.result.now = record { read = read; asked = sym c.in-Some.is ∙ c.asked.ensures.value; inside = c.in-Some.ensures.inside; kind = c.in-Some.ensures.kind } in
    (asked_there _ w _ _ _ _ _ _ asks c.self.invariant).1

pub set-requires-clause-map : goal.set-requires-clause-map
set-requires-clause-map c =
    let w = the_view c.self.inside in
    let read = read_at c.self.view_is c.from-at.ensures c.requires c.index.ensures in
    let asks : IsAsked c.args.self.now w c.from-at.result c.args.port c.in-Some.map c.in-Some.key c.args.helper c.index.result.now = record { read = read; asked = sym c.in-Some.is ∙ c.asked.ensures.value; inside = c.in-Some.ensures.inside; kind = c.in-Some.ensures.kind } in
    (asked_there _ w _ _ _ _ _ _ asks c.self.invariant).0

pub set-requires-clause-key : goal.set-requires-clause-key
set-requires-clause-key c =
    let w = the_view c.self.inside in
    let read = read_at c.self.view_is c.from-at.ensures c.requires c.index.ensures in
    let asks : IsAsked c.args.self.now w c.from-at.result c.args.port c.in-Some.map c.in-Some.key c.args.helper c.index.result.now = record { read = read; asked = sym c.in-Some.is ∙ c.asked.ensures.value; inside = c.in-Some.ensures.inside; kind = c.in-Some.ensures.kind } in
    (asked_there _ w _ _ _ _ _ _ asks c.self.invariant).1

pub invariant_of-self : goal.invariant_of-self
invariant_of-self c =
    let w = the_view c.self.inside in
    let reported = c.answered-reported.result.0 in
    let next = c.answered-reported.result.1 in
    let first = read_at c.self.view_is c.from-at.ensures c.requires c.index.ensures in
    let asks : IsAsked c.args.self.now w c.from-at.result c.args.port c.in-Some.map c.in-Some.key c.args.helper c.index.result.now = record { read = first; asked = sym c.in-Some.is ∙ c.asked.ensures.value; inside = c.in-Some.ensures.inside; kind = c.in-Some.ensures.kind } in
    let again = read_at c.self.view_is c.from-at.ensures c.requires c.index_mut.ensures.value in
    let answered_at : IsAnsweredAt c.args.self.now w c.from-at.result c.args.port reported c.index_mut.result.now c.answer_question.new.self = record { read = again; answered_as = record { rest = c.answer_question.ensures.rest; run = c.answer_question.ensures.run }; same = c.answer_question.ensures.same } in
    let made = written_world _ w _ _ reported c.in-Some.map c.in-Some.key next _ _ answered_at (asked_there _ w _ _ _ _ _ _ asks c.self.invariant).0 c.self.invariant in
    subst (λ words. IsWorld (record w { words = words; ports = slice_set w.ports c.from-at.result c.answer_question.new.self })) (sym c.set.ensures) made

pub returns-clause-goes_on : goal.returns-clause-goes_on
returns-clause-goes_on c =
    let w = the_view c.self.inside in
    let argument = c.argument-argument.result in
    let reported = c.answered-reported.result.0 in
    let next = c.answered-reported.result.1 in
    let first = read_at c.self.view_is c.from-at.ensures c.requires c.index.ensures in
    let second = read_at c.self.view_is c.from-at.ensures c.requires c.index-2.ensures in
    let again = read_at c.self.view_is c.from-at.ensures c.requires c.index_mut.ensures.value in
    let asks : IsAsked c.args.self.now w c.from-at.result c.args.port c.in-Some.map c.in-Some.key c.args.helper c.index.result.now = record { read = first; asked = sym c.in-Some.is ∙ c.asked.ensures.value; inside = c.in-Some.ensures.inside; kind = c.in-Some.ensures.kind } in
    let asks_again = subst (λ p. IsAsked c.args.self.now w c.from-at.result c.args.port c.in-Some.map c.in-Some.key c.args.helper p) (sym (read_again _ w _ _ _ _ first again)) asks in
    let number = subst (λ p. argument ≡ argument_asked (turn_in p.run)) (sym (read_again _ w _ _ _ _ second again)) c.argument-argument.ensures in
    let answered_at : IsAnsweredAt c.args.self.now w c.from-at.result c.args.port reported c.index_mut.result.now c.answer_question.new.self = record { read = again; answered_as = record { rest = c.answer_question.ensures.rest; run = c.answer_question.ensures.run }; same = c.answer_question.ensures.same } in
    let answered : IsAnswered c.args.helper (key_word_at w.words c.in-Some.map c.in-Some.key) argument reported next = rw (← c.word-word.ensures) (record { reported_is = c.answered-reported.ensures.reported; next_is = c.answered-reported.ensures.following }) in
    let made = helper_answered _ w _ _ c.in-Some.map c.in-Some.key argument reported next c.args.helper _ _ asks_again number answered answered_at c.self.invariant c.words_are_small.ensures in
    subst (λ words. GoesOnLawfully (answering c.args.helper c.args.port) (Told reported) c.args.self.now (record w { words = words; ports = slice_set w.ports c.from-at.result c.answer_question.new.self })) (sym c.set.ensures) made
