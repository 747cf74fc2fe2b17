use Rattle.std.proofs.Common.{subst, refl, []}
use Rattle.std.specs.Arc.{arc_value}
use Rattle.bver.specs.Justified.{AcceptedValue}
use Rattle.brun.specs.Pauses.{IsPaused, IsAt, AsksWithin}
use Rattle.sched.specs.Looking.{seen_header_in}
use Rattle.sched.proofs.Runs.{GoesOnFrom, begun, stands_again}
use Rattle.sched.proofs.run.Run.begin.Goals as goal

pub go_on-turn-requires-clause-paused : goal.go_on-turn-requires-clause-paused
go_on-turn-requires-clause-paused c = record {
  port = c.args.port;
  low = c.requires.port;
  calls = [];
  stands = c.start-paused.ensures _ _ _ c.told-stack;
}

pub invariant_of-result : goal.invariant_of-result
invariant_of-result c = record {
  command = c.requires.command;
  within = subst (λ (v : AcceptedValue). AsksWithin v.sizes c.go_on-turn.result) c.deref-2.ensures c.go_on-turn.ensures.within;
}

pub returns-clause-stands : goal.returns-clause-stands
returns-clause-stands c =
    let a = arc_value c.args.opening.program in
    let ready : IsPaused a.program (seen_header_in c.args.opening.packet) c.start-paused.result c.args.stack.now = record { port = c.args.port; low = c.requires.port; calls = []; stands = c.start-paused.ensures _ _ _ c.told-stack } in
    let goes = subst (λ (v : AcceptedValue). GoesOnFrom v.program (seen_header_in c.args.opening.packet) c.start-paused.result c.args.stack.now c.go_on-turn.result c.go_on-turn.new.paused c.go_on-turn.new.stack) c.deref-2.ensures c.go_on-turn.ensures.turns in
    stands_again _ _ _ _ _ _ _ ready goes

pub returns-clause-begun : goal.returns-clause-begun
returns-clause-begun c =
    let a = arc_value c.args.opening.program in
    let starts : IsAt a.program (seen_header_in c.args.opening.packet) c.args.port [] c.start-paused.result c.args.stack.now = c.start-paused.ensures _ _ _ c.told-stack in
    let goes = subst (λ (v : AcceptedValue). GoesOnFrom v.program (seen_header_in c.args.opening.packet) c.start-paused.result c.args.stack.now c.go_on-turn.result c.go_on-turn.new.paused c.go_on-turn.new.stack) c.deref-2.ensures c.go_on-turn.ensures.turns in
    record {
      with = record { packet_is = refl; place_is = refl; program_is = refl; generation_is = refl };
      begins = λ n h placed program accepted.
          begun n c.args.port h c.args.opening.packet c.args.opening.place a c.args.opening.generation _ c.start-paused.result _ c.args.stack.now _ c.turns_are_paths.ensures c.justified_programs.ensures.safe c.go_on-turn.ensures.header c.requires.port placed program accepted starts goes;
    }
