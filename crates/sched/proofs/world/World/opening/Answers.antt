use Rattle.std.proofs.Common.{ap, subst, arith, ◌∙◌, length, ◌<◌}
use Rattle.std.specs.Arc.{arc_value}
use Rattle.rmap.specs.Command.{command_kind}
use Rattle.node_parts.specs.Slots.{slot_of}
use Rattle.sched.specs.BeginsHistory.{HasBegun}
use Rattle.sched.specs.contracts.world.World.{the_view}
use Rattle.sched.specs.contracts.shown.SlotVersion.{the_view as shown_view}
use Rattle.sched.proofs.Beginning.{IsBegin, has_begun, read_there}
use Rattle.sched.proofs.world.World.opening.Goals as goal

pub returns-clause-begun : goal.returns-clause-begun
returns-clause-begun c = λ port run begun.
    let w = the_view c.self.inside in
    let place = c.args.admitted.place in
    let shown = shown_view c.shown.inside in
    let a = arc_value c.in_ok-program.program in
    let here = subst (λ packet. HasBegun port packet place a shown.1 run) c.into_packet-packet.ensures (subst (λ at. HasBegun port c.into_packet-packet.result at a shown.1 run) c.place-place.ensures.value begun) in
    let below : c.from.result < length w.programs = omega (arith, c.from.ensures, c.slot-slot.ensures.few, c.self.told) in
    let begins : IsBegin c.args.self.now w c.args.admitted.packet place c.from.result shown a run = record {
      is = c.self.view_is;
      placed = c.requires.placed;
      slot_is = c.from.ensures ∙ c.slot-slot.ensures.value ∙ ap (slot_of c.kind.result) c.place-place.ensures.value ∙ ap (λ kind. slot_of kind place) (c.kind.ensures ∙ ap command_kind c.command.ensures.command);
      there = read_there w.programs c.from.result c.index-self-from.result shown below c.index-self-from.is c.shown.view_is;
      same = c.in_ok-program.ensures;
      with = here.with;
    } in
    has_begun _ w _ _ _ _ shown a _ begins here.begins c.self.invariant
