use Rattle.std.proofs.Common.{ℕ, length, refl, ap, subst, ◌∙◌}
use Rattle.std.proofs.lemmas.List.Elements.{All-nil}
use Rattle.bpf.specs.Program.{Program}
use Rattle.machine.specs.Sizes.{Maps}
use Rattle.node_parts.specs.contracts.banks.Banks.{the_view}
use Rattle.bver.specs.Justified.{IsJustified}
use Rattle.sched.specs.Worlds.{WorldValue, shown_in_all}
use Rattle.sched.proofs.Making.{IsMade, made_of, made_world}
use Rattle.sched.proofs.world.World.of.Goals as goal

pub invariant_of-result : goal.invariant_of-result
invariant_of-result c =
    let config = c.args.config.now in
    let a = c.args.factory in
    let factory = a.program in
    let w : WorldValue = record { windows = c.windows.result; sizes = config.sizes; banks = the_view c.banks.inside; words = c.in_ok-new.field-0; programs = c.in_ok-in_all_slots.field-0; count = 0; ports = c.in_ok-free_ports.field-0.items } in
    let made : IsMade config factory w a = record {
      windows_are = c.windows.ensures;
      sizes_are = refl;
      banks_are = c.banks.view_is ∙ c.requires.banks;
      cells = c.in_ok-new.ensures.cells;
      zeros = c.in_ok-new.ensures.zeros;
      programs_are = c.in_ok-in_all_slots.ensures ∙ ap shown_in_all c.in_ok-factory.ensures.ok;
      count_is = refl;
      ports_are = c.in_ok-free_ports.ensures (length config.banks.now) config.ports c.requires.by_port;
      few = c.requires.few_ports;
      program = refl;
      accepted = c.requires.factory;
      justified = subst (λ (maps : Maps). IsJustified a.program maps) c.requires.factory c.image-justified.ensures.justified;
    } in
    made_world config factory w a c.made_are_paired.ensures made

pub returns-clause-world : goal.returns-clause-world
returns-clause-world c =
    let config = c.args.config.now in
    let a = c.args.factory in
    let factory = a.program in
    let w : WorldValue = record { windows = c.windows.result; sizes = config.sizes; banks = the_view c.banks.inside; words = c.in_ok-new.field-0; programs = c.in_ok-in_all_slots.field-0; count = 0; ports = c.in_ok-free_ports.field-0.items } in
    let made : IsMade config factory w a = record {
      windows_are = c.windows.ensures;
      sizes_are = refl;
      banks_are = c.banks.view_is ∙ c.requires.banks;
      cells = c.in_ok-new.ensures.cells;
      zeros = c.in_ok-new.ensures.zeros;
      programs_are = c.in_ok-in_all_slots.ensures ∙ ap shown_in_all c.in_ok-factory.ensures.ok;
      count_is = refl;
      ports_are = c.in_ok-free_ports.ensures (length config.banks.now) config.ports c.requires.by_port;
      few = c.requires.few_ports;
      program = refl;
      accepted = c.requires.factory;
      justified = subst (λ (maps : Maps). IsJustified a.program maps) c.requires.factory c.image-justified.ensures.justified;
    } in
    made_of config factory w a made

pub returns-clause-node : goal.returns-clause-node
returns-clause-node c =
    let a = c.args.factory in
    record {
      few_ports = c.requires.few_ports;
      factory = subst (λ (maps : Maps). IsJustified a.program maps) c.requires.factory c.image-justified.ensures.justified;
      firsts = All-nil (λ (made : ℕ × Program). IsJustified made.1 c.args.config.now.sizes);
    }
