use Rattle.std.proofs.Common.{rules, ◌≡◌, Some, None, subst}
use Rattle.rmap.specs.Checks.{header_line}
use Rattle.rmap.specs.Command.{command_of, discard_of}
use Rattle.rmap.specs.Windows.{IsWithinBank, place_of}
use Rattle.bank.specs.Admission.{IsPlacedBy}
use Rattle.node_parts.proofs.stop.checked.Goals as goal

pub returns-in-Ok-checked_place : goal.returns-in-Ok-checked_place
returns-in-Ok-checked_place c =
    let windows = c.args.windows.now in
    let place = c.in-Ok-checked_place.place in
    let read : c.in-Ok.command ≡ command_of c.args.packet.now = search rules in
    let kept : discard_of c.args.packet.now.bytes ≡ None = search rules in
    let placed : IsPlacedBy windows c.args.packet.now place = record {
      command = kept;
      allowed = subst (λ command. header_line command windows ≡ None) read c.in-Ok-checked_place.ensures.checked.0;
      lies = subst (λ command. place_of command windows ≡ Some place) read c.in-Ok-checked_place.ensures.checked.1;
      inside = subst (λ command. IsWithinBank windows command place) read c.in-Ok-checked_place.ensures.inside;
    } in
    (placed, c.requires)
