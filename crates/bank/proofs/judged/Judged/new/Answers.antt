use Rattle.std.proofs.Common.{rules, ◌≡◌, Some, IfOk, subst}
use Rattle.rmap.specs.Command.{command_of}
use Rattle.rmap.specs.Windows.{IsWithinBank, place_of}
use Rattle.bank.proofs.judged.Judged.new.Goals as goal

pub new-admitted-requires : goal.new-admitted-requires
new-admitted-requires c =
    let windows = c.args.windows.now in
    let place = c.unwrap-place.result in
    let lies : place_of (command_of c.args.packet) windows ≡ Some place = search rules in
    let found : IfOk c.checked_place.result (IsWithinBank windows (command_of c.args.packet)) = subst (λ command. IfOk c.checked_place.result (IsWithinBank windows command)) c.again.ensures c.checked_place.ensures.inside in
    record {
      command = c.requires.command;
      allowed = c.requires.allowed;
      lies = lies;
      inside = subst (λ r. IfOk r (IsWithinBank windows (command_of c.args.packet))) c.unwrap-place.ensures found;
    }
