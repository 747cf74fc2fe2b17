use Rattle.std.proofs.Common.{◌≡◌, ◌++◌, take}
use Rattle.std.specs.Prelude.{map}
use Rattle.publish.specs.Firsts.{first_entry, line_with_firsts}
use Rattle.publish.proofs.programs.install_all.Given as goal

abbrev pub invariant-loop-index : goal.invariant-loop-index
invariant-loop-index g l =
    (l.publisher ≡ l.fn.publisher ++ map first_entry (take l.index l.firsts))
    × (l.line ≡ line_with_firsts l.fn.line (take l.index l.firsts))
