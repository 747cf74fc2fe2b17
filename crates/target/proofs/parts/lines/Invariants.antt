use Rattle.std.proofs.Common.{◌≡◌, ◌+◌}
use Rattle.target.specs.Lines.{fresh_lines}
use Rattle.target.proofs.parts.lines.Given as goal

abbrev pub invariant-loop-port : goal.invariant-loop-port
invariant-loop-port g l = record {
  lines : l.lines.items ≡ fresh_lines l.port;
  family : l.history.0 ≡ g.J.Family.book;
  chains : l.port + l.history.1 ≡ 32;
}
