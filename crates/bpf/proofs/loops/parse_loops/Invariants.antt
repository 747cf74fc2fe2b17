use Rattle.std.proofs.Common.{◌≡◌, ◌-◌, ◌*◌, ◌++◌, length}
use Rattle.std.specs.List.{flat_map}
use Rattle.bpf.specs.Program.{loop_bytes}
use Rattle.bpf.specs.Reading.{loops_in}
use Rattle.bpf.proofs.Front.{with_front}
use Rattle.bpf.proofs.loops.parse_loops.Given as goal

abbrev pub invariant-loop : goal.invariant-loop
invariant-loop l = record {
  grown : length l.loops.items ≡ l.counter;
  rest : length l.rest ≡ 8 * (l.count - l.counter);
  reads : with_front l.loops.items (loops_in (l.count - l.counter) l.rest) ≡ loops_in l.count l.bytes;
  spelled : l.bytes ≡ flat_map loop_bytes l.loops.items ++ l.rest;
}
