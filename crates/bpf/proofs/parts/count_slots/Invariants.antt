use Rattle.std.proofs.Common.{◌≡◌, ◌≤◌, ◌+◌, ◌*◌, drop, length}
use Rattle.std.specs.List.{flat_map}
use Rattle.bpf.specs.Parts.{placed_slots}
use Rattle.bpf.proofs.parts.count_slots.Given as goal

abbrev pub invariant-loop-insn : goal.invariant-loop-insn
invariant-loop-insn l = record {
  few : l.count ≤ 2 * l.insn-index;
  total : l.count + length (flat_map placed_slots (drop l.insn-index l.insns)) ≡ length (flat_map placed_slots l.insns);
}
