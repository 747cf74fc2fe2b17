use Rattle.std.proofs.Common.{◌≡◌, ◌≤◌, ◌+◌, drop}
use Rattle.bpf.specs.Weight.{weight_from, saturated_weight}
use Rattle.bpf.proofs.weight.weight.Given as goal

abbrev pub invariant-loop-insn : goal.invariant-loop-insn
invariant-loop-insn l = record {
  slot : l.slot ≡ l.insn-index;
  small : l.weight ≤ 18446744073709551615;
  total : saturated_weight (l.weight + weight_from l.loops l.insn-index (drop l.insn-index l.slots)) ≡ saturated_weight (weight_from l.loops 0 l.slots);
}
