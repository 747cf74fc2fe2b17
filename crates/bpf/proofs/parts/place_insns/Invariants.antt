use Rattle.std.proofs.Common.{◌≡◌, ◌++◌, false, drop}
use Rattle.std.specs.List.{flat_map}
use Rattle.bpf.specs.Program.{AreSlots}
use Rattle.bpf.specs.Parts.{placed_slots}
use Rattle.bpf.proofs.parts.place_insns.Given as goal

abbrev pub invariant-loop-insn : goal.invariant-loop-insn
invariant-loop-insn l = record {
  so_far : l.slots.items ++ flat_map placed_slots (drop l.insn-index l.insns) ≡ flat_map placed_slots l.insns;
  code : AreSlots false l.slots.items;
}
