use Rattle.std.proofs.Common.{◌≡◌, ◌≤◌, ◌-◌, ◌*◌, ◌++◌, length, List, Option, true, false}
use Rattle.std.specs.List.{flat_map}
use Rattle.bpf_insn.specs.declared.insn.Insn.{Insn}
use Rattle.bpf.specs.Program.{AreSlots, slot_bytes}
use Rattle.bpf.specs.Reading.{slots_reading}
use Rattle.bpf.proofs.Front.{with_front}
use Rattle.bpf.proofs.Spelled.{skip}
use Rattle.bpf.proofs.slots.read_slots.Given as goal

abbrev pub invariant-loop-slot : goal.invariant-loop-slot
invariant-loop-slot l = record {
  grown : length l.slots.items ≡ l.slot;
  rest : length l.rest ≡ 8 * (l.count - l.slot);
  held : l.second ≡ true → 8 ≤ length l.rest;
  extends : (ys : List (Option Insn)) → AreSlots l.second ys → AreSlots false (l.slots.items ++ ys);
  spelled : l.bytes ≡ flat_map slot_bytes l.slots.items ++ skip l.second l.rest;
  reads : with_front l.slots.items (slots_reading (l.count - l.slot) l.slot l.second l.rest) ≡ slots_reading l.count 0 false l.bytes;
}
