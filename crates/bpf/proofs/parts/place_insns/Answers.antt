use Rattle.std.proofs.Common.{sym}
use Rattle.bpf.proofs.Parted.{placed_more, are_more}
use Rattle.bpf.proofs.parts.place_insns.Goals as goal

pub loop-insn-preserved : goal.loop-insn-preserved
loop-insn-preserved c = record {
  so_far = rw c.in_ok-place_insn.ensures.placed (placed_more c.args.insns.now c.loop-insn.insn-index c.insn-item.result c.loop-insn.slots.items _ c.loop-insn-test.true (sym c.insn-item.is) c.loop-insn.invariant.so_far);
  code = rw c.in_ok-place_insn.ensures.placed (are_more c.loop-insn.slots.items c.insn-item.result c.loop-insn.invariant.code c.in_ok-place_insn.ensures.limits);
}
