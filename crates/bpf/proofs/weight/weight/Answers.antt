use Rattle.std.proofs.Common.{arith, sym}
use Rattle.bpf.proofs.Weighed.{weight_step, weight_done}
use Rattle.bpf.proofs.weight.weight.Goals as goal

pub loop-insn-preserved : goal.loop-insn-preserved
loop-insn-preserved c =
    let step = weight_step c.loop-insn.weight c.args.loops.now c.args.slots.now c.loop-insn.insn-index c.insn-item.result _ c.loop-insn-test.true (sym c.insn-item.is) c.loop-insn.invariant.total in
    record {
      slot = omega arith;
      small = rw c.saturating_add-weight.ensures (omega arith);
      total = rw (c.saturating_add-weight.ensures, c.part.ensures, c.loop-insn.invariant.slot) step;
    }

pub returns : goal.returns
returns c = weight_done c.loop-insn.weight c.args.loops.now c.args.slots.now c.loop-insn.insn-index _ c.loop-insn-test.false c.loop-insn.invariant.small c.loop-insn.invariant.total
