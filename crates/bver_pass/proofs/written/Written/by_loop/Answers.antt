use Rattle.std.proofs.Common.{rules, ◌<◌, arith, length}
use Rattle.bpf.specs.Program.{insn_at}
use Rattle.bver_pass.proofs.Masks.{so_far_all, so_far_next, so_far_none}
use Rattle.bver_pass.proofs.written.Written.by_loop.Goals as goal

pub loop-slot-init : goal.loop-slot-init
loop-slot-init c = record {
  so_far = λ p facts within.
      so_far_none p c.args.declared.now c.nothing-written.result c.nothing-written.ensures.registers c.nothing-written.ensures.stores;
  near = omega (arith, c.requires.ordered);
}

pub loop-slot-preserved : goal.loop-slot-preserved
loop-slot-preserved c = record {
  so_far = λ p facts within.
      let slot = c.loop-slot.slot in
      let below : slot < length p.slots = omega (arith, c.loop-slot-test.true, within) in
      so_far_next p c.args.declared.now slot c.loop-slot.written c.with_slot-written.result c.loop-slot.auto.slot (c.loop-slot.invariant.so_far p facts within) (c.with_slot-written.ensures.registers (insn_at p slot) (search rules)) (c.with_slot-written.ensures.stores (insn_at p slot) (search rules));
  near = omega (arith, c.loop-slot-test.true);
}

pub returns : goal.returns
returns c = λ p facts within.
    so_far_all p c.args.declared.now c.loop-slot.slot c.loop-slot.written
    (omega (arith, c.loop-slot-test.false, c.loop-slot.invariant.near)) (c.loop-slot.invariant.so_far p facts within)
