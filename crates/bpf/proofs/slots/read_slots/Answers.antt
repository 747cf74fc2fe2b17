use Rattle.std.proofs.Common.{false, arith, length-append}
use Rattle.std.proofs.lemmas.Result.{err_from_is_err_and}
use Rattle.bpf.specs.Reading.{slots_reading}
use Rattle.bpf.proofs.Spelled.{slot_held, slot_extends, slot_spelled, slots_ended}
use Rattle.bpf.proofs.Front.{slot_read, slot_fails, slots_done}
use Rattle.bpf.proofs.slots.read_slots.Goals as goal

pub returns-in_err-second-clause-value : goal.returns-in_err-second-clause-value
returns-in_err-second-clause-value c =
    let p = err_from_is_err_and c.from_residual-in_err-second.result c.from_residual-in_err-second.ensures.1 in
    let total = slots_reading c.args.count 0 false c.args.bytes.now in
    rw (p.1, p.2) (slot_fails c.in_err-second.field-0.0 c.loop-slot.slots.items c.args.count c.loop-slot.slot c.loop-slot.second c.loop-slot.rest.now total c.loop-slot-test.true c.in_err-second.ensures.fails c.loop-slot.invariant.reads)

pub loop-slot-preserved : goal.loop-slot-preserved
loop-slot-preserved c =
    let before = c.loop-slot.slots.items in
    let pushed = c.in_ok-second.ensures.pushed in
    let now = c.loop-slot.rest.now in
    let h = c.loop-slot.invariant in
    record {
      grown = rw pushed.appended (simp length-append (omega arith));
      rest = omega (arith, c.split_at.ensures.back_len);
      held = rw c.split_at.ensures.back (slot_held c.loop-slot.second _ now pushed.found pushed.spelled pushed.next);
      extends = rw pushed.appended (slot_extends before c.loop-slot.second _ now pushed.found pushed.spelled pushed.next h.extends);
      spelled = rw (pushed.appended, c.split_at.ensures.back) (slot_spelled c.args.bytes.now before c.loop-slot.second _ now pushed.found pushed.spelled pushed.next h.spelled);
      reads = rw (pushed.appended, pushed.next, c.split_at.ensures.back) (slot_read before c.args.count c.loop-slot.slot c.loop-slot.second now pushed.found (slots_reading c.args.count 0 false c.args.bytes.now) c.loop-slot-test.true pushed.read h.reads);
    }

pub returns-clause-value : goal.returns-clause-value
returns-clause-value c = slots_done c.loop-slot.slots.items c.args.count c.loop-slot.slot c.loop-slot.second c.loop-slot.rest.now (slots_reading c.args.count 0 false c.args.bytes.now) c.loop-slot-test.false c.loop-slot.invariant.reads

pub returns-clause-spelled : goal.returns-clause-spelled
returns-clause-spelled c = slots_ended c.args.bytes.now c.loop-slot.slots.items c.loop-slot.second c.loop-slot.rest.now (omega arith) c.loop-slot.invariant.held c.loop-slot.invariant.extends c.loop-slot.invariant.spelled
