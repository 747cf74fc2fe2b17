use Rattle.std.proofs.Common.{◌≡◌, ◌+◌, ◌-◌, ◌<◌, ◌≤◌, arith, rules, length, length-set}
use Rattle.stepper.proofs.Functions.{byte_after-none, byte_after-more, bytes_in-all, rest_more}
use Rattle.stepper.proofs.outcomes.put.Goals as goal

pub loop-k-init : goal.loop-k-init
loop-k-init c =
    let none : c.args.place - c.args.place ≡ 0 = omega arith in
    record {
      rest = rw none (search rules);
      size = c.told-stack;
      written = byte_after-none c.args.stack.now c.args.place c.args.number;
    }

pub loop-k-preserved : goal.loop-k-preserved
loop-k-preserved c =
    let before = c.loop-k.invariant in
    let above : c.args.place ≤ c.loop-k.k = omega arith in
    let within : c.loop-k.k < length c.loop-k.stack = omega arith in
    record {
      rest = rw before.rest (rest_more c.args.number c.args.place c.loop-k.k above);
      size = rw length-set before.size;
      written = rw before.rest (byte_after-more c.args.stack.now c.loop-k.stack c.args.place c.loop-k.k c.args.number before.written above within);
    }

pub returns : goal.returns
returns c =
    let end : c.loop-k.k ≡ c.args.place + c.args.bytes = omega arith in
    let written = rw end at c.loop-k.invariant.written in
    bytes_in-all c.args.stack.now c.loop-k.stack c.args.place c.args.bytes c.args.number written
