use Rattle.std.proofs.Common.{arith, length-append}
use Rattle.std.proofs.lemmas.Result.{err_from_is_err_and}
use Rattle.bpf.specs.Program.{loop_bytes}
use Rattle.bpf.specs.Reading.{loops_in}
use Rattle.bpf.proofs.Spelled.{spelled_more, front_and_rest, loops_ended}
use Rattle.bpf.proofs.Front.{loop_read, loop_fails, loops_done, is_failure}
use Rattle.bpf.proofs.loops.parse_loops.Goals as goal

pub returns-in_err-found-clause-value : goal.returns-in_err-found-clause-value
returns-in_err-found-clause-value c =
    let p = err_from_is_err_and c.from_residual-in_err-found.result c.from_residual-in_err-found.ensures.1 in
    let total = loops_in c.args.count c.args.bytes.now in
    rw (p.1, p.2) (is_failure c.in_err-found.field-0.0 total (loop_fails c.in_err-found.field-0.0 c.loop.loops.items c.args.count c.loop.counter c.loop.rest.now total c.loop-test.true c.in_err-found.ensures.value c.loop.invariant.reads))

pub loop-preserved : goal.loop-preserved
loop-preserved c =
    let before = c.loop.loops.items in
    let found = c.in_ok-found.found in
    record {
      grown = rw c.in_ok-push.ensures.items (simp length-append (omega arith));
      rest = omega (arith, c.split_at.ensures.back_len);
      reads = rw (c.in_ok-push.ensures.items, c.split_at.ensures.back) (loop_read before c.args.count c.loop.counter c.loop.rest.now found (loops_in c.args.count c.args.bytes.now) c.loop-test.true c.in_ok-found.ensures.value c.loop.invariant.reads);
      spelled = rw c.in_ok-push.ensures.items (spelled_more loop_bytes c.args.bytes.now before found c.loop.rest.now _ c.loop.invariant.spelled (front_and_rest c.loop.rest.now (loop_bytes found) _ c.in_ok-found.ensures.spelled c.split_at.ensures.back));
    }

pub returns-clause-value : goal.returns-clause-value
returns-clause-value c = loops_done c.loop.loops.items c.args.count c.loop.counter c.loop.rest.now (loops_in c.args.count c.args.bytes.now) c.loop-test.false c.loop.invariant.reads

pub returns-clause-spelled : goal.returns-clause-spelled
returns-clause-spelled c = loops_ended loop_bytes c.args.bytes.now c.loop.loops.items c.loop.rest.now (omega arith) c.loop.invariant.spelled
