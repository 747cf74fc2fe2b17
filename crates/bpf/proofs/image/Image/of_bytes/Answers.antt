use Rattle.std.proofs.Common.{rules, arith}
use Rattle.std.proofs.lemmas.Result.{err_from_is_err_and}
use Rattle.bpf.proofs.Whole.{Cut, header_fails, other_length, loops_fail, slots_fail, is_read, is_spelled}
use Rattle.bpf.proofs.image.Image.of_bytes.Goals as goal

pub returns-in_err-header-clause-exact : goal.returns-in_err-header-clause-exact
returns-in_err-header-clause-exact c =
    let p = err_from_is_err_and c.from_residual.result c.from_residual.ensures.1 in
    rw (p.1, p.2) (header_fails c.args.bytes.now c.in_err-header.field-0.0 c.in_err-header.ensures.value)

pub returns-then-bytes-code-clause-exact : goal.returns-then-bytes-code-clause-exact
returns-then-bytes-code-clause-exact c =
    other_length c.args.bytes.now c.in_ok-header.header c.in_ok-header.ensures.value (λ e. c.if-bytes-code.true (omega (arith, e)))

pub returns-in_err-loops-clause-exact : goal.returns-in_err-loops-clause-exact
returns-in_err-loops-clause-exact c =
    let p = err_from_is_err_and c.from_residual-in_err-loops.result c.from_residual-in_err-loops.ensures.1 in
    let cut : Cut c.args.bytes.now c.in_ok-header.header _ _ _ _ = record { header = c.in_ok-header.ensures.value; len = omega arith; at_code = omega arith; is_front = c.split_at.ensures.front; is_middle = c.split_at-2.ensures.back; is_tail = c.split_at.ensures.back } in
    rw (p.1, p.2) (loops_fail c.args.bytes.now c.in_ok-header.header _ _ _ _ c.in_err-loops.field-0.0 cut c.in_err-loops.ensures.value)

pub returns-in_err-slots-clause-exact : goal.returns-in_err-slots-clause-exact
returns-in_err-slots-clause-exact c =
    let p = err_from_is_err_and c.from_residual-in_err-slots.result c.from_residual-in_err-slots.ensures.1 in
    let cut : Cut c.args.bytes.now c.in_ok-header.header _ _ _ _ = record { header = c.in_ok-header.ensures.value; len = omega arith; at_code = omega arith; is_front = c.split_at.ensures.front; is_middle = c.split_at-2.ensures.back; is_tail = c.split_at.ensures.back } in
    rw (p.1, p.2) (slots_fail c.args.bytes.now c.in_ok-header.header _ _ _ _ c.in_err-slots.field-0.0 c.in_ok-loops.loops.items cut c.in_ok-loops.ensures.value c.in_err-slots.ensures.value)

pub returns-clause-found : goal.returns-clause-found
returns-clause-found c =
    let cut : Cut c.args.bytes.now c.in_ok-header.header _ _ _ _ = record { header = c.in_ok-header.ensures.value; len = omega arith; at_code = omega arith; is_front = c.split_at.ensures.front; is_middle = c.split_at-2.ensures.back; is_tail = c.split_at.ensures.back } in
    rw c.of_parts.ensures (search rules, is_spelled c.args.bytes.now c.in_ok-header.header _ _ _ _ c.in_ok-loops.loops.items c.in_ok-slots.slots.items cut c.in_ok-header.ensures.spelled c.in_ok-loops.ensures.length c.in_ok-slots.ensures.length c.in_ok-loops.ensures.spelled c.in_ok-slots.ensures.spelled.1)

pub returns-clause-exact : goal.returns-clause-exact
returns-clause-exact c =
    let cut : Cut c.args.bytes.now c.in_ok-header.header _ _ _ _ = record { header = c.in_ok-header.ensures.value; len = omega arith; at_code = omega arith; is_front = c.split_at.ensures.front; is_middle = c.split_at-2.ensures.back; is_tail = c.split_at.ensures.back } in
    rw c.of_parts.ensures (is_read c.args.bytes.now c.in_ok-header.header _ _ _ _ c.in_ok-loops.loops.items c.in_ok-slots.slots.items cut c.in_ok-loops.ensures.value c.in_ok-slots.ensures.value)
