use Rattle.std.proofs.Common.{sym, ◌∙◌}
use Rattle.std.proofs.lemmas.Result.{err_from_is_err_and}
use Rattle.bpf.proofs.Front.{loops_tested_fail}
use Rattle.bpf.proofs.Parted.{loops_kept}
use Rattle.bpf.proofs.loops.read_loops.Goals as goal

pub returns-in_err-loops-clause-value : goal.returns-in_err-loops-clause-value
returns-in_err-loops-clause-value c =
    let p = err_from_is_err_and c.from_residual.result c.from_residual.ensures.1 in
    rw (p.1, p.2) (loops_tested_fail c.args.slots c.args.count c.args.bytes.now c.in_err-loops.field-0.0 c.in_err-loops.ensures.value)

pub returns-then-are_loops-clause-loops : goal.returns-then-are_loops-clause-loops
returns-then-are_loops-clause-loops c =
    let kept = sym c.are_loops.ensures ∙ c.if-are_loops.true in
    loops_kept c.args.slots 0 c.in_ok-loops.loops.items (rw c.deref.ensures.value at kept)
