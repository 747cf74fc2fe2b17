use Rattle.bver_pass.proofs.Widening.{IsWidening}
use Rattle.bver_pass.proofs.body.Body.widen_all.Given as goal

abbrev pub invariant-loop-number : goal.invariant-loop-number
invariant-loop-number l =
    IsWidening l.self.program l.self.declared l.lowered l.self.place l.fn.state l.state l.number
