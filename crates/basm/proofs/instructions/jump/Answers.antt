use Rattle.std.proofs.Common.{rules, refl, sym, ap, ◌∙◌, arith}
use Rattle.std.specs.Prelude.{FitsSigned, Ok}
use Rattle.std.specs.Int.{w16}
use Rattle.std.proofs.lemmas.Int.{to_z-of_z}
use Rattle.std.proofs.lemmas.Result.{IfOk-at_ok}
use Rattle.bpf_insn.specs.declared.insn.Insn.TheVariants.{Jump}
use Rattle.basm.proofs.OperandReadings.{both_of, one_value, three_at, three_from}
use Rattle.basm.proofs.instructions.jump.Goals as goal

pub returns-clause-writes : goal.returns-clause-writes
returns-clause-writes c =
    let fits : FitsSigned w16 c.in_ok-dst.offset = search rules in
    let operands = IfOk-at_ok _ c.in_ok-dst.ensures.both.0 c.both.ensures.both in
    let dst = IfOk-at_ok _ operands.0 c.reg.ensures.writes in
    let src = IfOk-at_ok _ operands.1 c.source.ensures.writes in
    let target = IfOk-at_ok _ c.in_ok-dst.ensures.both.1 c.read_short_target-target.ensures.writes in
    rw (to_z-of_z w16 c.in_ok-dst.offset fits) (record {
      name = refl;
      operands = three_from (λ operand. operand.now) c.args.operands.now _ _ _ _ (omega (arith, c.in-len3)) dst src target;
    })

pub returns-clause-exact : goal.returns-clause-exact
returns-clause-exact c = λ dst src offset w.
    let x = c.in_ok-dst in
    let fits : FitsSigned w16 x.offset = search rules in
    let parts = three_at (λ operand. operand.now) c.args.operands.now _ _ _ _ w in
    let operands = both_of c.reg.result c.source.result c.both.result dst src c.both.ensures.exact (c.reg.ensures.exact dst parts.0) (c.source.ensures.exact src parts.1) in
    let target = c.read_short_target-target.ensures.exact offset parts.2.0 parts.2.1 in
    let read = both_of c.both.result c.read_short_target-target.result c.both-2.result (dst, src) offset c.both-2.ensures.exact operands target in
    let same = one_value ((x.dst, x.src), x.offset) ((dst, src), offset) (sym x.was ∙ read) in
    rw (to_z-of_z w16 x.offset fits) (ap (λ p. Ok (Jump (record { condition = c.args.condition; width = c.args.width; dst = p.0.0; src = p.0.1 }) p.1)) same)
