use Rattle.std.proofs.Common.{sym, ◌∙◌}
use Rattle.bpf_insn.proofs.Spelled.{slots_same}
use Rattle.bpf_insn.proofs.decoder.has_fields.Goals as goal

pub returns-then-eq-clause-own : goal.returns-then-eq-clause-own
returns-then-eq-clause-own c =
    λ second. slots_same c.args.insn.now c.first_fields.result c.args.fields.now c.second_immediate.result _ c.first_fields.ensures.value c.second_immediate.ensures (sym c.eq.ensures ∙ c.if-eq.true) (c.has_second.ensures.own second)
