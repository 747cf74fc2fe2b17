use Rattle.std.proofs.Common.{◌≡◌, List, length, sym, ap, ◌∙◌, subst, arith}
use Rattle.std.specs.List.{flat_map}
use Rattle.bpf.specs.Parts.{placed_slots}
use Rattle.bpf_insn.specs.declared.insn.Insn.{Insn}
use Rattle.bpf.specs.Program.{Program}
use Rattle.policy.specs.Code.{table_code}
use Rattle.policy.specs.Meant.{IsMadeOf}
use Rattle.policy.proofs.Weighing.{table_long, table_some}
use Rattle.policy.proofs.compiler.image_of_rules.Goals as goal

pub image_of-requires-clause-some : goal.image_of-requires-clause-some
image_of-requires-clause-some c =
    let same : c.as_slice.result.now ≡ table_code c.args.rules.now = cc (c.as_slice.ensures.value, c.in_ok-insns.ensures) in
    omega (arith, ap (λ (insns : List Insn). length insns) same, table_some c.args.rules.now)

pub image_of-requires-clause-few : goal.image_of-requires-clause-few
image_of-requires-clause-few c =
    let same : c.as_slice.result.now ≡ table_code c.args.rules.now = cc (c.as_slice.ensures.value, c.in_ok-insns.ensures) in
    omega (arith, ap (λ (insns : List Insn). length (flat_map placed_slots insns)) same, table_long c.args.rules.now, c.requires.room)
