use Rattle.std.proofs.Common.{rules}
use Rattle.bpf_insn.proofs.Spelled.{found_spelled, only_spelled}
use Rattle.bpf_insn.proofs.Explained.{fault_explained}
use Rattle.std.specs.Option.{option_copied}
use Rattle.bpf_insn.proofs.decoder.decode.Goals as goal

pub returns-clause-found : goal.returns-clause-found
returns-clause-found c =
    found_spelled c.args.bytes.now (option_copied c.args.next) _ c.checked.result c.checked.ensures.insn c.checked.ensures.own c.read.ensures.bytes

pub returns-clause-only : goal.returns-clause-only
returns-clause-only c =
    λ i s. only_spelled c.args.bytes.now (option_copied c.args.next) _ c.checked.result i c.checked.ensures.value c.read.ensures.value s

pub returns-clause-fault : goal.returns-clause-fault
returns-clause-fault c =
    fault_explained c.args.bytes.now (option_copied c.args.next) _ c.checked.result c.checked.ensures.value c.read.ensures.value (search rules)
    (λ i s. only_spelled c.args.bytes.now (option_copied c.args.next) _ c.checked.result i c.checked.ensures.value c.read.ensures.value s)
