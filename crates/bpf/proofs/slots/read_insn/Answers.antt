use Rattle.std.proofs.Common.{rules, drop, take}
use Rattle.bpf_insn.specs.Faults.{IsFault}
use Rattle.bpf_insn.specs.Spelling.{Spells}
use Rattle.bpf.specs.Reading.{slot_in}
use Rattle.bpf.proofs.SlotReads.{fault_read, insn_read}
use Rattle.bpf.proofs.slots.read_insn.Goals as goal

pub returns-in-Ok-clause-value : goal.returns-in-Ok-clause-value
returns-in-Ok-clause-value c =
    let bytes = c.args.bytes.now in
    let spells : Spells (take 8 bytes) (slot_in (drop 8 bytes)) c.in-Ok.insn = search rules in
    insn_read c.spelling_laws.ensures.read c.args.slot bytes c.in-Ok.insn spells

pub returns-in-Err-clause-value : goal.returns-in-Err-clause-value
returns-in-Err-clause-value c =
    let bytes = c.args.bytes.now in
    let stands : IsFault (take 8 bytes) (slot_in (drop 8 bytes)) c.in-Err.fault = search rules in
    fault_read c.spelling_laws.ensures.named c.args.slot bytes c.in-Err.fault c.requires (λ i. search rules) stands
