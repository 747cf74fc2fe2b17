use Rattle.std.proofs.Common.{rules}
use Rattle.bpf_insn.proofs.SlotBytes.{slot_bytes_of-read}
use Rattle.bpf_insn.proofs.fields.Fields.read.Goals as goal

pub returns-clause-bytes : goal.returns-clause-bytes
returns-clause-bytes c = slot_bytes_of-read c.args.bytes.now _ (search rules) (search rules) (search rules)
