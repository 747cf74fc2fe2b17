use Rattle.bpf_insn.proofs.Spelled.{insn_reading-spelled}
use Rattle.bpf_insn.proofs.Apart.{one_meaning, apart}
use Rattle.bpf_insn.proofs.Explained.{fault_read}
use Rattle.bpf_insn.proofs.Read.{is_spelled}
use Rattle.bpf_insn.proofs.Named.{named_read}
use Rattle.bpf_insn.proofs.laws.spelling_laws.Goals as goal

pub returns : goal.returns
returns c = record { read = insn_reading-spelled; one_meaning = one_meaning; apart = apart; fault = fault_read; spelled = is_spelled; named = named_read }
