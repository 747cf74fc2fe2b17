use Rattle.std.proofs.Common.{◌∙◌, ap, length, sym}
use Rattle.loading.proofs.Loads.{loads_are_reported}
use Rattle.loading.proofs.laws.loads_are_reported.Goals as goal

pub returns : goal.returns
returns c =
    loads_are_reported c.discard_is_exact.ensures.commands c.made_commands_are_read.ensures.read c.load_packets_are_taken.ensures c.published_programs.ensures.next
    _ _ _ c.ports-ports.ensures.node c.staging.ensures (sym (ap length c.bytes-bytes.ensures.value) ∙ c.bytes-bytes.ensures.size)
