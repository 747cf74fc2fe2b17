use Rattle.std.proofs.Common.{◌≡◌, map}
use Rattle.annals.specs.Chains.{instrument}
use Rattle.bank.specs.Records.{extent_of}
use Rattle.node_parts.specs.Nodes.{range_of}
use Rattle.job_ports.specs.Starts.{SetsAll}
use Rattle.job_ports.proofs.starts.set_all.Given as goal

abbrev pub invariant-loop-number : goal.invariant-loop-number
invariant-loop-number g l = record {
  sets : SetsAll l.banks l.contents l.number l.fn.known l.known;
  line : l.line.port ≡ instrument;
  extents : map extent_of l.node ≡ map range_of l.banks;
}
