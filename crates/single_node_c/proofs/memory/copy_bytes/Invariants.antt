use Rattle.std.proofs.Common.{◌≡◌, ◌<◌, ◌+◌, ℕ}
use Rattle.std.specs.Prelude.{slice_get}
use Rattle.bank.specs.Records.{byte_in}
use Rattle.single_node_c.proofs.memory.copy_bytes.Given as goal

abbrev pub invariant-loop-k : goal.invariant-loop-k
invariant-loop-k l = ((i : ℕ) → i < l.k → slice_get l.bytes i ≡ byte_in l.bank.first l.bank.bytes (l.address + i))
