use Rattle.std.proofs.Common.{◌≡◌, ℕ, ◌-◌, ◌/◌, ◌^◌, length, get_or, None}
use Rattle.stepper.specs.Bytes.{bytes_in}
use Rattle.machine.specs.Memory.{byte_after}
use Rattle.stepper.proofs.outcomes.put.Given as goal

abbrev pub invariant-loop-k : goal.invariant-loop-k
invariant-loop-k l = record {
  rest : l.rest ≡ l.number / 256 ^ (l.k - l.place);
  size : length l.stack ≡ 512;
  written : (j : ℕ) → get_or l.stack j None ≡ byte_after (bytes_in l.initial.stack) (l.k - l.place) l.place l.number j;
}
