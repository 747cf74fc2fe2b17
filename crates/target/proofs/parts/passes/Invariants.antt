use Rattle.std.proofs.Common.{◌≡◌, ◌<◌, ◌≤◌, ◌-◌, ℕ, List, [], length, get_or}
use Rattle.std.specs.Prelude.{map, replicate}
use Rattle.std.specs.List.{range_with_len}
use Rattle.bver.specs.Justified.{AcceptedValue}
use Rattle.target.specs.Nodes.{AreFirst, informed_pass}
use Rattle.target.specs.Passes.{unasked}
use base.Stored.{Gv}
use Rattle.bank.specs.Records.{first_share}
use Rattle.target.proofs.parts.passes.Given as goal

abbrev pub invariant-loop-line : goal.invariant-loop-line
invariant-loop-line g l = record {
  count : length l.by_port.items ≡ l.config.ports;
  parts : (factory : AcceptedValue) (firsts : List (ℕ × AcceptedValue)) (home : Gv) → AreFirst factory firsts home l.config.ports l.initial.seats.items l.initial.readers.items → AreFirst factory firsts home (l.config.ports - length l.yielded) l.seats.items l.readers.items;
  passes : (factory : AcceptedValue) (firsts : List (ℕ × AcceptedValue)) (home : Gv) → AreFirst factory firsts home l.config.ports l.initial.seats.items l.initial.readers.items → l.passes.items ≡ unasked (map (informed_pass l.config factory firsts home) (range_with_len 0 (length l.yielded)));
  rest : (k : ℕ) → length l.yielded ≤ k → k < l.config.ports → get_or l.by_port.items k [] ≡ replicate (length l.config.banks.now) (first_share k);
}
