-- Which commands the rules of a quota match at the ports of a node that threads serve, whatever the verdict of such a rule is.
use Rattle.std.specs.Prelude.{◌≡◌, ◌≤◌, ◌<◌, ◌+◌, ◌^◌, ◌⊎◌, ℕ, List, [], ◌∷◌, length}
use Rattle.std.specs.List.{flat_map}
use Rattle.cells.specs.Logs.{tickets_of}
use Rattle.cells.specs.Seats.{AreNumbered, CellsValue, calls_back}
use Rattle.machine.specs.declared.calls.Call.{Call}
use Rattle.policy.specs.Compiled.{HasMeaning}
use Rattle.policy_table.specs.Matching.{EndsByMatch}
use Rattle.policy_table.specs.declared.rules.Rule.{Rule}
use Rattle.ports.specs.Due.{Deed, Judging, Standing, Worked, judgings}
use Rattle.sched.specs.Looking.{seen_header_in}
use Rattle.spw.specs.Cargo.{Cargo}

-- ---- what was done at the ports

-- A port with a fresh seat that was served: what it had and knew at first and in the end, its packets, and what became
-- of them.
pub record PortRun : Type 0 where
  pub first : Standing
  pub last : Standing
  pub packets : List Cargo
  pub deeds : List Deed
  pub worked : Worked first packets deeds last
  pub fresh : first.pass.seat.asked ≡ []

-- the calls of the seats of these ports, seat by seat
abbrev pub calls_at : List PortRun → List Call
calls_at runs = flat_map (λ (run : PortRun). run.last.pass.seat.asked) runs

-- the commands that were judged at these ports, port by port
abbrev pub judged_at : List PortRun → List Judging
judged_at runs = flat_map (λ (run : PortRun). judgings run.deeds) runs

-- ---- matches

-- The program that judged the command has the meaning of some rules. The calls of its run are a decision on the header
-- of the packet. That decision ends by the match of a rule on the cell with at most that limit.
pub record HasMatched (map key limit : ℕ) (judging : Judging) : Type 0 where
  pub rules : List Rule
  pub meaning : HasMeaning rules judging.program.program
  pub own_limit : ℕ
  pub small : own_limit ≤ limit
  pub match : EndsByMatch rules (seen_header_in judging.judged.packet) judging.calls map key own_limit

-- that many of the commands were matched by such rules
abbrev pub HaveMatched : (map key limit : ℕ) → List Judging → (count : ℕ) → Type 0
HaveMatched map key limit [] count = count ≡ 0
HaveMatched map key limit (judging ∷ judgings) count =
    HaveMatched map key limit judgings count
    ⊎ ((fewer : ℕ) × (count ≡ fewer + 1) × HaveMatched map key limit judgings fewer × HasMatched map key limit judging)

-- ---- the law

-- The seats of these ports came back to the cells. These report how many tickets of a cell were drawn, and each number
-- below that once. Let fewer than 2^64 be drawn. Then rules on the cell with limits of at most N match at most N of the
-- judged commands, over all ports and programs.
abbrev pub QuotasHoldInThreads : Type 0
QuotasHoldInThreads =
    (it : CellsValue) (runs : List PortRun) (map key limit drawn count : ℕ) → calls_back it ≡ calls_at runs
    → AreNumbered it map key drawn → length (tickets_of map key (calls_back it)) < 2 ^ 64
    → HaveMatched map key limit (judged_at runs) count → count ≤ limit
