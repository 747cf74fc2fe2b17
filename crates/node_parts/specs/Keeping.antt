-- What a packet leaves of banks and ports that are paired.
use Rattle.std.specs.Prelude.{◌≡◌, ℕ, true, List, length, slice_get, slice_set, Some}
use Rattle.spw.specs.Cargo.{Cargo}
use Rattle.bank.specs.declared.bank.Applied.{Applied}
use Rattle.bank.specs.Records.{BankValue, JudgedValue, fits, is_next}
use Rattle.node_parts.specs.declared.served.Served.{Served}
use Rattle.node_parts.specs.Applied.{share_of, IsFinished}
use Rattle.node_parts.specs.Pairs.{ArePaired, IsPaired}
use Rattle.node_parts.specs.Passes.{PassValue}
use Rattle.node_parts.specs.Served.{PartsValue, IsServed, IsAnswered}
use Rattle.node_parts.specs.Steps.{IsBankBelow}

-- if banks and port are paired, a packet whose command was applied was served
abbrev pub AnsweredAreServed : Type 0
AnsweredAreServed =
    (served : Served) (p : Cargo) (old new : PartsValue) (h after : PassValue) (reply : List ℕ)
    → IsAnswered served p old new h after reply → IsPaired old.banks h → IsServed served p old new h after reply

-- banks and all ports stay paired, whichever of them the packet came in at
abbrev pub LeavesAllPaired : Type 0
LeavesAllPaired =
    (served : Served) (p : Cargo) (old new : PartsValue) (h after : PassValue) (reply : List ℕ)
    → IsServed served p old new h after reply → (passes : List PassValue) (k : ℕ) → ArePaired old.banks passes
    → slice_get passes k ≡ Some h → ArePaired new.banks (slice_set passes k after)

-- if a command was applied, the port's share of the bank and the bank's count agree
abbrev pub AppliedSharesAgree : Type 0
AppliedSharesAgree =
    (old new : BankValue) (h after : PassValue) (j : JudgedValue) (result : Applied) (bytes : List ℕ)
    → IsBankBelow j.place (length h.shares) → IsFinished old new h after j result bytes
    → fits old (share_of h j.place) j ≡ true → is_next new (share_of after j.place) ≡ true
