-- What becomes of a staging whose bytes were lent.
use Rattle.std.specs.Prelude.{ℕ, List, ◌++◌, length, take, drop}
use Rattle.std.specs.Borrow.{Lends, MutBor, Fml, Array, u8}
use Rattle.node_programs.specs.Staged.{Staged, staged}
use Rattle.node_programs.specs.contracts.staging.Staging.{the_row}

-- those bytes written over the first of the others: all of them, if both are as many
abbrev pub overlaid_bytes : (old left : List ℕ) → List ℕ
overlaid_bytes old left = take (length old) (left ++ drop (length left) old)

-- the staging ends with the bytes as they were left
abbrev pub LendsBytes : MutBor Staged → MutBor (List ℕ) → Fml
LendsBytes staging bytes =
    Lends the_row (Array u8 0) staging bytes
    (λ left. staged (overlaid_bytes staging.now.bytes left) staging.now.load_result)
