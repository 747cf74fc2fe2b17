-- What a staging has.
use Rattle.std.specs.Prelude.{ℕ, List}

-- the staging of a port: its bytes, and the result of the last load
pub record Staged : Type 0 where
  pub bytes : List ℕ
  pub load_result : List ℕ

-- the staging with those bytes and that load result
abbrev pub staged : (bytes load_result : List ℕ) → Staged
staged bytes load_result = record { bytes = bytes; load_result = load_result }
