-- How far pointers move: a bound under which the slow program's offsets do not overflow.
use Rattle.std.specs.Prelude.{ℕ, ◌≤◌, unsigned_abs, List, slice_index_or}
use Rattle.machine.specs.declared.values.Value.{Value}
use Rattle.machine.specs.declared.values.Value.TheVariants.{Unset, Num, Ptr, Map}

-- a pointer's offset is at most `limit` from its region
abbrev pub IsNear : (limit : ℕ) → Value → Type 0
IsNear limit Unset = Unit {0}
IsNear limit (Num n) = Unit {0}
IsNear limit (Ptr region offset) = unsigned_abs offset ≤ limit
IsNear limit (Map index) = Unit {0}

-- no register's pointer is further away
abbrev pub AreNear : (limit : ℕ) → List Value → Type 0
AreNear limit registers = (k : ℕ) → IsNear limit (slice_index_or registers k Unset)
