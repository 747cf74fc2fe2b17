-- Each entry of the tables is that many steps of the register.
use Rattle.std.proofs.Common.{◌≡◌, ℕ, suc, ◌*◌, ◌<◌, Bool, true, eqb, [], get_or, refl}
use Rattle.std.proofs.lemmas.Bool.{agree_below, agree_below_at, eqb-true}
use Rattle.rcrc.specs.Crc.{shifts}
use Rattle.rcrc.specs.declared.tables.TheConstants.{TABLES}

-- a test of one entry
abbrev has_entry : ℕ → ℕ → Bool
has_entry later byte = eqb (get_or (get_or TABLES later []) byte 0) (shifts (8 * suc later) byte)

pub table_entry : (later byte : ℕ) → later < 8 → byte < 256 → get_or (get_or TABLES later []) byte 0 ≡ shifts (8 * suc later) byte
unfolding shifts
table_entry later byte within below =
    eqb-true _ _ (agree_below_at (has_entry later) (λ _. true) 256 byte
    (agree_below_at (λ k. agree_below (has_entry k) (λ _. true) 256) (λ _. true) 8 later refl within) below)
