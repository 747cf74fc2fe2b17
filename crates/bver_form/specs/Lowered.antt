-- Marks of registers, loop by loop: which ones the verifier lowered, since nothing is known of them at the loop's
-- head.
use Rattle.std.specs.Prelude.{◌≡◌, ℕ, ◌+◌, ◌*◌, ◌≤◌, Bool, true, false, List, [], ◌∷◌, length, slice_index_or}

-- whether the register was lowered for the loop, by its place among the declared ones: r0 to r9, loop by loop
abbrev pub is_lowered : List Bool → (place register : ℕ) → Bool
is_lowered lowered place register = slice_index_or lowered (10 * place + register) false

-- how many registers were lowered, over all loops
unfoldable pub count_of : List Bool → ℕ
count_of [] = 0
count_of (true ∷ rest) = 1 + count_of rest
count_of (false ∷ rest) = count_of rest

-- ten registers of eight loops
abbrev pub IsLowered : List Bool → Type 0
IsLowered lowered = length lowered ≡ 80

-- nothing more was lowered
abbrev pub IsSettled : (old new : List Bool) → Type 0
IsSettled old new = count_of new ≡ count_of old

-- no less was lowered
abbrev pub IsMore : (old new : List Bool) → Type 0
IsMore old new = count_of old ≤ count_of new
