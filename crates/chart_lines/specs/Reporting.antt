-- Reports of one place after the other.
use Rattle.std.specs.Prelude.{◌≡◌, ℕ, zero, suc}

-- each of this many places was reported in turn, from 0 on, after what was reported before
abbrev pub PrintsFirst : {T : Type 0} → (reports : (place : ℕ) → (before after : T) → Type 0) → (count : ℕ) → (before after : T) → Type 0
PrintsFirst {T} reports zero before after = after ≡ before
PrintsFirst {T} reports (suc place) before after = (reported : T) × PrintsFirst reports place before reported × reports place reported after
