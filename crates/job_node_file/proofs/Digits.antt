-- What `{:02X}` and `{:08X}` write: the digits, and zeros before them.
use Rattle.std.proofs.Common.{◌≡◌, ℕ, ◌-◌, ◌^◌, false, List, [], ◌++◌, length, arith}
use Rattle.std.proofs.lemmas.List.{append-nil}
use Rattle.std.specs.Prelude.{replicate}
use Rattle.std.specs.Fmt.{char_count, padded_integral, format_spec}

pub two : (numeral : List ℕ)
    → padded_integral (format_spec 32 0 4 2 (2 ^ 64 - 1)) false [] numeral ≡ replicate (2 - length numeral) 48 ++ numeral
unfolding padded_integral char_count
two numeral =
    let short : 2 - length numeral - 0 - 0 ≡ 2 - length numeral = omega arith in
    rw (short, append-nil numeral)

pub eight : (numeral : List ℕ)
    → padded_integral (format_spec 32 0 4 8 (2 ^ 64 - 1)) false [] numeral ≡ replicate (8 - length numeral) 48 ++ numeral
unfolding padded_integral char_count
eight numeral =
    let short : 8 - length numeral - 0 - 0 ≡ 8 - length numeral = omega arith in
    rw (short, append-nil numeral)
