-- What `{:016x}` writes: the digits, and zeros before them.
use Rattle.std.proofs.Common.{◌≡◌, ℕ, ◌-◌, ◌^◌, false, List, [], ◌++◌, length, arith}
use Rattle.std.proofs.lemmas.List.{append-nil}
use Rattle.std.specs.Prelude.{replicate}
use Rattle.std.specs.Fmt.{char_count, padded_integral, format_spec}

pub sixteen : (numeral : List ℕ)
    → padded_integral (format_spec 32 0 4 16 (2 ^ 64 - 1)) false [] numeral ≡ replicate (16 - length numeral) 48 ++ numeral
unfolding padded_integral char_count
sixteen numeral =
    let short : 16 - length numeral - 0 - 0 ≡ 16 - length numeral = omega arith in
    rw (short, append-nil numeral)
