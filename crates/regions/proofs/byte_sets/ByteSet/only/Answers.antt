use Rattle.std.proofs.Common.{◌≡◌, ◌==◌, ◌%◌, ℕ, sym, subst, arith}
use Rattle.regions.specs.ByteSets.{half_of, has_bit}
use Rattle.regions.proofs.Bits.{only_high, only_low}
use Rattle.regions.proofs.byte_sets.ByteSet.only.Goals as goal

pub returns-then-byte-lt-HALF : goal.returns-then-byte-lt-HALF
returns-then-byte-lt-HALF c = λ other fits.
    subst (λ (half : ℕ). has_bit (half_of half 0 other) (other % 128) ≡ (other == c.args.byte)) (sym c.bit.ensures)
    (only_low c.args.byte other c.if-byte-lt-HALF.true fits)

pub returns : goal.returns
returns c = λ other fits.
    subst (λ (half : ℕ). has_bit (half_of 0 half other) (other % 128) ≡ (other == c.args.byte)) (sym c.bit-2.ensures)
    (only_high c.args.byte other c.if-byte-lt-HALF.false (omega arith) fits)
