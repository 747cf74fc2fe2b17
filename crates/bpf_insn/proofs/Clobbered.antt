-- The registers that a call writes, as bits.
use Rattle.std.proofs.Common.{◌≡◌, ℕ, zero, suc, ◌≤◌, refl, arith}
use Rattle.std.specs.Prelude.{nat_le}
use Rattle.bpf_insn.specs.Bits.{is_bit}

-- r0 to r5 are those of the six lowest bits
pub clobbered_bits : (register : ℕ) → register ≤ 10 → is_bit 63 register ≡ nat_le register 5
clobbered_bits zero h = refl
clobbered_bits (suc zero) h = refl
clobbered_bits (suc (suc zero)) h = refl
clobbered_bits (suc (suc (suc zero))) h = refl
clobbered_bits (suc (suc (suc (suc zero)))) h = refl
clobbered_bits (suc (suc (suc (suc (suc zero))))) h = refl
clobbered_bits (suc (suc (suc (suc (suc (suc zero)))))) h = refl
clobbered_bits (suc (suc (suc (suc (suc (suc (suc zero))))))) h = refl
clobbered_bits (suc (suc (suc (suc (suc (suc (suc (suc zero)))))))) h = refl
clobbered_bits (suc (suc (suc (suc (suc (suc (suc (suc (suc zero))))))))) h = refl
clobbered_bits (suc (suc (suc (suc (suc (suc (suc (suc (suc (suc zero)))))))))) h = refl
clobbered_bits (suc (suc (suc (suc (suc (suc (suc (suc (suc (suc (suc register))))))))))) h = absurd (omega arith)
