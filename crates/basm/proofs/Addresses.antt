-- What the kind of an address says of its numbers.
use Rattle.std.proofs.Common.{◌≡◌, ℕ, ℤ, pos, List, Option, Some, None, refl, sym, eqb-true}
use Rattle.std.specs.Prelude.{◌==◌, IfSome, Ok}
use Rattle.std.specs.declared.result.Result.{Result}
use Rattle.std.proofs.lemmas.Bool.{cond_both}
use Rattle.bpf_parts.specs.declared.address.Address.{Address}
use Rattle.bpf_parts.specs.declared.address.Address.TheVariants.{MapByFile, MapValueByFile, Variable, Code, MapValueByIndex}
use Rattle.bpf_parts.specs.Codes.{address_subtype, address_first, address_second}
use Rattle.bpf_insn.specs.declared.insn.Insn.{Insn}
use Rattle.bpf_insn.specs.declared.insn.Insn.TheVariants.{LoadAddress}
use Rattle.basm_lex.specs.Numbers.{WritesNumber}
use Rattle.basm_lex.specs.Operands.{WritesRegister}
use Rattle.basm.specs.Relation.{Four, WritesOperands}
use Rattle.bpf_parts.specs.Kinds.{wide_address}

abbrev pub IsKind : ℕ → ℤ → Option Address → Type 0
IsKind subtype first o = IfSome o (λ found. (address_subtype found ≡ subtype) × (address_first found ≡ first))

pub address_is : (subtype : ℕ) (first second : ℤ) → IsKind subtype first (wide_address subtype first second)
address_is subtype first second =
    let P : Option Address → Type 0 = IsKind subtype first in
    cond_both (subtype == 1) (Some (MapByFile first)) _ P (λ yes. (sym (eqb-true subtype 1 yes), refl)) (λ no.
    cond_both (subtype == 2) (Some (MapValueByFile first second)) _ P (λ yes. (sym (eqb-true subtype 2 yes), refl)) (λ no.
    cond_both (subtype == 3) (Some (Variable first)) _ P (λ yes. (sym (eqb-true subtype 3 yes), refl)) (λ no.
    cond_both (subtype == 4) (Some (Code first)) _ P (λ yes. (sym (eqb-true subtype 4 yes), refl)) (λ no.
    cond_both (subtype == 6) (Some (MapValueByIndex first second)) None P (λ yes. (sym (eqb-true subtype 6 yes), refl)) (λ no. tt)))))

-- the operands of a load of an address, by its numbers
pub load_address : (names : List ℕ → Option ℕ) (slot : ℕ) (xs : List (List ℕ)) (dst : ℕ) (subtype first second : ℤ) (address : Address)
    → Four xs (λ a. WritesNumber a subtype) (λ b. WritesRegister b dst) (λ c. WritesNumber c first) (λ d. WritesNumber d second)
    → (pos (address_subtype address) ≡ subtype) × (address_first address ≡ first) × (address_second address ≡ second)
    → WritesOperands names slot xs (LoadAddress dst address)
load_address names slot xs dst subtype first second address four same = rw (same.0, same.1, same.2) four

-- an address by its own numbers
pub address_again : (address : Address) → wide_address (address_subtype address) (address_first address) (address_second address) ≡ Some address
address_again (MapByFile first) = refl
address_again (MapValueByFile first second) = refl
address_again (Variable first) = refl
address_again (Code first) = refl
address_again (MapValueByIndex first second) = refl

pub same_load : {E : Type 0} (m n : ℕ) (a b : Address) → m ≡ n → Some a ≡ Some b → ◌≡◌ {A = Result Insn E} (Ok (LoadAddress m a)) (Ok (LoadAddress n b))
same_load m n a b same found = let one : a ≡ b = cc found in λ i. Ok (LoadAddress (same i) (one i))
