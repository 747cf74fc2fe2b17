-- No spelling begins another.
use Rattle.std.proofs.Common.{◌≡◌, ℕ, List, [], ◌++◌, Option, Some, None, Ok, refl, sym, ap, ◌∙◌, take, drop, append_assoc, unwrap_or, IfSome, ℤ, pos}
use Rattle.std.specs.Option.{option_map}
use Rattle.bpf_insn.specs.declared.fields.Fields.{Fields}
use Rattle.bpf_insn.specs.declared.insn.Insn.{Insn}
use Rattle.bpf_insn.specs.Spelling.{fields, first_fields, first_bytes, second_bytes, second_immediate, second_fields, slot_bytes_of, IsInsn, Spells, spelling}
use Rattle.bpf_insn.proofs.Spelled.{insn_reading-spelled}

pub take-slot_bytes_of : (f : Fields) (xs : List ℕ) → take 8 (slot_bytes_of f ++ xs) ≡ slot_bytes_of f
unfolding slot_bytes_of
take-slot_bytes_of f xs = refl

pub drop-slot_bytes_of : (f : Fields) (xs : List ℕ) → drop 8 (slot_bytes_of f ++ xs) ≡ xs
unfolding slot_bytes_of
drop-slot_bytes_of f xs = refl

pub one_meaning : (bytes : List ℕ) (next : Option (List ℕ)) (a b : Insn) → Spells bytes next a → Spells bytes next b → a ≡ b
one_meaning bytes next a b s t =
    let same : Ok a ≡ Ok b = sym (insn_reading-spelled bytes next a s) ∙ insn_reading-spelled bytes next b t in
    cc

first_same : (a b : Insn) (after more : List ℕ) → spelling a ++ after ≡ spelling b ++ more → first_bytes a ≡ first_bytes b
first_same a b after more e =
    let p = take-slot_bytes_of (first_fields a) (unwrap_or (second_bytes a) [] ++ after) in
    let q = take-slot_bytes_of (first_fields b) (unwrap_or (second_bytes b) [] ++ more) in
    let r : first_bytes a ++ (unwrap_or (second_bytes a) [] ++ after) ≡ first_bytes b ++ (unwrap_or (second_bytes b) [] ++ more) = sym (append_assoc (first_bytes a) (unwrap_or (second_bytes a) []) after) ∙ e ∙ append_assoc (first_bytes b) (unwrap_or (second_bytes b) []) more in
    sym p ∙ ap (take 8) r ∙ q

rest_same : (a b : Insn) (after more : List ℕ) → spelling a ++ after ≡ spelling b ++ more → unwrap_or (second_bytes a) [] ++ after ≡ unwrap_or (second_bytes b) [] ++ more
rest_same a b after more e =
    let p = drop-slot_bytes_of (first_fields a) (unwrap_or (second_bytes a) [] ++ after) in
    let q = drop-slot_bytes_of (first_fields b) (unwrap_or (second_bytes b) [] ++ more) in
    let r : first_bytes a ++ (unwrap_or (second_bytes a) [] ++ after) ≡ first_bytes b ++ (unwrap_or (second_bytes b) [] ++ more) = sym (append_assoc (first_bytes a) (unwrap_or (second_bytes a) []) after) ∙ e ∙ append_assoc (first_bytes b) (unwrap_or (second_bytes b) []) more in
    sym p ∙ ap (drop 8) r ∙ q

-- the second slots, if both have one
both_second : (y z : Option ℤ) (after more : List ℕ) → unwrap_or (option_map slot_bytes_of (second_fields y)) [] ++ after ≡ unwrap_or (option_map slot_bytes_of (second_fields z)) [] ++ more → (next : Option (List ℕ)) × IfSome (option_map slot_bytes_of (second_fields y)) (λ s. next ≡ Some s) × IfSome (option_map slot_bytes_of (second_fields z)) (λ s. next ≡ Some s)
both_second None None after more e = (None, tt, tt)
both_second None (Some z) after more e = (Some (slot_bytes_of (fields 0 0 0 (pos 0) z)), tt, refl)
both_second (Some y) None after more e = (Some (slot_bytes_of (fields 0 0 0 (pos 0) y)), refl, tt)
both_second (Some y) (Some z) after more e =
    let p = take-slot_bytes_of (fields 0 0 0 (pos 0) y) after in
    let q = take-slot_bytes_of (fields 0 0 0 (pos 0) z) more in
    (Some (slot_bytes_of (fields 0 0 0 (pos 0) y)), refl, ap (λ (x : List ℕ). Some x) (sym p ∙ ap (take 8) e ∙ q))

pub apart : (a b : Insn) (after more : List ℕ) → IsInsn a → IsInsn b → spelling a ++ after ≡ spelling b ++ more → a ≡ b
apart a b after more is_a is_b e =
    let next = both_second (second_immediate a) (second_immediate b) after more (rest_same a b after more e) in
    one_meaning (first_bytes a) next.0 a b
    (record { is_insn = is_a; first = refl; second = next.1 })
    (record { is_insn = is_b; first = first_same a b after more e; second = next.2 })
