-- What the names of instructions say if they are read as first words.
use Rattle.std.proofs.Common.{◌≡◌, ℕ, true, List, [], ◌∷◌, ◌++◌, Some, None, refl, sym, ap, ◌∙◌, subst, eqb-true}
use Rattle.std.specs.Prelude.{◌==◌}
use Rattle.std.specs.Char.{is_ascii_alphabetic}
use Rattle.std.specs.List.{list_all}
use Rattle.std.proofs.lemmas.Bool.{and_parts, cond_both, true≢false}
use Rattle.std.proofs.lemmas.List.Folds.{list_all-append}
use Rattle.bpf_parts.specs.declared.operation.Operand.TheVariants.{FromRegister, Immediate}
use Rattle.bpf_parts.specs.declared.distance.Distance.TheVariants.{Short, Long}
use Rattle.bpf_insn.specs.declared.insn.Insn.{Insn}
use Rattle.bpf_insn.specs.declared.insn.Insn.TheVariants.{Alu, Store, Goto}
use Rattle.bpf_insn.specs.Spelling.{slots_of}
use Rattle.bpf_insn.specs.Text.{insn_name}
use Rattle.basm_lex.specs.Names.{IsName, is_name, is_name_byte}
use Rattle.basm_lex.specs.declared.mnemonics.Mnemonic.{Mnemonic}
use Rattle.basm_lex.specs.Mnemonics.{mnemonic_slots, mnemonic_word, mnemonic_named}
use Rattle.basm.specs.Labels.{label_of, slots_named, word_slots}
use Rattle.basm.proofs.InsnReadings.{insn_named, mnemonic_of}
use Rattle.basm.proofs.Surveys.{no_label}

-- each mnemonic is found by its word, which is a name
abbrev pub AreNamed : Type 0
AreNamed = (found : Mnemonic) → (mnemonic_named (mnemonic_word found) ≡ Some found) × IsName (mnemonic_word found)

-- the word is no label, and takes `slots` slots
pub record Takes (slots : ℕ) (word : List ℕ) : Type 0 where
  pub no_label : label_of word ≡ None
  pub slots_are : word_slots word ≡ slots

-- a name and a colon are no name
pub colon_ends : (name : List ℕ) → is_name (name ++ 58 ∷ []) ≡ true → ⊥
colon_ends [] plain = true≢false (sym plain)
colon_ends (c ∷ cs) plain =
    let all = (and_parts (is_ascii_alphabetic c) (list_all is_name_byte (c ∷ cs ++ 58 ∷ [])) plain).1 in
    let both = and_parts (list_all is_name_byte (c ∷ cs)) _ (sym (list_all-append is_name_byte (c ∷ cs) (58 ∷ [])) ∙ all) in
    true≢false (sym both.1)

name_takes : (word : List ℕ) (found : Mnemonic) → IsName word → mnemonic_named word ≡ Some found → Takes (mnemonic_slots found) word
unfolding word_slots
name_takes [] found plain same = absurd (true≢false (sym plain))
name_takes (c ∷ cs) found plain same = record {
  no_label = no_label (c ∷ cs) (λ name _ is. let P : List ℕ → Type 0 = λ w. is_name w ≡ true in colon_ends name (subst P is plain));
  slots_are =
      let P : ℕ → Type 0 = λ slots. slots ≡ mnemonic_slots found in
      let Q : ℕ → Type 0 = λ d. is_ascii_alphabetic d ≡ true in
      cond_both (c == 46) 0 (slots_named (mnemonic_named (c ∷ cs))) P
      (λ dot. absurd (true≢false (sym (subst Q (eqb-true c 46 dot) (and_parts (is_ascii_alphabetic c) (list_all is_name_byte (c ∷ cs)) plain).0))))
      (λ other. ap slots_named same);
}

insn_slots : (insn : Insn) → mnemonic_slots (mnemonic_of insn) ≡ slots_of insn
insn_slots (Alu op width dst src) = refl
insn_slots (Store size place (Immediate value)) = refl
insn_slots (Store size place (FromRegister src)) = refl
insn_slots (Goto (Short offset)) = refl
insn_slots (Goto (Long slots)) = refl
insn_slots _ = refl

-- an instruction's name is no label, and takes the slots that the instruction takes
pub insn_takes : AreNamed → (insn : Insn) → Takes (slots_of insn) (insn_name insn)
insn_takes mnemonic_named insn =
    let found = mnemonic_of insn in
    let P : List ℕ → Type 0 = Takes (slots_of insn) in
    let Q : ℕ → Type 0 = λ slots. Takes slots (mnemonic_word found) in
    subst P (sym (insn_named insn)) (subst Q (insn_slots insn) (name_takes (mnemonic_word found) found (mnemonic_named found).1 (mnemonic_named found).0))
