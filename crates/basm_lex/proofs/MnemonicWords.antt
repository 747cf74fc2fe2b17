-- The words of the mnemonics are names, and apart.
use Rattle.std.proofs.Common.{◌≡◌, ℕ, Bool, true, List, [], ◌∷◌, Option, Some, None, refl, sym, ap, ◌∙◌, subst}
use Rattle.std.specs.Prelude.{IfSome}
use Rattle.std.specs.List.{find, list_all}
use Rattle.std.specs.Str.{bytes_eq}
use Rattle.std.proofs.lemmas.Bool.{and_parts, cond_both}
use Rattle.std.proofs.lemmas.Slice.Eq.{bytes_eq-Decides}
use Rattle.bpf_parts.specs.declared.operation.Width.TheVariants.{Bits32, Bits64}
use Rattle.bpf_parts.specs.declared.operation.AluOp.TheVariants.{Add}
use Rattle.bpf_parts.specs.declared.operation.Extension.TheVariants.{ByteTo32}
use Rattle.bpf_parts.specs.declared.operation.Swap.TheVariants.{ToLittle}
use Rattle.bpf_parts.specs.declared.operation.SwapBits.TheVariants.{Swap16, Swap32, Swap64}
use Rattle.bpf_parts.specs.declared.operation.Condition.TheVariants.{Equal}
use Rattle.bpf_parts.specs.declared.memory.Size.TheVariants.{Byte}
use Rattle.bpf_parts.specs.declared.memory.LoadSize.TheVariants.{LoadByte}
use Rattle.bpf_parts.specs.declared.callee.Callee.TheVariants.{Helper}
use Rattle.basm_lex.specs.Names.{IsName, is_name}
use Rattle.basm_lex.specs.declared.mnemonics.Mnemonic.{Mnemonic}
use Rattle.basm_lex.specs.declared.mnemonics.Mnemonic.TheVariants.{Arithmetic, Negation, SignedMove, Swapping, Loading, Storing, StoringRegister, Jumping, ShortGoto, LongGoto, WideLoad, MapLoad, AddressLoad, Calling, Exiting}
use Rattle.basm_lex.specs.declared.mnemonics.TheConstants.{MNEMONICS}
use Rattle.basm_lex.specs.Mnemonics.{mnemonic_word, mnemonic_named}

-- what is found has the word, and passes what all pass
found_passes : (test : Mnemonic → Bool) (ms : List Mnemonic) (word : List ℕ) → list_all test ms ≡ true
    → IfSome (find (λ m. bytes_eq word (mnemonic_word m)) ms) (λ found. (word ≡ mnemonic_word found) × (test found ≡ true))
found_passes test [] word all = tt
found_passes test (m ∷ ms) word all =
    let parts = and_parts (test m) (list_all test ms) all in
    let P : Option Mnemonic → Type 0 = λ o. IfSome o (λ found. (word ≡ mnemonic_word found) × (test found ≡ true)) in
    cond_both (bytes_eq word (mnemonic_word m)) (Some m) (find (λ m. bytes_eq word (mnemonic_word m)) ms) P
    (λ same. ((bytes_eq-Decides word (mnemonic_word m)).0 same, parts.0)) (λ other. found_passes test ms word parts.1)

-- a word that names a mnemonic is its word, and a name
found_named : (word : List ℕ) (found : Mnemonic) → Some found ≡ mnemonic_named word → (word ≡ mnemonic_word found) × IsName (mnemonic_word found)
unfolding mnemonic_named
found_named word found same =
    let P : Option Mnemonic → Type 0 = λ o. IfSome o (λ found. (word ≡ mnemonic_word found) × (is_name (mnemonic_word found) ≡ true)) in
    subst P (sym same) (found_passes (λ m. is_name (mnemonic_word m)) MNEMONICS word refl)

-- each word is its mnemonic's
pub named_word : (word : List ℕ) (o : Option Mnemonic) → o ≡ mnemonic_named word → IfSome o (λ found. word ≡ mnemonic_word found)
named_word word None same = tt
named_word word (Some found) same = (found_named word found same).0

-- each word is a name
pub named_plain : (word : List ℕ) (o : Option Mnemonic) → o ≡ mnemonic_named word → IfSome o (λ _. IsName word)
named_plain word None same = tt
named_plain word (Some found) same = let both = found_named word found same in subst IsName (sym both.0) both.1

-- and each mnemonic has its word
pub word_named : (found : Mnemonic) → mnemonic_named (mnemonic_word found) ≡ Some found
unfolding mnemonic_named
word_named (Arithmetic Add Bits32) = refl
word_named (Arithmetic _ Bits32) = refl
word_named (Arithmetic Add Bits64) = refl
word_named (Arithmetic _ Bits64) = refl
word_named (Negation Bits32) = refl
word_named (Negation _) = refl
word_named (SignedMove ByteTo32) = refl
word_named (SignedMove _) = refl
word_named (Swapping ToLittle Swap16) = refl
word_named (Swapping _ Swap16) = refl
word_named (Swapping ToLittle Swap32) = refl
word_named (Swapping _ Swap32) = refl
word_named (Swapping ToLittle Swap64) = refl
word_named (Swapping _ Swap64) = refl
word_named (Loading LoadByte) = refl
word_named (Loading _) = refl
word_named (Storing Byte) = refl
word_named (Storing _) = refl
word_named (StoringRegister Byte) = refl
word_named (StoringRegister _) = refl
word_named (Jumping Equal Bits32) = refl
word_named (Jumping _ Bits32) = refl
word_named (Jumping Equal Bits64) = refl
word_named (Jumping _ Bits64) = refl
word_named ShortGoto = refl
word_named LongGoto = refl
word_named WideLoad = refl
word_named MapLoad = refl
word_named AddressLoad = refl
word_named (Calling Helper) = refl
word_named (Calling _) = refl
word_named Exiting = refl

pub named_exact : (word : List ℕ) (o : Option Mnemonic) → o ≡ mnemonic_named word → (found : Mnemonic) → word ≡ mnemonic_word found → o ≡ Some found
named_exact word o same found is = same ∙ ap mnemonic_named is ∙ word_named found

pub word_plain : (found : Mnemonic) → IsName (mnemonic_word found)
word_plain found = named_plain (mnemonic_word found) (Some found) (sym (word_named found))

pub words_apart : (m n : Mnemonic) → mnemonic_word m ≡ mnemonic_word n → m ≡ n
words_apart m n same = let both : Some m ≡ Some n = sym (word_named m) ∙ ap mnemonic_named same ∙ word_named n in cc both
