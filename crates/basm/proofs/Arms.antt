-- The item of a right line, by its first word.
use Rattle.std.proofs.Common.{true, false, ◌≡◌, ℕ, pos, List, [], ◌∷◌, Option, None, refl, sym, ap, ◌∙◌, subst, arith}
use Rattle.std.specs.Prelude.{◌≢◌, codes}
use Rattle.std.proofs.lemmas.Bool.{true≢false}
use Rattle.std.proofs.lemmas.Option.{none-some}
use Rattle.bpf.specs.declared.loops.Loop.{Loop}
use Rattle.bpf_insn.specs.declared.insn.Insn.{Insn}
use Rattle.basm_lex.specs.Lines.{IsLabel, operands_of, word_of}
use Rattle.basm_lex.specs.Names.{is_name}
use Rattle.basm_lex.specs.Numbers.{WritesNumber}
use Rattle.basm_lex.specs.declared.mnemonics.Mnemonic.{Mnemonic}
use Rattle.basm.specs.declared.partial_image.PartialImage.{PartialImage}
use Rattle.basm.specs.PartialImage.{AddsItem, WritesLoop}
use Rattle.basm.specs.Labels.{label_of}
use Rattle.basm_lex.specs.Mnemonics.{mnemonic_word}
use Rattle.bpf.specs.declared.version.Version.{Version}
use Rattle.bpf.specs.Version.{version_number}
use Rattle.basm.specs.Relation.{Budget, Code, IsLine, Item, Label, Nothing, One, OneLoop, OneVersion, WritesInsn}
use Rattle.basm.proofs.InsnReadings.{insn_named, mnemonic_of}
use Rattle.basm.proofs.Items.{adds_label, adds_nothing, not_nil}
use Rattle.basm.proofs.Surveys.{label_named}
use Rattle.basm.proofs.Words.{colon_ends}

-- a word that is no label
no_label_here : (line word name : List ℕ) → label_of word ≡ None → word_of line ≡ word → IsLabel line name → ⊥
no_label_here line word name none same says = none-some name (sym none ∙ label_named word name says.0 (sym same ∙ says.1))

-- a word that is a name
not_plain : (line word : List ℕ) → is_name (word_of line) ≡ true → word_of line ≡ word → is_name word ≡ false → ⊥
not_plain line word plain same none = true≢false (sym plain ∙ ap is_name same ∙ none)

-- ---- no word

pub empty_adds : (names : List ℕ → Option ℕ) (slot : ℕ) (line : List ℕ) (parts : PartialImage) (item : Item) → ((found : Mnemonic) → word_of line ≢ mnemonic_word found) → word_of line ≡ [] → IsLine names slot line item → AddsItem item parts parts
empty_adds names slot line parts Nothing unknown same says = adds_nothing parts
empty_adds names slot line parts (Label name) unknown same says = adds_label name parts
empty_adds names slot line parts (OneVersion version) unknown same says = absurd (not_nil _ _ (sym says.0 ∙ same))
empty_adds names slot line parts (Budget n) unknown same says = absurd (not_nil _ _ (sym says.0 ∙ same))
empty_adds names slot line parts (OneLoop l) unknown same says = absurd (not_nil _ _ (sym says.0 ∙ same))
empty_adds names slot line parts (Code insn) unknown same says = absurd (unknown (mnemonic_of insn) (says.name ∙ insn_named insn))

-- ---- the word of a directive

version_no_label : label_of (codes ".version") ≡ None
unfolding label_of
version_no_label = refl

budget_no_label : label_of (codes ".budget") ≡ None
unfolding label_of
budget_no_label = refl

loop_no_label : label_of (codes ".loop") ≡ None
unfolding label_of
loop_no_label = refl

-- the letter by which directives differ
abbrev second : List ℕ → ℕ
second [] = 0
second (c ∷ []) = 0
second (c ∷ d ∷ cs) = d

budget-loop : codes ".budget" ≡ codes ".loop" → ⊥
budget-loop same = let at : second (codes ".budget") ≡ second (codes ".loop") = ap second same in absurd (omega arith)

version-budget : codes ".version" ≡ codes ".budget" → ⊥
version-budget same = let at : second (codes ".version") ≡ second (codes ".budget") = ap second same in absurd (omega arith)

version-loop : codes ".version" ≡ codes ".loop" → ⊥
version-loop same = let at : second (codes ".version") ≡ second (codes ".loop") = ap second same in absurd (omega arith)

pub version_item : (xs : List (List ℕ)) (names : List ℕ → Option ℕ) (slot : ℕ) (line : List ℕ) (item : Item) (Q : Item → Type 0) → ((found : Mnemonic) → word_of line ≢ mnemonic_word found) → word_of line ≡ codes ".version"
    → xs ≡ operands_of line → IsLine names slot line item → ((version : Version) → One xs (λ a. WritesNumber a (pos (version_number version))) → Q (OneVersion version)) → Q item
version_item xs names slot line Nothing Q unknown same operands says then = absurd (not_nil _ _ (sym same ∙ says.0))
version_item xs names slot line (Label name) Q unknown same operands says then = absurd (no_label_here line (codes ".version") name version_no_label same says)
version_item xs names slot line (OneVersion version) Q unknown same operands says then =
    let P : List (List ℕ) → Type 0 = λ ys. One ys (λ a. WritesNumber a (pos (version_number version))) in then version (subst P (sym operands) says.1)
version_item xs names slot line (Budget n) Q unknown same operands says then = absurd (version-budget (sym same ∙ says.0))
version_item xs names slot line (OneLoop l) Q unknown same operands says then = absurd (version-loop (sym same ∙ says.0))
version_item xs names slot line (Code insn) Q unknown same operands says then = absurd (unknown (mnemonic_of insn) (says.name ∙ insn_named insn))

pub budget_item : (xs : List (List ℕ)) (names : List ℕ → Option ℕ) (slot : ℕ) (line : List ℕ) (item : Item) (Q : Item → Type 0) → ((found : Mnemonic) → word_of line ≢ mnemonic_word found) → word_of line ≡ codes ".budget"
    → xs ≡ operands_of line → IsLine names slot line item → ((n : ℕ) → One xs (λ a. WritesNumber a (pos n)) → Q (Budget n)) → Q item
budget_item xs names slot line Nothing Q unknown same operands says then = absurd (not_nil _ _ (sym same ∙ says.0))
budget_item xs names slot line (Label name) Q unknown same operands says then = absurd (no_label_here line (codes ".budget") name budget_no_label same says)
budget_item xs names slot line (OneVersion version) Q unknown same operands says then = absurd (version-budget (sym says.0 ∙ same))
budget_item xs names slot line (Budget n) Q unknown same operands says then =
    let P : List (List ℕ) → Type 0 = λ ys. One ys (λ a. WritesNumber a (pos n)) in then n (subst P (sym operands) says.1)
budget_item xs names slot line (OneLoop l) Q unknown same operands says then = absurd (budget-loop (sym same ∙ says.0))
budget_item xs names slot line (Code insn) Q unknown same operands says then = absurd (unknown (mnemonic_of insn) (says.name ∙ insn_named insn))

pub loop_item : (xs : List (List ℕ)) (names : List ℕ → Option ℕ) (slot : ℕ) (line : List ℕ) (item : Item) (Q : Item → Type 0) → ((found : Mnemonic) → word_of line ≢ mnemonic_word found) → word_of line ≡ codes ".loop"
    → xs ≡ operands_of line → IsLine names slot line item → ((l : Loop) → WritesLoop names xs l → Q (OneLoop l)) → Q item
loop_item xs names slot line Nothing Q unknown same operands says then = absurd (not_nil _ _ (sym same ∙ says.0))
loop_item xs names slot line (Label name) Q unknown same operands says then = absurd (no_label_here line (codes ".loop") name loop_no_label same says)
loop_item xs names slot line (OneVersion version) Q unknown same operands says then = absurd (version-loop (sym says.0 ∙ same))
loop_item xs names slot line (Budget n) Q unknown same operands says then = absurd (budget-loop (sym says.0 ∙ same))
loop_item xs names slot line (OneLoop l) Q unknown same operands says then =
    let P : List (List ℕ) → Type 0 = λ ys. WritesLoop names ys l in
    then l (subst P (sym operands) says.1)
loop_item xs names slot line (Code insn) Q unknown same operands says then = absurd (unknown (mnemonic_of insn) (says.name ∙ insn_named insn))

-- ---- the word of a mnemonic

pub insn_item : (xs : List (List ℕ)) (names : List ℕ → Option ℕ) (slot : ℕ) (line : List ℕ) (item : Item) (found : Mnemonic) (Q : Item → Type 0) → is_name (word_of line) ≡ true → word_of line ≡ mnemonic_word found
    → xs ≡ operands_of line → IsLine names slot line item → ((insn : Insn) → WritesInsn names slot (mnemonic_word found) xs insn → Q (Code insn)) → Q item
insn_item xs names slot line Nothing found Q plain same operands says then = absurd (not_plain line [] plain says.0 refl)
insn_item xs names slot line (Label name) found Q plain same operands says then = absurd (let P : List ℕ → Type 0 = λ w. is_name w ≡ true in colon_ends name (subst P says.1 plain))
insn_item xs names slot line (OneVersion version) found Q plain same operands says then = absurd (not_plain line (codes ".version") plain says.0 refl)
insn_item xs names slot line (Budget n) found Q plain same operands says then = absurd (not_plain line (codes ".budget") plain says.0 refl)
insn_item xs names slot line (OneLoop l) found Q plain same operands says then = absurd (not_plain line (codes ".loop") plain says.0 refl)
insn_item xs names slot line (Code insn) found Q plain same operands says then =
    let P : List (List ℕ) → Type 0 = λ ys. WritesInsn names slot (mnemonic_word found) ys insn in
    let R : List ℕ → Type 0 = λ w. WritesInsn names slot w (operands_of line) insn in
    then insn (subst P (sym operands) (subst R same says))

-- ---- any other word

pub label_item : (names : List ℕ → Option ℕ) (slot : ℕ) (line : List ℕ) (item : Item) (Q : Item → Type 0) → word_of line ≢ [] → word_of line ≢ codes ".budget" → word_of line ≢ codes ".loop" → word_of line ≢ codes ".version"
    → ((found : Mnemonic) → word_of line ≢ mnemonic_word found) → IsLine names slot line item
    → ((name : List ℕ) → IsLabel line name → Q (Label name)) → Q item
label_item names slot line Nothing Q some other apart third unknown says then = absurd (some says.0)
label_item names slot line (Label name) Q some other apart third unknown says then = then name says
label_item names slot line (OneVersion version) Q some other apart third unknown says then = absurd (third says.0)
label_item names slot line (Budget n) Q some other apart third unknown says then = absurd (other says.0)
label_item names slot line (OneLoop l) Q some other apart third unknown says then = absurd (apart says.0)
label_item names slot line (Code insn) Q some other apart third unknown says then = absurd (unknown (mnemonic_of insn) (says.name ∙ insn_named insn))
