-- The words that begin an instruction.
use Rattle.std.specs.Prelude.{ℕ, ◌+◌, ◌-◌, ◌*◌, ◌||◌, nat_lt, if◌then◌else◌, List, [], ◌∷◌, ◌++◌, length, get_or, Option, codes}
use Rattle.std.specs.List.{find}
use Rattle.std.specs.Str.{bytes_eq}
use Rattle.bpf_parts.specs.Text.{alu_name, callee_name, condition_name, extension_name, load_suffix, store_suffix}
use Rattle.bpf_parts.specs.Text.{swap_bits_name, swap_name, width_suffix}
use Rattle.basm_lex.specs.declared.mnemonics.Mnemonic.{Mnemonic}
use Rattle.basm_lex.specs.declared.mnemonics.Mnemonic.TheVariants.{Arithmetic, Negation, SignedMove, Swapping}
use Rattle.basm_lex.specs.declared.mnemonics.Mnemonic.TheVariants.{Loading, Storing, StoringRegister, Jumping}
use Rattle.basm_lex.specs.declared.mnemonics.Mnemonic.TheVariants.{ShortGoto, LongGoto, WideLoad, MapLoad}
use Rattle.basm_lex.specs.declared.mnemonics.Mnemonic.TheVariants.{AddressLoad, Calling, Exiting}
use Rattle.basm_lex.specs.declared.mnemonics.TheConstants.{MNEMONICS, STARTS}

-- the word of a mnemonic
abbrev pub mnemonic_word : Mnemonic → List ℕ
mnemonic_word (Arithmetic op width) = alu_name op ++ width_suffix width
mnemonic_word (Negation width) = codes "neg" ++ width_suffix width
mnemonic_word (SignedMove extension) = extension_name extension
mnemonic_word (Swapping swap bits) = swap_name swap ++ swap_bits_name bits
mnemonic_word (Loading size) = codes "ldx" ++ load_suffix size
mnemonic_word (Storing size) = codes "st" ++ store_suffix size
mnemonic_word (StoringRegister size) = codes "stx" ++ store_suffix size
mnemonic_word (Jumping condition width) = condition_name condition ++ width_suffix width
mnemonic_word ShortGoto = codes "ja"
mnemonic_word LongGoto = codes "ja32"
mnemonic_word WideLoad = codes "lddw"
mnemonic_word MapLoad = codes "ldmap"
mnemonic_word AddressLoad = codes "ldimm"
mnemonic_word (Calling callee) = callee_name callee
mnemonic_word Exiting = codes "exit"

-- how many slots its instruction takes
abbrev pub mnemonic_slots : Mnemonic → ℕ
mnemonic_slots (Arithmetic op width) = 1
mnemonic_slots (Negation width) = 1
mnemonic_slots (SignedMove extension) = 1
mnemonic_slots (Swapping swap bits) = 1
mnemonic_slots (Loading size) = 1
mnemonic_slots (Storing size) = 1
mnemonic_slots (StoringRegister size) = 1
mnemonic_slots (Jumping condition width) = 1
mnemonic_slots ShortGoto = 1
mnemonic_slots LongGoto = 1
mnemonic_slots WideLoad = 2
mnemonic_slots MapLoad = 2
mnemonic_slots AddressLoad = 2
mnemonic_slots (Calling callee) = 1
mnemonic_slots Exiting = 1

-- the mnemonic of a word: the first of all that have it
unfoldable pub mnemonic_named : List ℕ → Option Mnemonic
mnemonic_named word = find (λ m. bytes_eq word (mnemonic_word m)) MNEMONICS

-- ---- what else contracts and proofs say

-- The group of the words that begin with a letter and have `more` letters after it. It is a number from 0 to 207, or
-- 208 if no mnemonic is so.
abbrev pub group_at : (first more : ℕ) → ℕ
group_at first more =
    if nat_lt first 97 || nat_lt 122 first || nat_lt more 1 || nat_lt 8 more then 208 else (first - 97) * 8 + (more - 1)

-- the group of a word: that of the words with its first letter and its length
abbrev pub group_of : List ℕ → ℕ
group_of [] = 208
group_of (c ∷ cs) = group_at c (length cs)

-- the index of the first mnemonic of a group
abbrev pub start_of : ℕ → ℕ
start_of group = get_or STARTS group 0
