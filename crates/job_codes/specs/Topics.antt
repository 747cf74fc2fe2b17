-- The codes that outputs have: a kind and a number, which the enums of the kinds have.
use Rattle.std.specs.Prelude.{◌≡◌, ◌<◌, ◌^◌, ◌==◌, ◌||◌, ◌⊎◌, ℕ, List, [], ◌∷◌, ◌++◌, map, Bool, true, is_some}
use Rattle.std.specs.Prelude.{if◌then◌else◌, codes, decimal}
use Rattle.std.specs.Char.{to_ascii_lowercase}
use Rattle.basm.specs.Codes.{asm_of_code}
use Rattle.bpf.specs.Fault.{image_fault_of_code}
use Rattle.bpf_insn.specs.Faults.{bad_insn_of_code}
use Rattle.bver_form.specs.Codes.{refusal_of_code}
use Rattle.hex.specs.Hex.{encode_upper}
use Rattle.frames.specs.Faults.{frame_fault_of_code}
use Rattle.policy_table.specs.Codes.{policy_fault_of_code}
use Rattle.rmap.specs.Codes.{discard_of_code, status_of_code}
use Rattle.node_parts.specs.Loads.{load_refusal_of_code}
use Rattle.job_parts.specs.BadLines.{bad_line_of_number}
use Rattle.job_parts.specs.NodeCodes.{node_code_of}
use Rattle.job_codes.specs.declared.topics.CodeKind.{CodeKind}
use Rattle.job_codes.specs.declared.topics.CodeKind.TheVariants.{Verifier, Text, Image, Insn, Line, Frame, Discard}
use Rattle.job_codes.specs.declared.topics.CodeKind.TheVariants.{Status, Load, Policy, Node}

-- the kind at a place of the order in which codes are listed, the last one at every later place
unfoldable pub topic_kind_at : ℕ → CodeKind
topic_kind_at place =
    if place == 0 then Verifier
    else (if place == 1 then Text
    else (if place == 2 then Image
    else (if place == 3 then Insn
    else (if place == 4 then Line
    else (if place == 5 then Frame
    else (if place == 6 then Discard
    else (if place == 7 then Status
    else (if place == 8 then Load
    else (if place == 9 then Policy
    else Node)))))))))

-- the letters before the number
abbrev pub kind_letters : CodeKind → List ℕ
kind_letters Verifier = codes "V"
kind_letters Text = codes "asm"
kind_letters Image = codes "image"
kind_letters Insn = codes "insn"
kind_letters Line = codes "line"
kind_letters Frame = codes "frame"
kind_letters Discard = codes "discard"
kind_letters Status = codes "status"
kind_letters Load = codes "load"
kind_letters Policy = codes "policy"
kind_letters Node = codes "node"

-- the code of a load result: 0 for a load that was carried out, or that of a refusal
abbrev pub is_load_code : ℕ → Bool
is_load_code n = n == 0 || is_some (load_refusal_of_code n)

-- the kind has a code of the number
abbrev pub has_topic_code : CodeKind → ℕ → Bool
has_topic_code Verifier n = is_some (refusal_of_code n)
has_topic_code Text n = is_some (asm_of_code n)
has_topic_code Image n = is_some (image_fault_of_code n)
has_topic_code Insn n = is_some (bad_insn_of_code n)
has_topic_code Line n = is_some (bad_line_of_number n)
has_topic_code Frame n = is_some (frame_fault_of_code n)
has_topic_code Discard n = is_some (discard_of_code n)
has_topic_code Status n = is_some (status_of_code n)
has_topic_code Load n = is_load_code n
has_topic_code Policy n = is_some (policy_fault_of_code n)
has_topic_code Node n = is_some (node_code_of n)

-- the text of a code: the letters of its kind, and its number in decimal
abbrev pub code_text : CodeKind → ℕ → List ℕ
code_text kind n = kind_letters kind ++ decimal n

-- the text is that of the code, in upper or lower case
abbrev pub IsWritten : (code text : List ℕ) → Type 0
IsWritten code text = map to_ascii_lowercase code ≡ map to_ascii_lowercase text

-- the kind has the number, and the text writes its code
abbrev pub WritesCode : CodeKind → ℕ → List ℕ → Type 0
WritesCode kind n text = (has_topic_code kind n ≡ true) × IsWritten (code_text kind n) text

-- the text writes a code of the kind, whose number is a byte
abbrev pub HasNumber : CodeKind → List ℕ → Type 0
HasNumber kind text = (n : ℕ) × (n < 2 ^ 8) × WritesCode kind n text

-- the text is a code with its number in decimal
abbrev pub IsDecimalCode : List ℕ → Type 0
IsDecimalCode text = (kind : CodeKind) × HasNumber kind text

-- the text of a load result's code with its first byte in two hexadecimal digits, as replies have it
abbrev pub byte_text : ℕ → List ℕ
byte_text byte = codes "load" ++ encode_upper (byte ∷ [])

-- the same with 0x before the digits
abbrev pub marked_byte_text : ℕ → List ℕ
marked_byte_text byte = codes "load0x" ++ encode_upper (byte ∷ [])

-- there is such a load result, and the text writes its code in hexadecimal digits, with 0x or without
abbrev pub WritesByte : ℕ → List ℕ → Type 0
WritesByte byte text = (has_topic_code Load byte ≡ true) × (IsWritten (byte_text byte) text ⊎ IsWritten (marked_byte_text byte) text)

-- the text writes the code of a load result so
abbrev pub HasByte : List ℕ → Type 0
HasByte text = (byte : ℕ) × (byte < 2 ^ 8) × WritesByte byte text

-- the text is a code
abbrev pub IsCode : List ℕ → Type 0
IsCode text = IsDecimalCode text ⊎ HasByte text

-- the text is the code of this kind and number: in decimal, or for a load result in hexadecimal digits that are no code
-- in decimal
abbrev pub IsCodeOf : CodeKind → ℕ → List ℕ → Type 0
IsCodeOf kind n text = WritesCode kind n text ⊎ ((kind ≡ Load) × WritesByte n text × ¬ IsDecimalCode text)
