-- What is wrong with words that order no packet.
use Rattle.std.specs.Prelude.{◌≡◌, ◌⊎◌, ℕ, Bool, true, false, List, None, codes}
use Rattle.clap.specs.Walk.{Row, Text, first_of}
use Rattle.job_parts.specs.declared.usage.UsageFault.{UsageFault}
use Rattle.job_parts.specs.declared.usage.UsageFault.TheVariants.{BadOption, Memory as WantsMemory}
use Rattle.job_packets.specs.declared.slips.PacketFault.{PacketFault}
use Rattle.job_packets.specs.declared.slips.PacketFault.TheVariants.{Words, Memory}
use Rattle.job_packets.specs.declared.slips.PacketWord.{PacketWord}
use Rattle.job_packets.specs.declared.slips.PacketWord.TheVariants as words
use Rattle.job_packets.specs.declared.slips.Slip.{Slip}
use Rattle.job_packets.specs.declared.slips.Slip.TheVariants.{Missing, Bad, Foreign}

-- ---- words

-- the name that the command line has for a word
abbrev pub word_id : PacketWord → List ℕ
word_id words.Kind = codes "kind"
word_id words.Address = codes "address"
word_id words.Length = codes "data"
word_id words.Data = codes "data"
word_id words.Masked = codes "data"
word_id words.Mask = codes "mask"
word_id words.Slot = codes "slot"
word_id words.Verify = codes "verify"
word_id words.NoReply = codes "no-reply"
word_id words.NoIncrement = codes "no-increment"
word_id words.Final = codes "final"
word_id words.Port = codes "port"
word_id words.Target = codes "target"
word_id words.Key = codes "key"
word_id words.Initiator = codes "initiator"
word_id words.Transaction = codes "transaction"
word_id words.Extended = codes "extended"
word_id words.ReplyAddress = codes "reply-address"

-- the word is a flag, which has no value
abbrev pub is_flag : PacketWord → Bool
is_flag words.Kind = false
is_flag words.Address = false
is_flag words.Length = false
is_flag words.Data = false
is_flag words.Masked = false
is_flag words.Mask = false
is_flag words.Slot = false
is_flag words.Verify = true
is_flag words.NoReply = true
is_flag words.NoIncrement = true
is_flag words.Final = true
is_flag words.Port = false
is_flag words.Target = false
is_flag words.Key = false
is_flag words.Initiator = false
is_flag words.Transaction = false
is_flag words.Extended = false
is_flag words.ReplyAddress = false

-- ---- slips

-- the word of a slip
abbrev pub slip_word_of : Slip → PacketWord
slip_word_of (Missing word) = word
slip_word_of (Bad word) = word
slip_word_of (Foreign word) = word

-- the fault of a word that is not one that it may be
abbrev pub bad_word : PacketWord → PacketFault
bad_word word = Words (Bad word)

-- the words have a slip
abbrev pub IsSlip : PacketFault → Type 0
IsSlip (Words slip) = Unit {0}
IsSlip Memory = ⊥

-- the slip of words that are not right
abbrev pub IsBadWord : (right : Type 0) → PacketFault → Type 0
IsBadWord right fault = IsSlip fault × ¬ right

-- the same; or memory was refused
abbrev pub IsWordFault : (right : Type 0) → PacketFault → Type 0
IsWordFault right fault = (fault ≡ Memory) ⊎ IsBadWord right fault

-- the slip if the word of this name is not there
abbrev pub LacksWord : (name : Text) → List Row → PacketFault → Type 0
LacksWord name rows fault = IsSlip fault × (first_of name rows ≡ None)

-- the fault of a command line: a slip is a bad option
abbrev pub usage_fault_of : PacketFault → UsageFault
usage_fault_of (Words slip) = BadOption
usage_fault_of Memory = WantsMemory
