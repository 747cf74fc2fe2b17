-- How a judged command ends at a bank.
use Rattle.std.specs.Prelude.{◌≡◌, ℕ, List, [], true, false, None, slice_index_or, slice_set}
use Rattle.rmap.specs.declared.places.Place.{Place}
use Rattle.rmap.specs.declared.places.Place.TheVariants.{Bank, Staging, LoadResult, Control}
use Rattle.rmap.specs.declared.status.Status.TheVariants.{GeneralError}
use Rattle.rmap.specs.Command.{command_of}
use Rattle.rmap.specs.Reply.{reply_of}
use Rattle.bank.specs.declared.bank.Applied.{Applied}
use Rattle.bank.specs.Records.{BankValue, ShareValue, JudgedValue, first_share, fits, memory_of, answer_of}
use Rattle.bank.specs.Records.{after_command, number_left, next_share}
use Rattle.node_parts.specs.Passes.{PassValue}

-- the port's share of the bank of that place
abbrev pub share_of : PassValue → Place → ShareValue
share_of h (Bank k) = slice_index_or h.shares k (first_share h.port)
share_of h Staging = first_share h.port
share_of h LoadResult = first_share h.port
share_of h Control = first_share h.port

-- the port with another share of the bank of that place
abbrev pub with_share : PassValue → Place → ShareValue → PassValue
with_share h (Bank k) share = record h { shares = slice_set h.shares k share }
with_share h Staging share = h
with_share h LoadResult share = h
with_share h Control share = h

-- The command was applied. Status, memory and reply are those of its answer. Bank and share count the entry that it
-- left, and the other entries stay.
pub record IsApplied (old new : BankValue) (share : ShareValue) (holder after : PassValue) (judged : JudgedValue)
    (result : Applied) (bytes : List ℕ) : Type 0 where
  pub status : result.status ≡ (answer_of old judged).status
  pub memory : memory_of new ≡ (answer_of old judged).memory
  pub reply : bytes ≡ (answer_of old judged).reply
  pub number : result.number ≡ number_left old share judged
  pub bank : new ≡ after_command old share judged
  pub shares : after ≡ with_share holder judged.place (next_share old share judged)

-- the command was not applied: the answer is a general error, and nothing else changed
pub record IsRefused (old new : BankValue) (holder after : PassValue) (judged : JudgedValue) (result : Applied)
    (bytes : List ℕ) : Type 0 where
  pub status : result.status ≡ GeneralError
  pub number : result.number ≡ None
  pub reply : bytes ≡ reply_of (command_of judged.packet) GeneralError []
  pub bank : new ≡ old
  pub shares : after ≡ holder

-- how a judged command ends at a bank: it is applied if that share fits, else refused
pub record IsEndedAtBank (old new : BankValue) (share : ShareValue) (holder after : PassValue) (judged : JudgedValue)
    (result : Applied) (bytes : List ℕ) : Type 0 where
  pub applied : fits old share judged ≡ true → IsApplied old new share holder after judged result bytes
  pub refused : fits old share judged ≡ false → IsRefused old new holder after judged result bytes

-- how a judged command ends at a bank, by the port's own share of it (`IsEndedAtBank`)
abbrev pub IsFinished : (old new : BankValue) → (holder after : PassValue) → JudgedValue → Applied → List ℕ → Type 0
IsFinished old new holder after judged result bytes =
    IsEndedAtBank old new (share_of holder judged.place) holder after judged result bytes
