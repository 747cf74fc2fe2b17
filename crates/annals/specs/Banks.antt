-- The history of a node's banks, and what it says of each.
use Rattle.std.specs.Prelude.{ℕ, ◌≡◌, ◌≢◌, ◌<◌, ◌==◌, ◌&&◌, Bool, List, [], ◌∷◌, None, fold, length, map, replicate, slice_index, true}
use Rattle.std.specs.List.{filter, range_with_len}
use Rattle.rmap.specs.declared.places.Place.TheVariants.{Bank}
use Rattle.rmap.specs.declared.status.Status.TheVariants.{GeneralError}
use Rattle.rmap.specs.Command.{command_of}
use Rattle.rmap.specs.Reply.{reply_of}
use Rattle.bank.specs.declared.bank.Applied.{Applied}
use Rattle.bank.specs.Effect.{Memory, memory_at, with_bytes}
use Rattle.bank.specs.Answer.{answer, Answer}
use Rattle.bank.specs.Records.{EntryValue, ShareValue, JudgedValue, BankValue, after_command, after_entry, answer_of, entry_of, fits, fresh_bank, is_place_of, JournalValue, memory_of, next_share, number_left, numbers_of}
use Rattle.annals.specs.declared.deed.Act.{Act}
use Rattle.annals.specs.declared.deed.Act.TheVariants.{Leaves, Sets, Rotates, Publishes}
use Rattle.annals.specs.declared.deed.Deed.{Deed}
use Rattle.annals.specs.declared.deed.Deed.TheVariants.{Opens, Does, Asks, Shows}
use Rattle.annals.specs.declared.deed.HistoryEntry.{HistoryEntry}
use Rattle.annals.specs.Chains.{ChainValue, Due, LineValue, IsLastDeed, at_bank, chain_of, with_left}

-- that many zero bytes from an address on
abbrev pub zeros : ℕ × ℕ → Memory
zeros extent = memory_at extent.0 (replicate extent.1 0)

-- memory after an act
abbrev pub after_act : Memory → Act → Memory
after_act m (Leaves entry) = after_entry m entry
after_act m (Sets setting) = with_bytes m setting.0 setting.1
after_act m (Rotates room) = m
after_act m (Publishes publish) = m

-- memory after a deed
abbrev pub after_deed : Memory → Deed → Memory
after_deed m (Opens opening) = zeros (opening.0, opening.1)
after_deed m (Does act) = after_act m act
after_deed m (Asks due) = m
after_deed m Shows = m

-- memory after an entry of the history
abbrev pub after_link : Memory → HistoryEntry → Memory
after_link m l = after_deed m l.deed

-- the memory of a bank after a history: the replay of its chain
abbrev pub memory_after : ℕ → List HistoryEntry → Memory
memory_after bank log = fold after_link (zeros (0, 0)) (chain_of bank log)

-- the entry of a journal that a deed left, if any, before those
abbrev pub with_entry : Deed → List EntryValue → List EntryValue
with_entry (Opens opening) entries = entries
with_entry (Does act) entries = with_left act entries
with_entry (Asks due) entries = entries
with_entry Shows entries = entries

-- the entries of journals that those deeds left, in order
abbrev pub entries_in : List HistoryEntry → List EntryValue
entries_in [] = []
entries_in (l ∷ ls) = with_entry l.deed (entries_in ls)

-- all entries that a bank's journal ever had, oldest first, whatever was rotated
abbrev pub entries_of : ℕ → List HistoryEntry → List EntryValue
entries_of bank log = entries_in (chain_of bank log)

-- those of a port's commands, oldest first
abbrev pub entries_by : (port bank : ℕ) → List HistoryEntry → List EntryValue
entries_by port bank log = filter (λ (e : EntryValue). e.port == port) (entries_of bank log)

-- the answer to a judged command after a history, if there is room
abbrev pub answer_after : ℕ → List HistoryEntry → JudgedValue → Answer
answer_after bank log judged = answer (memory_after bank log) true (command_of judged.packet) judged.verdict

-- The command was done at the bank that is its place. It is the last of a history that goes on from what the port knew.
-- Status and reply are the definition's on the replay of what was before it. There the port had as many entries as its
-- share says, with the numbers from 0 on, each once.
pub record IsDoneAtBank (bank : ℕ) (known reached : List HistoryEntry) (share : ShareValue) (judged : JudgedValue) (result : Applied)
    (reply : List ℕ) : Type 0 where
  pub place : judged.place ≡ Bank bank
  pub last : IsLastDeed bank known reached (Does (Leaves (entry_of share judged result.status)))
  pub status : result.status ≡ (answer_after bank last.before judged).status
  pub numbers : numbers_of judged.port (entries_of bank last.before) ≡ range_with_len 0 share.number
  pub reply_is : reply ≡ (answer_after bank last.before judged).reply

-- The command was applied to the bank with that share. Memory, status, reply and share are those of its answer.
pub record IsAppliedTo (old new : BankValue) (share after : ShareValue) (judged : JudgedValue) (result : Applied)
    (reply : List ℕ) : Type 0 where
  pub status : result.status ≡ (answer_of old judged).status
  pub memory : memory_of new ≡ (answer_of old judged).memory
  pub reply_is : reply ≡ (answer_of old judged).reply
  pub number : result.number ≡ number_left old share judged
  pub bank : new ≡ after_command old share judged
  pub share_is : after ≡ next_share old share judged

-- a bank with its chain
pub record KeptValue : Type 0 where
  pub bank : BankValue
  pub chain : ChainValue

-- The command was not done at the bank. The answer is a general error, and all is as it was.
pub record IsRefusedAt (old new : KeptValue) (share after : ShareValue) (judged : JudgedValue) (result : Applied)
    (reply : List ℕ) : Type 0 where
  pub status : result.status ≡ GeneralError
  pub number : result.number ≡ None
  pub reply_is : reply ≡ reply_of (command_of judged.packet) GeneralError []
  pub kept : new ≡ old
  pub share_is : after ≡ share

-- of those, the numbers of the entries at that bank
abbrev pub numbers_at : ℕ → List Due → List ℕ
numbers_at bank dues = map (λ (e : EntryValue). e.number) (at_bank bank dues)

-- the entries that a port asked for at a bank have the numbers from 0 up to its share's, each once and in order
abbrev pub IsCountOf : ShareValue → (bank : ℕ) → LineValue → Type 0
IsCountOf share bank line = numbers_at bank line.asked ≡ range_with_len 0 share.number

-- The share of that bank goes on with what its port asked for there. The port asked for nothing at another bank.
pub record CountsOn (bank : ℕ) (share after : ShareValue) (old new : LineValue) : Type 0 where
  pub port : after.port ≡ share.port
  pub line : new.port ≡ old.port
  pub elsewhere : (k : ℕ) → k ≢ bank → at_bank k new.asked ≡ at_bank k old.asked
  pub counted : IsCountOf share bank old → IsCountOf after bank new

-- the bank's memory is the replay of the chain
abbrev pub IsReplayed : BankValue → ChainValue → Type 0
IsReplayed bank chain = memory_of bank ≡ memory_after chain.number chain.log

-- the entries of each port in the chain have the numbers from 0 up to the bank's count of it, each once and in order
abbrev pub IsBankCounted : BankValue → ChainValue → Type 0
IsBankCounted bank chain =
    (port : ℕ) → port < length bank.counts → numbers_of port (entries_of chain.number chain.log)
    ≡ range_with_len 0 (slice_index bank.counts port)

-- a bank of zeros, to which no command was applied
pub record IsFresh (bank : BankValue) : Type 0 where
  pub first : ℕ
  pub size : ℕ
  pub journal : JournalValue
  pub ports : ℕ
  pub fresh : bank ≡ fresh_bank first size journal ports

-- the bank is what its chain says
pub record IsBankKept (bank : BankValue) (chain : ChainValue) : Type 0 where
  pub replayed : IsReplayed bank chain
  pub counted : IsBankCounted bank chain

-- the place of the command is the bank of that number, and the command fits it
abbrev pub takes : KeptValue → ShareValue → JudgedValue → Bool
takes kept share judged = is_place_of kept.chain.number judged.place && fits kept.bank share judged
