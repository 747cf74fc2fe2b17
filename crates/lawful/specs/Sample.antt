-- A worked example of the law of all ports: two ports serve a bank. Port 0 stages a program and loads it for reads. Port 1 reads the
-- bank, and sends a packet that a check of its header answers. The read is taken when the publish of the load is in the list and
-- readers do not see it yet. So in the history it comes before the load, and the factory program judges it.
use Rattle.std.specs.Prelude.{◌≡◌, ◌+◌, ℕ, zero, suc, true, false, List, [], ◌∷◌, length, Some, None}
use base.Stored.{Gv}
use Rattle.spw.specs.Cargo.{Cargo}
use Rattle.rmap.specs.declared.kind.Kind.TheVariants.{Read}
use Rattle.rmap.specs.declared.places.Place.{Place}
use Rattle.rmap.specs.declared.places.Place.TheVariants.{Bank, Staging, Control}
use Rattle.rmap.specs.declared.status.Status.{Status}
use Rattle.rmap.specs.declared.status.Status.TheVariants.{Success}
use Rattle.rmap.specs.BootRecords.{control_of}
use Rattle.rmap.specs.Checks.{header_line}
use Rattle.rmap.specs.Command.{command_kind, command_of, discard_of}
use Rattle.rmap.specs.Reply.{reply_of}
use Rattle.machine.specs.Memory.{Header}
use Rattle.bver.specs.Justified.{AcceptedValue, IsJustified}
use Rattle.brun.specs.Runs.{RunsWithin}
use Rattle.brun.specs.declared.turns.Turn.TheVariants.{Verdict}
use Rattle.bank.specs.Admission.{IsPlacedBy}
use Rattle.bank.specs.Answer.{judged_line}
use Rattle.bank.specs.Records.{JudgedValue, entry_of, first_share}
use Rattle.node_programs.specs.declared.publishes.Publish.{Publish}
use Rattle.node_programs.specs.Histories.{entry}
use Rattle.node_programs.specs.Staged.{Staged}
use Rattle.node_parts.specs.declared.config.BankConfig.{BankConfig}
use Rattle.node_parts.specs.Applied.{with_share}
use Rattle.node_parts.specs.Loaded.{after_load}
use Rattle.node_parts.specs.Loads.{IsPrepared, published_result}
use Rattle.node_parts.specs.Nodes.{first_staging}
use Rattle.node_parts.specs.Passes.{PassValue, seat_at, with_staging}
use Rattle.node_parts.specs.Stagings.{after_staged, answer_staged}
use Rattle.annals.specs.declared.deed.Act.TheVariants.{Leaves, Publishes}
use Rattle.annals.specs.declared.deed.Deed.TheVariants.{Does, Opens}
use Rattle.annals.specs.declared.deed.HistoryEntry.{HistoryEntry}
use Rattle.annals.specs.Banks.{answer_after}
use Rattle.annals.specs.Chains.{instrument, link}
use Rattle.annals.specs.Publishes.{publishes_chain, publishes_of}
use Rattle.annals.specs.Rule.{showing}
use Rattle.ports.specs.Due.{Judging, stand}
use Rattle.ports.specs.Due.Deed.{Answered as Replied, Judged}
use Rattle.sched.specs.declared.event.Event.TheVariants.{Take, Effect, Publish as PublishEvent}
use Rattle.sched.specs.declared.event.Outcome.TheVariants.{Answered, Taken, Done}
use Rattle.sched.specs.History.{History, Start, Then}
use Rattle.sched.specs.Lawful.{IsLawfulExceptAnswers}
use Rattle.sched.specs.Looking.{Node, publishes, windows_in}
use Rattle.sched.specs.Turns.{turn_after}
use Rattle.lawful.specs.Together.{Account, AreServedTogether, HaveLawfulHistory}

-- ---- what is given

-- A program, which judges at first and is then loaded for reads. Then come the packets, in the order of the text above,
-- and the status of the answer to the last.
pub record Sample : Type 0 where
  pub program : AcceptedValue
  pub home : Gv
  pub stage : Cargo
  pub load : Cargo
  pub read : Cargo
  pub wrong : Cargo
  pub status : Status

-- a bank of sixteen bytes, with room for four entries
abbrev pub sample_bank : BankConfig
sample_bank = record { base = 2684354560; size = 16; room = 4 }

abbrev pub sample_node : Sample → Node
sample_node x = record {
  address = 254;
  ports = 2;
  banks = sample_bank ∷ [];
  sizes = x.program.sizes;
  factory = x.program.program;
  firsts = [];
}

-- a packet of a port that was judged there by the factory program, whose answer was yes
abbrev pub judged_yes : Cargo → Place → (port : ℕ) → JudgedValue
judged_yes p place port = record { packet = p; place = place; port = port; generation = 0; verdict = 0 }

-- the staging of port 0 after the program was staged
abbrev pub sample_staging : Sample → Staged
sample_staging x = after_staged first_staging (judged_yes x.stage Staging 0)

-- What the example is made of. The program says yes to each command. The packets are of those places, and the control
-- write loads what was staged. A check of the header answers the last packet.
pub record IsSample (x : Sample) : Type 0 where
  pub justified : IsJustified x.program.program x.program.sizes
  pub runs : (header : Header) (port : ℕ) → RunsWithin x.program.program header port [] 0
  pub stands : (header : Header) (port : ℕ) → turn_after x.program.program header port [] ≡ Some (Verdict 0)
  pub stage : IsPlacedBy (windows_in (sample_node x)) x.stage Staging
  pub load : IsPlacedBy (windows_in (sample_node x)) x.load Control
  pub load_line : judged_line (command_of x.load) 0 ≡ None
  pub prepared : IsPrepared (control_of (command_of x.load).body) (sample_staging x).bytes x.program.sizes 0 x.program
  pub read : IsPlacedBy (windows_in (sample_node x)) x.read (Bank 0)
  pub read_kind : command_kind (command_of x.read) ≡ Read
  pub read_line : judged_line (command_of x.read) 0 ≡ None
  pub wrong : discard_of x.wrong.bytes ≡ None
  pub wrong_line : header_line (command_of x.wrong) (windows_in (sample_node x)) ≡ Some x.status

-- ---- the list

abbrev pub factory_publish : Sample → Publish
factory_publish x = entry 0 x.program

abbrev pub load_publish : Sample → Publish
load_publish x = entry 0 x.program

-- the bank begins
abbrev pub opening_link : HistoryEntry
opening_link = link 0 0 (Opens (2684354560, 16, 4)) 0

-- the factory program is published
abbrev pub factory_link : Sample → HistoryEntry
factory_link x = link publishes_chain 0 (Does (Publishes (instrument, factory_publish x))) 0

-- port 0 publishes its program
abbrev pub load_link : Sample → HistoryEntry
load_link x = link publishes_chain 1 (Does (Publishes (0, load_publish x))) 0

-- port 1 leaves the entry of its read
abbrev pub entry_link : Sample → HistoryEntry
entry_link x = link 0 1 (Does (Leaves (entry_of (first_share 1) (judged_yes x.read (Bank 0) 1) Success))) 0

-- what the list begins with: readers see the factory program
abbrev pub list_at_first : Sample → List HistoryEntry
list_at_first x = opening_link ∷ factory_link x ∷ showing ∷ []

-- port 0 published its program, and readers do not see it
abbrev pub list_at_load : Sample → List HistoryEntry
list_at_load x = opening_link ∷ factory_link x ∷ showing ∷ load_link x ∷ []

-- readers see it
abbrev pub list_before_entry : Sample → List HistoryEntry
list_before_entry x = opening_link ∷ factory_link x ∷ showing ∷ load_link x ∷ showing ∷ []

-- all of it
abbrev pub sample_list : Sample → List HistoryEntry
sample_list x = opening_link ∷ factory_link x ∷ showing ∷ load_link x ∷ showing ∷ entry_link x ∷ []

-- ---- what the ports did

-- what a port has at first
abbrev pub sample_first_pass : Sample → (port : ℕ) → PassValue
sample_first_pass x port = record {
  port = port;
  windows = windows_in (sample_node x);
  programs = factory_publish x ∷ [];
  seat = seat_at x.program.sizes x.home [];
  shares = first_share port ∷ [];
  staging = first_staging;
}

-- port 0 after the program was staged, and after it was loaded
abbrev pub pass_staged : Sample → PassValue
pass_staged x = with_staging (sample_first_pass x 0) (sample_staging x)

abbrev pub pass_loaded : Sample → PassValue
pass_loaded x = after_load (pass_staged x) (factory_publish x ∷ load_publish x ∷ []) (published_result 1)

-- port 1 after it left its entry
abbrev pub pass_entered : Sample → PassValue
pass_entered x = with_share (sample_first_pass x 1) (Bank 0) (record { port = 1; number = 1 })

-- the judgings of the three commands
abbrev pub stage_judging : Sample → Judging
stage_judging x = record {
  judged = judged_yes x.stage Staging 0;
  program = x.program;
  calls = [];
  entered = false;
  loaded = None;
  reply = (answer_staged first_staging (judged_yes x.stage Staging 0)).reply;
}

abbrev pub load_judging : Sample → Judging
load_judging x = record {
  judged = judged_yes x.load Control 0;
  program = x.program;
  calls = [];
  entered = false;
  loaded = Some (load_publish x);
  reply = reply_of (command_of x.load) Success [];
}

abbrev pub read_judging : Sample → Judging
read_judging x = record {
  judged = judged_yes x.read (Bank 0) 1;
  program = x.program;
  calls = [];
  entered = true;
  loaded = None;
  reply = (answer_after 0 (list_before_entry x) (judged_yes x.read (Bank 0) 1)).reply;
}

-- the reply to the last packet
abbrev pub wrong_reply : Sample → List ℕ
wrong_reply x = reply_of (command_of x.wrong) x.status []

-- what each port had, served and has
abbrev pub sample_accounts : Sample → ℕ → Account
sample_accounts x zero = record {
  first = stand (sample_first_pass x 0) [] [];
  last = stand (pass_loaded x) ((publishes_chain, Publishes (0, load_publish x)) ∷ []) (list_at_load x);
  packets = x.stage ∷ x.load ∷ [];
  deeds = Judged (stage_judging x) ∷ Judged (load_judging x) ∷ [];
}
sample_accounts x (suc port) = record {
  first = stand (sample_first_pass x 1) [] [];
  last = stand (pass_entered x) ((0, Leaves (entry_of (first_share 1) (judged_yes x.read (Bank 0) 1) Success)) ∷ [])
      (sample_list x);
  packets = x.read ∷ x.wrong ∷ [];
  deeds = Judged (read_judging x) ∷ Replied (wrong_reply x) ∷ [];
}

-- ---- the history

-- port 0 staged the program
abbrev pub staged_history : Sample → History
staged_history x =
    Then (Then Start (Take 0 x.stage) (Taken 0)) (Effect 0)
    (Done (answer_staged first_staging (judged_yes x.stage Staging 0)).status (stage_judging x).reply None)

-- its control write was taken, and then the read of port 1
abbrev pub taken_history : Sample → History
taken_history x = Then (Then (staged_history x) (Take 0 x.load) (Taken 0)) (Take 1 x.read) (Taken 0)

-- the program is loaded
abbrev pub loaded_history : Sample → History
loaded_history x =
    Then (taken_history x) (PublishEvent 0) (Done Success (load_judging x).reply (Some (published_result 1)))

-- the read is done, and the last packet is answered
abbrev pub sample_history : Sample → History
sample_history x =
    Then (Then (loaded_history x) (Effect 1) (Done Success (read_judging x).reply None)) (Take 1 x.wrong)
    (Answered x.status (wrong_reply x))

-- ---- wrong histories

-- the load is done, and port 1 did nothing yet
abbrev pub loaded_alone : Sample → History
loaded_alone x =
    Then (Then (staged_history x) (Take 0 x.load) (Taken 0)) (PublishEvent 0)
    (Done Success (load_judging x).reply (Some (published_result 1)))

-- the read is taken after its own end
abbrev pub late_take : Sample → History
late_take x =
    Then (Then (loaded_alone x) (Effect 1) (Done Success (read_judging x).reply None)) (Take 1 x.read) (Taken 0)

-- the load is done at its publish in the list, and not when readers see it
abbrev pub early_load : Sample → History
early_load x = Then (loaded_alone x) (Take 1 x.read) (Taken 0)

-- the load is left out
abbrev pub missing_load : Sample → History
missing_load x =
    Then (Then (Then (staged_history x) (Take 1 x.read) (Taken 0)) (Effect 1) (Done Success (read_judging x).reply None))
    (Take 1 x.wrong) (Answered x.status (wrong_reply x))

-- the first two are not lawful, and the third does not have the programs of the list
pub record WrongOnesAreRefused (x : Sample) : Type 0 where
  pub late : IsLawfulExceptAnswers (sample_node x) (late_take x) → ⊥
  pub early : IsLawfulExceptAnswers (sample_node x) (early_load x) → ⊥
  pub missing : length (publishes_of (sample_list x)) ≡ publishes (sample_node x) (missing_load x) + 1 → ⊥

-- ---- the law

-- that history is the one that the law speaks of
pub record HasSampleHistory (x : Sample) : Type 0 where
  pub has : HaveLawfulHistory (sample_node x) (sample_accounts x) (sample_list x)
  pub is : has.history ≡ sample_history x

-- the example meets all premises of the law at once, that is a history of it, and those are none
abbrev pub SampleIsLawful : Type 0
SampleIsLawful =
    (x : Sample) → IsSample x → AreServedTogether (sample_node x) (sample_accounts x) (sample_list x) × HasSampleHistory x
    × WrongOnesAreRefused x
